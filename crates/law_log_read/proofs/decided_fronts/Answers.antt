use Rattle.law_log_read.proofs.FrontDecided.{fronts_decided}
use Rattle.law_log_read.proofs.decided_fronts.Goals as goal

pub returns : goal.returns
returns c = fronts_decided
