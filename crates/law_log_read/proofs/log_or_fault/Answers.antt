use Rattle.law_log_read.proofs.LogRead.{log_read}
use Rattle.law_log_read.proofs.log_or_fault.Goals as goal

pub returns : goal.returns
returns c = log_read
