use Rattle.law_write.proofs.WriteEvent.{written_stands}
use Rattle.law_write.proofs.writes.writes_stand.Goals as goal

pub returns : goal.returns
returns c = written_stands
