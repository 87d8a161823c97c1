use Rattle.law_write.proofs.WriteValid.{written_valid}
use Rattle.law_write.proofs.writes.writes_stay_valid.Goals as goal

pub returns : goal.returns
returns c = written_valid
