use Rattle.law_write.proofs.WriteOwn.{own-written}
use Rattle.law_write.proofs.writes.writes_stay_own.Goals as goal

pub returns : goal.returns
returns c = own-written
