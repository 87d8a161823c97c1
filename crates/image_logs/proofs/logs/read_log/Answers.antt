use Rattle.std.proofs.Common.{refl}
use Rattle.image_logs.proofs.logs.read_log.Goals as goal

pub returns-in-Err-Bad-clause-fault : goal.returns-in-Err-Bad-clause-fault
returns-in-Err-Bad-clause-fault g c = (refl, (rw c.in-Err-Bad.field-0-is at c.in-Err-Bad.ensures.fault))
