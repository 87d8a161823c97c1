use Rattle.std.proofs.Common.{arith}
use Rattle.name_ops.proofs.FoundNew.{none_waits}
use Rattle.name_ops.proofs.create.find_none.Goals as goal

pub returns-else-waiting-gt0 : goal.returns-else-waiting-gt0
returns-else-waiting-gt0 c = none_waits c.args.parts.now (omega (arith, c.if-waiting-gt0.false))
