use Rattle.name_ops.specs.Ending.{LetsGoOf, IsAmong}
use Rattle.name_ops.proofs.ending.let_go.Given as goal

abbrev pub invariant-loop-i : goal.invariant-loop-i
invariant-loop-i l = LetsGoOf (IsAmong l.held l.i) l.fn.inodes.items l.inodes.items
