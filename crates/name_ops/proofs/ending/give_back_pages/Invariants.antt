use Rattle.name_ops.specs.Ending.{Gives, IsAmong}
use Rattle.name_ops.proofs.ending.give_back_pages.Given as goal

abbrev pub invariant-loop-i : goal.invariant-loop-i
invariant-loop-i l = Gives (IsAmong l.pages l.i) l.fn.free l.free
