use Rattle.file_ops.specs.Giving.{Gives, IsAmong}
use Rattle.file_ops.proofs.giving.give_back_pages.Given as goal

abbrev pub invariant-loop-i : goal.invariant-loop-i
invariant-loop-i l = Gives (IsAmong l.pages l.i) l.fn.free l.free
