use Rattle.std.specs.Prelude.{ℕ, List}
use Rattle.reclaim.specs.Walked.{LeadsThrough, IsWalking}
use Rattle.reclaim.proofs.end.give_back_log.Given as goal

abbrev pub invariant-loop-i : goal.invariant-loop-i
invariant-loop-i g l = (pages : List ℕ) → LeadsThrough (g.D.Pm.state l.device).now l.g l.ino pages → IsWalking pages l._i l.page l.fn.free l.free
