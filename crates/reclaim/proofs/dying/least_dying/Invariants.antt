use Rattle.std.specs.Prelude.{ℕ, ◌<◌}
use Rattle.reclaim.specs.Dying.{IsDying}
use Rattle.reclaim.proofs.dying.least_dying.Given as goal

abbrev pub invariant-loop-i : goal.invariant-loop-i
invariant-loop-i l = (k : ℕ) → k < l.i → IsDying l.inodes k → ⊥
