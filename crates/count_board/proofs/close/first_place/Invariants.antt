use Rattle.std.proofs.Common.{ℕ, ◌≤◌, ◌-◌, length}
use Rattle.count_board.specs.Passes.{IsFirstAt}
use Rattle.count_board.proofs.close.first_place.Given as goal

abbrev pub invariant-loop-place : goal.invariant-loop-place
invariant-loop-place g l = (k : ℕ) × (l.place ≤ k) × IsFirstAt l.passes k

abbrev pub decreases-loop-place : goal.decreases-loop-place
decreases-loop-place g l = length l.passes - l.place
