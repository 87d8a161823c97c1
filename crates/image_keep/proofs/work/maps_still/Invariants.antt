use Rattle.std.proofs.Common.{ℕ, ◌+◌, ◌<◌}
use Rattle.image_keep.specs.Needed.{IsBy}
use Rattle.image_keep.proofs.work.maps_still.Given as goal

abbrev pub invariant-loop-i : goal.invariant-loop-i
invariant-loop-i l = (k : ℕ) → k < l.i → IsBy l.map.map l.slot (l.first + k) → ⊥
