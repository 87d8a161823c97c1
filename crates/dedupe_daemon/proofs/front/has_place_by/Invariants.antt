use Rattle.std.specs.Prelude.{ℕ, ◌<◌}
use Rattle.dedupe_daemon.specs.Fronts.{IsPlaceBy}
use Rattle.dedupe_daemon.proofs.front.has_place_by.Given as goal

abbrev pub invariant-loop-idx : goal.invariant-loop-idx
invariant-loop-idx l = (k : ℕ) → k < l.idx → IsPlaceBy l.map.map l.slot k → ⊥
