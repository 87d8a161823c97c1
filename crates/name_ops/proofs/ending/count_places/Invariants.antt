use Rattle.std.specs.Prelude.{◌≡◌}
use Rattle.name_ops.proofs.Counted.{places_to}
use Rattle.name_ops.proofs.ending.count_places.Given as goal

abbrev pub invariant-loop-idx : goal.invariant-loop-idx
invariant-loop-idx l = l.places ≡ places_to l.fn.map.map l.idx
