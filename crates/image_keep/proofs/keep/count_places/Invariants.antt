use Rattle.std.proofs.Common.{◌≡◌, ◌≤◌}
use Rattle.dn_model.specs.Counts.{total}
use Rattle.image_keep.specs.Keeping.{place_hit}
use Rattle.image_keep.proofs.keep.count_places.Given as goal

abbrev pub invariant-loop-idx : goal.invariant-loop-idx
invariant-loop-idx l = (l.count ≡ total l.idx (place_hit l.map.map)) × (l.count ≤ l.idx)
