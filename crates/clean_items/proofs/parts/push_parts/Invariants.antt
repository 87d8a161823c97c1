use Rattle.std.proofs.Common.{◌≡◌, ◌-◌, ◌++◌}
use Rattle.clean_items.specs.Cleaning.{maps_still, parts_to}
use Rattle.clean_items.proofs.parts.push_parts.Given as goal

abbrev pub invariant-loop-from : goal.invariant-loop-from
invariant-loop-from l = l.parts.items ≡ l.initial.parts.items ++ parts_to (maps_still l.places.map l.write.slot) l.size l.write.first l.write.count
    l.write.block l.write.flag l.write.mask (l.from - l.write.first)
