use Rattle.std.proofs.Common.{◌≡◌, take}
use Rattle.clean_items.specs.Cleaning.{parts_by}
use Rattle.clean_items.proofs.parts.parts_by.Given as goal

abbrev pub invariant-loop-i : goal.invariant-loop-i
invariant-loop-i l = l.parts.items ≡ parts_by l.places.map l.size (take l.i l.items)
