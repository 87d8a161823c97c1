use Rattle.std.proofs.Common.{map, take}
use Rattle.fact_table.specs.Seen.{as_row}
use Rattle.fact_table.specs.Loaded.{AreUsed}
use Rattle.fact_table.proofs.load.used_slots.Given as goal

abbrev pub invariant-loop-row : goal.invariant-loop-row
invariant-loop-row l = AreUsed l.g (map as_row (take l.row-index l.rows)) l.used.items
