use Rattle.std.proofs.Common.{map, take}
use Rattle.fact_table.specs.Seen.{as_row}
use Rattle.fact_table.specs.Loaded.{ArePointers}
use Rattle.fact_table.proofs.load.pointers_of.Given as goal

abbrev pub invariant-loop-row : goal.invariant-loop-row
invariant-loop-row l = ArePointers l.g (map as_row (take l.row-index l.rows)) l.wanted.items
