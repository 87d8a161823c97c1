use Rattle.std.proofs.Common.{List, map, sym, subst}
use Rattle.dn_model.specs.Disk.{Disk}
use Rattle.fact_scan.specs.Seen.{as_row}
use Rattle.fact_table.specs.Table.{IsTable}
use Rattle.fact_table.proofs.Whole.{table_of}
use Rattle.fact_table.proofs.fact.Fact.of_rows.Goals as goal

pub returns-clause-table : goal.returns-clause-table
returns-clause-table c d words has =
    subst (IsTable d words) (sym c.of_parts.ensures)
    (table_of d c.args.g.now words (map as_row c.args.rows.now) c.in_ok-free.free c.requires.accepted has c.in_ok-free.ensures)
