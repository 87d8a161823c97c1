use Rattle.law_table_on_disk.proofs.PutPointers.{may_point, pointed_puts, removed_clears, stale_clears}
use Rattle.law_table_on_disk.proofs.row_changes.pointers_go_with_rows.Goals as goal

pub returns-clause-led : goal.returns-clause-led
returns-clause-led c = may_point

pub returns-clause-put : goal.returns-clause-put
returns-clause-put c = pointed_puts

pub returns-clause-cleared : goal.returns-clause-cleared
returns-clause-cleared c = removed_clears

pub returns-clause-stale : goal.returns-clause-stale
returns-clause-stale c = stale_clears
