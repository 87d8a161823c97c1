use Rattle.std.proofs.Common.{ℕ, ◌<◌, get_or}
use Rattle.fact_scan.specs.declared.row.Row.{Row}
use Rattle.dn_check.specs.RowCounts.{IsNearBy}
use Rattle.dn_check.proofs.rows.far_row.Given as goal

abbrev pub invariant-loop-row : goal.invariant-loop-row
invariant-loop-row l = (k : ℕ) (d : Row) → k < l.row-index → IsNearBy l.mapped (get_or l.rows k d)
