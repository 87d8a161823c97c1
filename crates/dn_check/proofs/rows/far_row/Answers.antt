use Rattle.std.proofs.Common.{[], get_or}
use Rattle.fact_scan.specs.declared.row.Row.{Row}
use Rattle.image_head.proofs.Refuted.{refuted}
use Rattle.dn_check.specs.RowCounts.{IsNearBy}
use Rattle.dn_check.proofs.Firsts.{first_far}
use Rattle.dn_check.proofs.rows.far_row.Goals as goal

none : Row
none = record { slot = 0; print = []; page = 0; count = record { rfc = 0; uc = 0 } }

pub returns-then-not-is_near-clause-some : goal.returns-then-not-is_near-clause-some
unfolding none
returns-then-not-is_near-clause-some c =
    first_far c.args.mapped.now c.args.rows.now c.loop-row.row-index none c.loop-row-test.true c.loop-row.invariant
    (refuted c.is_near.result (IsNearBy c.args.mapped.now (get_or c.args.rows.now c.loop-row.row-index none)) c.is_near.ensures.1
    c.if-not-is_near.true)
