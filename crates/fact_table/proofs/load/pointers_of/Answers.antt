use Rattle.std.proofs.Common.{◌+◌, List, [], map, take, slice_set, get_or, sym, subst, arith}
use Rattle.dn_model.specs.Table.{Row as TableRow}
use Rattle.fact_scan.specs.declared.row.Row.{Row}
use Rattle.fact_scan.specs.Seen.{as_row}
use Rattle.fact_table.specs.Loaded.{ArePointers}
use Rattle.fact_table.proofs.Loading.{rows-more, slots-few, pointers-more}
use Rattle.fact_table.proofs.load.pointers_of.Goals as goal

none : Row
none = record { slot = 0; print = []; page = 0; count = record { rfc = 0; uc = 0 } }

pub overflow_add-row : goal.overflow_add-row
unfolding none
overflow_add-row c =
    let small = c.requires.slots c.loop-row.row-index none c.loop-row-test.true in
    let few = slots-few c.args.g.now c.requires.accepted in
    omega (arith, small, few)

pub loop-row-preserved : goal.loop-row-preserved
unfolding none
loop-row-preserved c =
    let row = get_or c.args.rows.now c.loop-row.row-index none in
    let small = c.requires.pages c.loop-row.row-index none c.loop-row-test.true in
    subst (λ (rs : List TableRow). ArePointers c.args.g.now rs (slice_set c.loop-row.wanted.items row.page (row.slot + 1)))
    (sym (rows-more c.args.rows.now c.loop-row.row-index none c.loop-row-test.true))
    (pointers-more c.args.g.now (map as_row (take c.loop-row.row-index c.args.rows.now)) c.loop-row.wanted.items c.loop-row.invariant (as_row row)
    small)
