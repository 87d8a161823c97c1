use Rattle.std.proofs.Common.{◌<◌, sym, subst}
use Rattle.file_ops.proofs.GivenPages.{places_next, places_taken, if_page}
use Rattle.file_ops.proofs.giving.give_back_unshared.Goals as goal

pub unshared_page-page-requires-clause-table : goal.unshared_page-page-requires-clause-table
unshared_page-page-requires-clause-table g c = let can = c.requires.can in record { disk = can.disk; is = can.table }

pub give_back_page-requires-clause-below : goal.give_back_page-requires-clause-below
give_back_page-requires-clause-below g c =
    let can = c.requires.can in
    if_page c.unshared_page-page.result _ (λ p is.
    subst (λ n. p < n) (sym (c.loop-i.invariant can.disk can.table).pages)
    (can.below c.loop-i.i p c.loop-i-test.true ((c.unshared_page-page.ensures can.disk can.table p).0 is)))

pub give_back_page-requires-clause-taken : goal.give_back_page-requires-clause-taken
give_back_page-requires-clause-taken g c =
    let can = c.requires.can in
    if_page c.unshared_page-page.result _ (λ p is.
    places_taken can.disk c.args.map.now.map c.args.first c.args.free.now c.loop-i.free c.loop-i.i c.args.places p c.loop-i-test.true
    ((c.unshared_page-page.ensures can.disk can.table p).0 is) can.taken can.apart
    (c.loop-i.invariant can.disk can.table))

pub loop-i-preserved : goal.loop-i-preserved
loop-i-preserved g c = λ d table.
    places_next d c.args.map.now.map c.args.first c.args.free.now c.loop-i.free c.loop-i.i c.unshared_page-page.result c.give_back_page.new.free
    (c.unshared_page-page.ensures d table) (c.loop-i.invariant d table)
    c.give_back_page.ensures
