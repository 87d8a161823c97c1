use Rattle.std.proofs.Common.{refl, arith}
use Rattle.pm_device.proofs.Only.{stores_only-none}
use Rattle.fact_scan.specs.Seen.{as_row}
use Rattle.fact_calls.proofs.Called.{both_done}
use Rattle.fact_calls.proofs.Words.{only_table, counts_in}
use Rattle.table_repair.proofs.OneRow.{no_images, count_none, count_images, count_made}
use Rattle.fact_counts.proofs.Counting.{on_ok_map}
use Rattle.table_repair.proofs.Stills.{settles_still}
use Rattle.table_repair.proofs.settle.count_row.Goals as goal

pub returns-then-row-eq0-clause-images : goal.returns-then-row-eq0-clause-images
returns-then-row-eq0-clause-images g c = λ d is. no_images d c.args.fact.now (as_row c.args.row.now) c.args.mappings (g.D.Pm.state c.args.device.now)
    is (g.met.D.Pm.agree c.args.device.now)

pub returns-then-row-eq0-clause-done : goal.returns-then-row-eq0-clause-done
returns-then-row-eq0-clause-done g c = λ d is. count_none d c.args.fact.now (as_row c.args.row.now) c.args.mappings (g.D.Pm.state c.args.device.now)
    is c.if-row-eq0.true

pub returns-then-row-eq0-clause-only : goal.returns-then-row-eq0-clause-only
returns-then-row-eq0-clause-only g c = stores_only-none _ (g.D.Pm.state c.args.device.now) (g.met.D.Pm.agree c.args.device.now)

pub returns-clause-only : goal.returns-clause-only
returns-clause-only g c =
    let S = g.D.Pm.state in
    let has = c.requires.row in
    only_table c.args.fact.now.geometry _ (counts_in has.disk (S c.args.device.now).now c.args.fact.now has.is.stands.table c.args.row.now.slot
    (as_row c.args.row.now) (record { there = has.is.there; slot_is = refl })) (S c.args.device.now) (S c.recount.new.device) c.recount.ensures.only

pub returns-clause-images : goal.returns-clause-images
returns-clause-images g c =
    let S = g.D.Pm.state in
    λ d is. count_images d c.args.fact.now (as_row c.args.row.now) c.args.mappings (S c.args.device.now) is (S c.recount.new.device)
    (returns-clause-only g c) c.if-row-eq0.false (omega arith) (g.met.D.Pm.agree c.recount.new.device) c.recount.ensures.images

pub returns-clause-done : goal.returns-clause-done
returns-clause-done g c =
    let S = g.D.Pm.state in
    both_done c.recount.result _ _ _
    (λ makes settles d is. count_made d c.args.fact.now (as_row c.args.row.now) c.args.mappings (S c.args.device.now) is (S c.recount.new.device)
    (returns-clause-only g c) c.if-row-eq0.false (omega arith) makes settles)
    c.recount.ensures.table c.recount.ensures.settled

pub returns-clause-still : goal.returns-clause-still
returns-clause-still g c =
    let S = g.D.Pm.state in
    on_ok_map c.recount.result _ _ (settles_still c.args.who (S c.args.device.now) (S c.recount.new.device)) c.recount.ensures.settles

pub returns-then-row-eq0-clause-quiet : goal.returns-then-row-eq0-clause-quiet
returns-then-row-eq0-clause-quiet g c = λ still. stores_only-none _ (g.D.Pm.state c.args.device.now) (g.met.D.Pm.agree c.args.device.now)

pub returns-clause-quiet : goal.returns-clause-quiet
returns-clause-quiet g c = λ still. absurd (c.if-row-eq0.false still)
