use Rattle.std.proofs.Common.{refl, arith}
use Rattle.pm_device.proofs.Only.{stores_only-none}
use Rattle.fact_scan.specs.Seen.{as_row}
use Rattle.fact_calls.proofs.Called.{both_done}
use Rattle.fact_calls.proofs.Words.{only_table, zero_in}
use Rattle.table_repair.specs.Settling.{with_count}
use Rattle.table_repair.proofs.OneRow.{no_images, gone_none, has_zero, gone_images, gone_made}
use Rattle.fact_counts.proofs.Counting.{on_ok_map}
use Rattle.table_repair.proofs.Stills.{settles_still}
use Rattle.table_repair.proofs.settle.drop_row.Goals as goal

pub returns-then-mappings-ne0-clause-images : goal.returns-then-mappings-ne0-clause-images
returns-then-mappings-ne0-clause-images g c =
    λ d is. no_images d c.args.fact.now (with_count (as_row c.args.row.now) c.args.mappings) c.args.mappings (g.D.Pm.state c.args.device.now) is
    (g.met.D.Pm.agree c.args.device.now)

pub returns-then-mappings-ne0-clause-done : goal.returns-then-mappings-ne0-clause-done
returns-then-mappings-ne0-clause-done g c =
    λ d is. gone_none d c.args.fact.now (with_count (as_row c.args.row.now) c.args.mappings) c.args.mappings (g.D.Pm.state c.args.device.now) is refl
    refl c.if-mappings-ne0.true

pub returns-then-mappings-ne0-clause-only : goal.returns-then-mappings-ne0-clause-only
returns-then-mappings-ne0-clause-only g c = stores_only-none _ (g.D.Pm.state c.args.device.now) (g.met.D.Pm.agree c.args.device.now)

pub returns-clause-only : goal.returns-clause-only
returns-clause-only g c =
    let S = g.D.Pm.state in
    let has = c.requires.row in
    let zero = has_zero has.disk c.args.fact.now (with_count (as_row c.args.row.now) c.args.mappings) c.args.mappings (S c.args.device.now) has.is
    (omega arith) refl (omega (arith, has.is.counted)) in
    only_table c.args.fact.now.geometry _ (zero_in zero.disk zero.row (S c.args.device.now).now c.args.fact.now c.args.row.now.slot zero.may)
    (S c.args.device.now)
    (S c.remove_zero.new.device) (c.remove_zero.ensures.only zero.disk zero.row zero.may)

pub returns-clause-images : goal.returns-clause-images
returns-clause-images g c =
    let S = g.D.Pm.state in
    λ d is. gone_images d c.args.fact.now (with_count (as_row c.args.row.now) c.args.mappings) c.args.mappings (S c.args.device.now) is (omega arith)
    refl (omega (arith, is.counted)) (S c.remove_zero.new.device) (returns-clause-only g c) (g.met.D.Pm.agree c.remove_zero.new.device)
    c.remove_zero.ensures.images

pub returns-clause-done : goal.returns-clause-done
returns-clause-done g c =
    let S = g.D.Pm.state in
    both_done c.remove_zero.result _ _ _
    (λ makes settles d is. gone_made d c.args.fact.now (with_count (as_row c.args.row.now) c.args.mappings) c.args.mappings (S c.args.device.now) is
    (omega arith) refl (omega (arith, is.counted)) (S c.remove_zero.new.device) (returns-clause-only g c) c.remove_zero.new.fact makes settles)
    c.remove_zero.ensures.done c.remove_zero.ensures.settled

pub returns-clause-still : goal.returns-clause-still
returns-clause-still g c =
    let S = g.D.Pm.state in
    on_ok_map c.remove_zero.result _ _ (settles_still c.args.who (S c.args.device.now) (S c.remove_zero.new.device)) c.remove_zero.ensures.settles

pub returns-then-mappings-ne0-clause-quiet : goal.returns-then-mappings-ne0-clause-quiet
returns-then-mappings-ne0-clause-quiet g c = λ some. stores_only-none _ (g.D.Pm.state c.args.device.now) (g.met.D.Pm.agree c.args.device.now)

pub returns-clause-quiet : goal.returns-clause-quiet
returns-clause-quiet g c = λ some. absurd (some (omega arith))
