use Rattle.pm_device.proofs.Only.{stores_only-then}
use Rattle.fact_scan.specs.Seen.{as_row}
use Rattle.fact_counts.proofs.Counting.{on_ok_map}
use Rattle.table_repair.proofs.OneRow.{then_settle, then_images, then_settled}
use Rattle.table_repair.proofs.settle.settle_row.Goals as goal

pub returns-clause-images : goal.returns-clause-images
returns-clause-images g c =
    let S = g.D.Pm.state in
    λ d is. let made = c.in_ok-count_row.ensures.done d is in
    then_images d c.args.fact.now (as_row c.args.row.now) c.args.mappings (S c.args.device.now) is (S c.count_row.new.device) made
    (S c.drop_row.new.device) (c.count_row.ensures.images d is)
    (c.drop_row.ensures.images made.disk (then_settle d c.args.fact.now (as_row c.args.row.now) c.args.mappings (S c.args.device.now) is
    (S c.count_row.new.device) made))

pub returns-clause-done : goal.returns-clause-done
returns-clause-done g c =
    let S = g.D.Pm.state in
    on_ok_map c.drop_row.result _ _
    (λ settles d is. let made = c.in_ok-count_row.ensures.done d is in
    then_settled d c.args.fact.now (as_row c.args.row.now) c.args.mappings (S c.args.device.now) is (S c.count_row.new.device) made
    c.drop_row.new.fact (S c.drop_row.new.device)
    (settles made.disk (then_settle d c.args.fact.now (as_row c.args.row.now) c.args.mappings (S c.args.device.now) is (S c.count_row.new.device)
    made)))
    c.drop_row.ensures.done

pub returns-clause-only : goal.returns-clause-only
returns-clause-only g c =
    let S = g.D.Pm.state in
    stores_only-then _ (S c.args.device.now) (S c.count_row.new.device) (S c.drop_row.new.device) c.count_row.ensures.only c.drop_row.ensures.only

pub returns-clause-still : goal.returns-clause-still
returns-clause-still g c = on_ok_map c.drop_row.result _ _ (λ kept still. kept (c.in_ok-count_row.ensures.still still)) c.drop_row.ensures.still

pub returns-clause-quiet : goal.returns-clause-quiet
returns-clause-quiet g c =
    let S = g.D.Pm.state in
    λ still some. stores_only-then _ (S c.args.device.now) (S c.count_row.new.device) (S c.drop_row.new.device) (c.count_row.ensures.quiet still)
    (c.drop_row.ensures.quiet some)
