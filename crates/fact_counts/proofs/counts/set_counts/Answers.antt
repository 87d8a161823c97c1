use Rattle.fact_counts.proofs.Counting.{slot_small, set_images, set_table, set_settled, on_ok_map}
use Rattle.fact_counts.proofs.counts.set_counts.Goals as goal

pub set_field-requires-clause-slot : goal.set_field-requires-clause-slot
set_field-requires-clause-slot g c = slot_small c.args.fact.now c.args.slot (g.D.Pm.state c.args.device.now).now c.geometry.result c.geometry.ensures
    c.requires.row

pub returns-clause-images : goal.returns-clause-images
returns-clause-images g c =
    let S = g.D.Pm.state in
    set_images c.args.fact.now c.args.slot c.args.who c.args.counts (S c.args.device.now) (S c.set_field.new.device) c.geometry.result
    c.geometry.ensures c.word.result c.word.ensures
    c.requires.rfc c.requires.uc c.set_field.ensures.any_moment

pub returns-clause-table : goal.returns-clause-table
returns-clause-table g c =
    let S = g.D.Pm.state in
    on_ok_map c.set_field.result _ _
    (set_table c.args.fact.now c.args.slot c.args.who c.args.counts (S c.args.device.now) (S c.set_field.new.device) c.geometry.result
    c.geometry.ensures c.word.result c.word.ensures
    c.requires.rfc c.requires.uc c.set_field.ensures.only) c.set_field.ensures.done

pub returns-clause-settled : goal.returns-clause-settled
returns-clause-settled g c =
    let S = g.D.Pm.state in
    on_ok_map c.set_field.result _ _
    (set_settled c.args.fact.now c.args.slot c.args.who c.args.counts (S c.args.device.now) (S c.set_field.new.device) c.geometry.result
    c.geometry.ensures c.word.result c.word.ensures
    c.requires.rfc c.requires.uc c.set_field.ensures.only) c.set_field.ensures.done
