use Rattle.std.proofs.Common.{ℕ, List, sym, subst}
use Rattle.dn_model.specs.declared.op.Op.{Op}
use Rattle.file_content.specs.Pages.{FillsPlace}
use Rattle.file_ops.specs.Filling.{FillsByOp, FillsBytes}
use Rattle.file_ops.proofs.FillBytes.{fills_write, fills_cut}
use Rattle.file_ops.proofs.fill.fill_by.Goals as goal

pub returns-in-Write-clause-filled : goal.returns-in-Write-clause-filled
returns-in-Write-clause-filled g c =
    let S = g.D.Pm.state in
    let w = c.in-Write in
    subst (λ (op : Op). FillsByOp c.args.g.now c.args.who c.args.map.now.map c.args.size op c.args.place c.args.block (S c.args.device.now)
    (S c.fill_place.new.device)) (sym w.is)
    (fills_write c.args.g.now c.args.who c.args.map.now.map c.args.size c.args.place c.args.block (S c.args.device.now) (S c.fill_place.new.device)
    w.name w.at w.bytes
    (subst (λ (text : List ℕ). FillsPlace c.args.g.now c.args.who c.args.map.now.map c.args.size c.args.place w.at text c.args.block
    (S c.args.device.now) (S c.fill_place.new.device)) c.bytes.ensures c.fill_place.ensures.filled))

pub returns-in-Cut-clause-filled : goal.returns-in-Cut-clause-filled
returns-in-Cut-clause-filled g c =
    let S = g.D.Pm.state in
    let w = c.in-Cut in
    subst (λ (op : Op). FillsByOp c.args.g.now c.args.who c.args.map.now.map c.args.size op c.args.place c.args.block (S c.args.device.now)
    (S c.fill_place-in-Cut.new.device)) (sym w.is)
    (fills_cut c.args.g.now c.args.who c.args.map.now.map c.args.size c.args.place c.args.block (S c.args.device.now)
    (S c.fill_place-in-Cut.new.device) w.name w.to (subst (λ (op : Op). FillsBytes op c.args.size) w.is c.requires.op)
    c.fill_place-in-Cut.ensures.filled)
