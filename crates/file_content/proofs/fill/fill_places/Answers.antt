use Rattle.file_content.proofs.FillSteps.{fills-next}
use Rattle.file_content.proofs.fill.fill_places.Goals as goal

pub loop-i-preserved : goal.loop-i-preserved
loop-i-preserved g c =
    let S = g.D.Pm.state in
    fills-next c.args.g.now c.args.who c.args.map.now.map c.args.size c.args.first c.args.at c.args.text.now c.args.blocks.now c.loop-i.i
    (S c.args.device.now) (S c.loop-i.device) (S c.fill_place.new.device)
    c.loop-i-test.true c.loop-i.invariant c.fill_place.ensures.only c.requires.device c.requires.apart c.fill_place.ensures.keeps
    c.fill_place.ensures.spare c.fill_place.ensures.faults c.fill_place.ensures.filled
