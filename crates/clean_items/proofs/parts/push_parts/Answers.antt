use Rattle.clean_items.specs.Cleaning.{maps_still}
use Rattle.clean_items.proofs.PartsLoop.{parts_to-more}
use Rattle.clean_items.proofs.parts.push_parts.Goals as goal

pub loop-from-preserved : goal.loop-from-preserved
loop-from-preserved c = parts_to-more (maps_still c.args.places.now.map c.args.write.slot) c.args.size c.args.write.first c.args.write.count
    c.args.write.block c.args.write.flag c.args.write.mask c.loop-from.from c.args.parts.now.items c.loop-from.parts.items c.push_run.new.parts.items
    c.loop-from.auto.from c.loop-from.invariant c.in_ok-push_run.ensures
