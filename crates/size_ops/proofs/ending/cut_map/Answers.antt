use Rattle.std.proofs.Common.{◌∙◌, ℕ, List, ap, length, arith}
use Rattle.std.specs.Prelude.{slice_get}
use Rattle.size_ops.proofs.Cutting.{map_refilled, first_read}
use Rattle.size_ops.proofs.ending.cut_map.Goals as goal

pub returns-in-Some : goal.returns-in-Some
returns-in-Some c = map_refilled c.args.change.now c.args.tail c.args.fresh.now c.args.map.now c.cut.new.self c.set.new.self c.first_gone.result
    c.in-Some.block.now c.slot_after-slot.result c.first_gone.ensures c.cut.ensures c.set.ensures
    (omega (arith, c.in-Some.ensures.item, ap length c.deref.ensures.value))
    (first_read c.args.change.now.blocks.items c.in-Some.block.now (c.in-Some.ensures.value ∙ ap (λ (xs : List ℕ). slice_get xs 0)
    c.deref.ensures.value)) c.requires.can.first c.slot_after-slot.ensures
