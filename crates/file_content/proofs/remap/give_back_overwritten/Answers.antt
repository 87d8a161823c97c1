use Rattle.file_content.proofs.Freeing.{next_taken, blocks-next}
use Rattle.file_content.proofs.remap.give_back_overwritten.Goals as goal

pub give_back_block-requires-clause-taken : goal.give_back_block-requires-clause-taken
give_back_block-requires-clause-taken c =
    next_taken c.args.map.now.map c.args.first c.loop-i.i c.args.free.now c.loop-i.free c.loop-i.invariant c.args.places c.get.result c.get.ensures
    c.loop-i-test.true (c.requires.taken c.loop-i.i c.loop-i-test.true) c.requires.apart

pub loop-i-preserved : goal.loop-i-preserved
loop-i-preserved c = blocks-next c.args.map.now.map c.args.first c.loop-i.i c.args.free.now c.loop-i.free c.loop-i.invariant c.get.result
    c.give_back_block.new.free c.get.ensures c.give_back_block.ensures
