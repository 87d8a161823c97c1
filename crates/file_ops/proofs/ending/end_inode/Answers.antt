use Rattle.file_ops.proofs.Changed.{maps_at}
use Rattle.file_ops.proofs.ending.end_inode.Goals as goal

pub returns : goal.returns
returns c = maps_at c.args.ino c.args.size c.args.tail c.args.fresh.now c.args.runs.now c.args.inodes.now.items c.index_mut.result.now
    c.end_state.new.node c.requires.there c.index_mut.ensures.value (c.end_state.ensures c.args.ino)
