use Rattle.reclaim.proofs.NodesChanged.{changes_at}
use Rattle.log_clean.specs.Finishing.{HasNewLog}
use Rattle.log_clean.proofs.finish.relog_inode.Goals as goal

pub returns : goal.returns
returns c = changes_at (HasNewLog c.args.pages c.args.map) c.args.ino c.args.inodes.now.items c.index_mut.result.now c.relog_state.new.node
    c.requires c.index_mut.ensures.value c.relog_state.ensures
