use Rattle.reclaim.proofs.DyingFound.{state_at, node_at}
use Rattle.dedupe_daemon.specs.Fronts.{IsFreshIn}
use Rattle.dedupe_daemon.proofs.Fronts.{outside}
use Rattle.dedupe_daemon.proofs.front.is_fresh.Goals as goal

pub returns-then-ino-inodes : goal.returns-then-ino-inodes
returns-then-ino-inodes c = (
  λ is. state_at (IsFreshIn c.args.work) c.args.inodes.now c.args.work.ino c.index-inodes-ino.result c.if-ino-inodes.true c.index-inodes-ino.is
      (c.is_fresh_in.ensures.0 is),
  λ at. c.is_fresh_in.ensures.1 (node_at (IsFreshIn c.args.work) c.args.inodes.now c.args.work.ino c.index-inodes-ino.result c.if-ino-inodes.true
      c.index-inodes-ino.is at),
)

pub returns-else-ino-inodes : goal.returns-else-ino-inodes
returns-else-ino-inodes c = outside c.args.inodes.now c.args.work c.if-ino-inodes.false
