use Rattle.std.proofs.Common.{arith}
use Rattle.image_keep.proofs.keep.keep_live.Goals as goal

pub returns : goal.returns
returns c = record {
  node = c.used_inode.result;
  more = c.in_ok-queue_items.ensures.more;
  keeps = record {
    inodes = c.in_ok-push.ensures.items;
    work = c.in_ok-queue_items.ensures.items;
    waiting = omega arith;
    unheld = c.used_inode.ensures.unheld;
    round = c.used_inode.ensures.round;
    few = omega arith;
  };
  node_is = λ d live index pages. c.used_inode.ensures.inode d c.args.ino live tt index pages;
  works = c.in_ok-queue_items.ensures.are;
}
