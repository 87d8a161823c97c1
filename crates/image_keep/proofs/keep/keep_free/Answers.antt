use Rattle.std.proofs.Common.{sym, arith}
use Rattle.std.proofs.lemmas.List.{append-nil}
use Rattle.image_keep.proofs.KeptInodes.{kept_free}
use Rattle.image_keep.proofs.keep.keep_free.Goals as goal

pub returns : goal.returns
returns c = kept_free c.args.ino c.args.kept.now _ c.unused_inode.result (record {
  inodes = c.in_ok-push.ensures.items;
  work = sym (append-nil c.args.kept.now.work.items);
  waiting = omega arith;
  unheld = c.unused_inode.ensures.unheld;
  round = c.unused_inode.ensures.round;
  few = omega arith;
}) c.unused_inode.ensures.free c.unused_inode.ensures.inode
