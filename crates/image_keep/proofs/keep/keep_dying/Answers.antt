use Rattle.std.proofs.Common.{ℕ, ◌+◌, ◌*◌, refl, sym, ap, arith}
use Rattle.std.proofs.lemmas.List.{append-nil}
use Rattle.image_keep.proofs.keep.keep_dying.Goals as goal

pub returns : goal.returns
returns c = record {
  node = c.used_inode-node.result;
  units = 1 + 4 * c.count_places.result;
  keeps = record {
    inodes = c.in_ok-push.ensures.items;
    work = sym (append-nil c.args.kept.now.work.items);
    waiting = refl;
    unheld = c.used_inode-node.ensures.unheld;
    round = c.used_inode-node.ensures.round;
    few = omega (arith, c.count_places.ensures.few);
  };
  node_is = λ d ino is index pages. c.used_inode-node.ensures.inode d ino is tt index pages;
  units_are = ap (λ (n : ℕ). 1 + 4 * n) c.count_places.ensures.places;
}
