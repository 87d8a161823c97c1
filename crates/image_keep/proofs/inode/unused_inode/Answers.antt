use Rattle.std.proofs.Common.{arith, subst}
use Rattle.dn_model.specs.Disk.{IsUsed}
use Rattle.image_keep.proofs.Kept.{places_none}
use Rattle.image_keep.proofs.inode.unused_inode.Goals as goal

pub returns-clause-inode : goal.returns-clause-inode
returns-clause-inode c = λ d ino is. record {
  use_is = is;
  size_is = λ used. absurd (subst IsUsed is used);
  small = omega arith;
  log_pages = λ used. absurd (subst IsUsed is used);
  places = places_none d ino c.new.result.map is c.new.ensures;
}
