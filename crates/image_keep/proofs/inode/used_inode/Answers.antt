use Rattle.image_keep.proofs.Kept.{places_kept}
use Rattle.image_keep.proofs.inode.used_inode.Goals as goal

pub returns-clause-inode : goal.returns-clause-inode
returns-clause-inode c = λ d ino is live index pages. record {
  use_is = is;
  size_is = λ used. index.size_is;
  small = c.requires.small;
  log_pages = λ used. pages;
  places = places_kept d ino c.args.used c.args.index.map.map c.kept_places.result.map is live index.places c.kept_places.ensures;
}
