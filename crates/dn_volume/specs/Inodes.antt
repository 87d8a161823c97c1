-- What is kept of names and inodes is the disk's.
use Rattle.std.specs.Prelude.{◌≡◌, ◌↔◌, ℕ, ◌<◌, ◌≤◌, List, length, slice_get, Some}
use Rattle.std.specs.Option.{option_map}
use Rattle.std.specs.Ordering.{nat_cmp}
use Rattle.std.specs.Cmp.Lexicographic.{slice_cmp}
use Rattle.std.specs.FinMap.{FinMap, get}
use Rattle.file_content.specs.Content.{kept}
use Rattle.dn_model.specs.Maps.{size_of}
use Rattle.dn_model.specs.Disk.{Disk, Use, Free, Live, Dying, IsUsed, maps}
use Rattle.dn_model.specs.Files.{named}
use Rattle.dn_volume.specs.declared.volume.InodeState.{InodeState}
use Rattle.dn_volume.specs.declared.volume.InodeUse.{InodeUse}
use Rattle.dn_volume.specs.declared.volume.InodeUse.TheVariants as used
use Rattle.dn_volume.specs.declared.volume.Parts.{Parts}
use Rattle.dn_volume.specs.Parties.{Holds}

abbrev pub as_use : InodeUse → Use
as_use used.Free = Free
as_use used.Live = Live
as_use (used.Dying cut) = Dying cut

-- what is kept of an inode
pub record IsInodeOf (d : Disk) (ino : ℕ) (n : InodeState) : Type 0 where
  pub use_is : (d.inode ino).use_of ≡ as_use n.used
  pub size_is : IsUsed (d.inode ino).use_of → size_of (d.inode ino).log ≡ n.size
  pub small : n.size ≤ 16777216
  pub log_pages : IsUsed (d.inode ino).use_of → length (d.inode ino).log.pages ≡ n.log_pages
  pub places : (idx : ℕ) → get n.map.map idx ≡ option_map kept (maps d ino idx)

pub record AreInodesOf (d : Disk) (inodes : List InodeState) : Type 0 where
  pub all : length inodes ≡ d.geometry.inodes
  pub each : (ino : ℕ) (n : InodeState) → slice_get inodes ino ≡ Some n → IsInodeOf d ino n

-- each name leads where it leads on the disk
pub record AreNamesOf (d : Disk) (names : FinMap (slice_cmp nat_cmp) ℕ) : Type 0 where
  pub leads : (name : List ℕ) → get names name ≡ named d name

-- each inode tells who holds it; so no two hold one
pub record AreHolders (d : Disk) (b : Parts) : Type 0 where
  pub told : (ino who : ℕ) (n : InodeState) → slice_get b.inodes.items ino ≡ Some n
      → (n.holder ≡ Some who) ↔ Holds b who ino
  pub in_table : (ino who : ℕ) → Holds b who ino → ino < d.geometry.inodes
