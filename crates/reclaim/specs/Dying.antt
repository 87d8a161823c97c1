-- Dying inodes among those that are kept in memory.
use Rattle.std.specs.Prelude.{◌≡◌, ℕ, ◌<◌, List, slice_get, Some, None}
use Rattle.std.specs.FinMap.{get}
use Rattle.file_index.specs.declared.page_map.Mapping.{Mapping}
use Rattle.file_index.specs.Index.{IsLastBelow}
use Rattle.dn_volume.specs.declared.volume.InodeState.{InodeState}
use Rattle.dn_volume.specs.declared.volume.InodeUse.TheVariants as used

-- it is dying
pub record IsDyingState (node : InodeState) : Type 0 where
  pub cut : ℕ
  pub dying : node.used ≡ used.Dying cut

-- this is its greatest mapped place, and the page
pub record IsLastOf (node : InodeState) (place page : ℕ) : Type 0 where
  pub cut : ℕ
  pub dying : node.used ≡ used.Dying cut
  pub last : IsLastBelow cut node.map.map place
  pub mapping : Mapping
  pub mapped : get node.map.map place ≡ Some mapping
  pub block : mapping.block ≡ page

-- no place of it is mapped
pub record IsUnmapped (node : InodeState) : Type 0 where
  pub cut : ℕ
  pub dying : node.used ≡ used.Dying cut
  pub none : (idx : ℕ) → idx < cut → get node.map.map idx ≡ None

-- so it is with the one at a place of the list
pub record IsAt (Is : InodeState → Type 0) (inodes : List InodeState) (ino : ℕ) : Type 0 where
  pub node : InodeState
  pub there : slice_get inodes ino ≡ Some node
  pub has : Is node

abbrev pub IsDying : List InodeState → ℕ → Type 0
IsDying inodes ino = IsAt IsDyingState inodes ino

-- and no lower one is dying
pub record IsLeastDying (inodes : List InodeState) (ino : ℕ) : Type 0 where
  pub is : IsDying inodes ino
  pub least : (i : ℕ) → i < ino → IsDying inodes i → ⊥
