-- What is kept of all inodes of an image.
use Rattle.std.specs.Prelude.{◌≡◌, ◌⊎◌, ℕ, ◌+◌, ◌*◌, ◌<◌, ◌≤◌, is_some, if◌then◌else◌}
use Rattle.std.specs.Prelude.{List, ◌∷◌, [], ◌++◌, length, slice_get, All, map, Option, Some, None}
use Rattle.std.specs.Ordering.{nat_cmp}
use Rattle.std.specs.FinMap.{FinMap, get}
use Rattle.pm_layout.specs.declared.Geometry.{Geometry}
use Rattle.dedupe_queue.specs.declared.Work.{Work}
use Rattle.dedupe_queue.specs.Queue.{Waiting}
use Rattle.file_index.specs.declared.page_map.Mapping.{Mapping}
use Rattle.dn_model.specs.Disk.{Disk, Live, Dying}
use Rattle.dn_model.specs.Counts.{total}
use Rattle.log_walk.specs.Items.{seen}
use Rattle.log_walk.specs.declared.items.Placed.{Placed as PlacedItem}
use Rattle.file_scan.specs.declared.index.FileIndex.{FileIndex}
use Rattle.file_scan.specs.Index.{MayBeIndexed, IsIndexOf}
use Rattle.image_logs.specs.declared.logs.UsedInode.{UsedInode}
use Rattle.image_logs.specs.Logs.{IsSaid, IsFoundAt}
use Rattle.dn_volume.specs.declared.volume.InodeState.{InodeState}
use Rattle.dn_volume.specs.Inodes.{IsInodeOf}
use Rattle.dn_volume.specs.Reclaims.{dying_units}
use Rattle.image_keep.specs.declared.keep.Kept.{Kept}
use Rattle.image_keep.specs.Waiting.{IsOpenBy, AreWorksOf, WaitFor, WaitBelow, work_for}

-- 1 where the place is mapped
abbrev pub place_hit : FinMap nat_cmp Mapping → ℕ → ℕ
place_hit map idx = if is_some (get map idx) then 1 else 0

-- how many places of a file are mapped
abbrev pub places_in : FinMap nat_cmp Mapping → ℕ
places_in map = total 4096 (place_hit map)

-- the item waits behind all others, if it is open
pub record QueuesOne (ino : ℕ) (p : PlacedItem) (map : FinMap nat_cmp Mapping) (old new : Waiting) :
    Type 0 where
  pub more : List Work
  pub items : new.items ≡ old.items ++ more
  pub one : IsOpenBy map (seen p) → more ≡ work_for ino (seen p) ∷ []
  pub none : (IsOpenBy map (seen p) → ⊥) → more ≡ []
  pub whether : (IsOpenBy map (seen p)) ⊎ (IsOpenBy map (seen p) → ⊥)

-- the open ones of these items wait behind all others
pub record QueuesAll (ino : ℕ) (ps : List PlacedItem) (map_of : FinMap nat_cmp Mapping)
    (old new : Waiting) : Type 0 where
  pub more : List Work
  pub items : new.items ≡ old.items ++ more
  pub are : AreWorksOf (IsOpenBy map_of) ino (map seen ps) more

-- what is read of an inode can be kept
abbrev pub MayKeep : Option UsedInode → Type 0
MayKeep None = Unit {0}
MayKeep (Some used) = All MayBeIndexed used.log.items.items × (used.log.index.size ≤ 16777216)

-- one inode more is kept, with the items that wait of it and the units of work that it is for
pub record KeepsOne (old new : Kept) (node : InodeState) (more : List Work) (units : ℕ) : Type 0
  where
    pub inodes : new.inodes.items ≡ old.inodes.items ++ node ∷ []
    pub work : new.work.items ≡ old.work.items ++ more
    pub waiting : new.waiting ≡ old.waiting + units
    pub unheld : node.holder ≡ None
    pub round : node.round ≡ 0
    pub few : units ≤ 16385

-- a live inode is kept
pub record KeepsLive (ino : ℕ) (index : FileIndex) (pages : ℕ) (ps : List PlacedItem)
    (old new : Kept) : Type 0 where
  pub node : InodeState
  pub more : List Work
  pub keeps : KeepsOne old new node more 0
  pub node_is : (d : Disk) → (d.inode ino).use_of ≡ Live → IsIndexOf (d.inode ino).log index
      → length (d.inode ino).log.pages ≡ pages → IsInodeOf d ino node
  pub works : AreWorksOf (IsOpenBy index.map.map) ino (map seen ps) more

-- a dying inode is kept
pub record KeepsDying (cut : ℕ) (index : FileIndex) (pages : ℕ) (old new : Kept) : Type 0 where
  pub node : InodeState
  pub units : ℕ
  pub keeps : KeepsOne old new node [] units
  pub node_is : (d : Disk) (ino : ℕ) → (d.inode ino).use_of ≡ Dying cut
      → IsIndexOf (d.inode ino).log index → length (d.inode ino).log.pages ≡ pages
      → IsInodeOf d ino node
  pub units_are : units ≡ 1 + 4 * places_in node.map.map

-- they are the inode's of the disk
pub record IsKeptOne (d : Disk) (ino : ℕ) (node : InodeState) (more : List Work) (units : ℕ) : Type
    0 where
  pub node_is : IsInodeOf d ino node
  pub waits : WaitFor ino (d.inode ino).use_of (d.inode ino).log more
  pub units_are : units ≡ dying_units d ino

-- what is read of the inode is kept, whatever the words are of which it was read
pub record KeepsInode (ino : ℕ) (found : Option UsedInode) (old new : Kept) : Type 0 where
  pub node : InodeState
  pub more : List Work
  pub units : ℕ
  pub keeps : KeepsOne old new node more units
  pub of_disk : (g : Geometry) (c : List ℕ) (d : Disk) → IsSaid g c d → ino < g.inodes
      → IsFoundAt g c ino found → IsKeptOne d ino node more units

-- what is kept of the first k inodes is the disk's
pub record AreKeptOf (d : Disk) (k : ℕ) (kept : Kept) : Type 0 where
  pub each : (ino : ℕ) (n : InodeState) → slice_get kept.inodes.items ino ≡ Some n
      → IsInodeOf d ino n
  pub queue : WaitBelow d.inode k kept.work.items
  pub waiting : kept.waiting ≡ total k (dying_units d)

-- the first k inodes are kept
pub record AreKeptTo (g : Geometry) (c : List ℕ) (k : ℕ) (kept : Kept) : Type 0 where
  pub all : length kept.inodes.items ≡ k
  pub unheld : (ino : ℕ) (n : InodeState) → slice_get kept.inodes.items ino ≡ Some n
      → n.holder ≡ None
  pub round : (ino : ℕ) (n : InodeState) → slice_get kept.inodes.items ino ≡ Some n → n.round ≡ 0
  pub few : kept.waiting ≤ 16385 * k
  pub of_disk : (d : Disk) → IsSaid g c d → AreKeptOf d k kept
