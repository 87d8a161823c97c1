-- The daemon maps a place to the page of a row that has the same bytes.
use Rattle.std.specs.Prelude.{◌≡◌, ◌≢◌, ◌⊎◌, ℕ, ◌+◌, ◌-◌, ◌≤◌, List, [], ◌∷◌, ◌++◌}
use Rattle.std.specs.Prelude.{Option, Some, None, false}
use Rattle.std.specs.FinMap.{get}
use Rattle.pm_device.specs.State.{State}
use Rattle.pm_device.specs.Settled.{LeavesOnly, StoresOnly, KeepsFlushed, Others}
use Rattle.pm_device.specs.Reading.{Said, Stands}
use Rattle.pm_layout.specs.declared.Geometry.{Geometry}
use Rattle.pm_layout.specs.Geometry.{inode_word}
use Rattle.log_entry.specs.Spelling.{spelled}
use Rattle.log_entry.specs.declared.item.Flag.TheVariants.{Complete}
use Rattle.log_entry.specs.declared.item.LogItem.TheVariants.{Write}
use Rattle.page_alloc.specs.Free.{FreePages, IsInOrder, Takes, GivesBack}
use Rattle.file_index.specs.declared.page_map.Mapping.{Mapping as KeptMapping}
use Rattle.dn_model.specs.Growth.{Prepared}
use Rattle.dn_model.specs.Log.{Log, IsPaged, count, tail_at, slot_name}
use Rattle.dn_model.specs.Maps.{Mapping, size_of}
use Rattle.dn_model.specs.Table.{Row}
use Rattle.dn_model.specs.Disk.{Disk, DiskSays, maps}
use Rattle.dn_model.specs.Image.{StandsFor}
use Rattle.inode_log.specs.Prepare.{IsFull}
use Rattle.fact_table.specs.Table.{IsAtSlot}
use Rattle.law_share.specs.Sharing.{MayShare, shared_log, shared_disk}
use Rattle.dn_volume.specs.declared.units.TheConstants.{REMAP_UNITS}
use Rattle.dn_volume.specs.declared.background.Sharing.{Sharing}
use Rattle.dn_volume.specs.declared.background.SharingStep.TheVariants.{Settle}
use Rattle.dn_volume.specs.declared.volume.InodeState.{InodeState}
use Rattle.dn_volume.specs.declared.volume.Parts.{Parts}
use Rattle.dn_volume.specs.Events.{Counts}
use Rattle.reclaim.specs.Worked.{ChangesOne}
use Rattle.dedupe_daemon.specs.declared.remap.NewPlace.{NewPlace}

-- the place is on page `was`; the file has this size and the log this tail; the row at the slot has
-- the new page
pub record IsNewPlace (d : Disk) (sharing : Sharing) (slot : ℕ) (n : NewPlace) : Type 0 where
  pub ino : n.ino ≡ sharing.work.ino
  pub idx : n.idx ≡ sharing.first + sharing.done
  pub by : Mapping
  pub mapped : maps d n.ino n.idx ≡ Some by
  pub was : by.block ≡ n.was
  pub row : Row
  pub at_slot : IsAtSlot d slot row
  pub page : row.page ≡ n.page
  pub size : size_of (d.inode n.ino).log ≡ n.size
  pub tail : tail_at (d.inode n.ino).log.pages (count (d.inode n.ino).log) ≡ n.tail

-- a page, if one was taken
abbrev pub taken_pages : Option ℕ → List ℕ
taken_pages None = []
taken_pages (Some page) = page ∷ []

-- the least free page is taken where the page of the tail has no room
abbrev pub TakesFor : ℕ → FreePages → FreePages → Option ℕ → Type 0
TakesFor tail old new None = (IsFull tail → ⊥) × (new ≡ old)
TakesFor tail old new (Some page) = IsFull tail × Takes page old new × IsInOrder new

-- the slot past this tail, where the log goes on to these pages
abbrev pub IsItemSlot : ℕ → List ℕ → ℕ → Type 0
IsItemSlot tail fresh slot = (g : Geometry) (old : Log) → IsPaged g old
    → tail ≡ tail_at old.pages (count old) → slot ≡ slot_name (old.pages ++ fresh) (count old)

-- the slot of the item that maps one place so
abbrev pub ShareSlots : (idx page size : ℕ) → List (List ℕ)
ShareSlots idx page size = spelled (Write idx 1 page size Complete 0 ∷ [])

-- the device stands for the disk, and the item may be appended to the log
pub record IsReadyToShare (g : Geometry) (ino idx size : ℕ) (page : ℕ) (fresh : List ℕ) (d : Disk)
    (row : Row) (s : State) : Type 0 where
  pub geometry : d.geometry ≡ g
  pub may : MayShare d ino idx row fresh
  pub stands : Stands (DiskSays d) s
  pub page_is : row.page ≡ page
  pub size_is : size_of (d.inode ino).log ≡ size

-- so it is for some disk
pub record CanShare (g : Geometry) (ino idx size page : ℕ) (fresh : List ℕ) (s : State) : Type 0
  where
    pub disk : Disk
    pub row : Row
    pub is : IsReadyToShare g ino idx size page fresh disk row s

-- on the way a stop leaves an image of before or of after
abbrev pub SharesBetween : Geometry → (ino idx size page : ℕ) → List ℕ → State → State → Type 0
SharesBetween g ino idx size page fresh s t = (d : Disk) (row : Row)
    → IsReadyToShare g ino idx size page fresh d row s
    → LeavesOnly s t (λ c. StandsFor c d ⊎ StandsFor c (shared_disk d ino idx row.page fresh))

-- in the end the device stands for the disk of after
abbrev pub SharesNew : Geometry → (ino idx size page : ℕ) → List ℕ → State → State → Type 0
SharesNew g ino idx size page fresh s t = (d : Disk) (row : Row)
    → IsReadyToShare g ino idx size page fresh d row s
    → Stands (DiskSays (shared_disk d ino idx row.page fresh)) t

-- a word past the log's tail that is prepared, or the tail
abbrev pub IsShareWord : Disk → (ino idx page : ℕ) → List ℕ → ℕ → Type 0
IsShareWord d ino idx page fresh a =
    Said (Prepared ino (d.inode ino).log (shared_log d ino idx page fresh)) a
    ⊎ (a ≡ inode_word ino 2)

-- only these words are stored to, and what others had flushed elsewhere is flushed still
pub record SharesOnly (ino idx page : ℕ) (fresh : List ℕ) (d : Disk) (s t : State) : Type 0 where
  pub only : StoresOnly (IsShareWord d ino idx page fresh) s t
  pub others : KeepsFlushed (Others 15) (IsShareWord d ino idx page fresh) s t

-- so it is from each such disk
abbrev pub SharesThere : Geometry → (ino idx size page : ℕ) → List ℕ → State → State → Type 0
SharesThere g ino idx size page fresh s t = (d : Disk) (row : Row)
    → IsReadyToShare g ino idx size page fresh d row s
    → SharesOnly ino idx row.page fresh d s t

-- this place of an inode leads there, its log has so many pages more, and the rest of it is what it
-- was
pub record MapsPlace (idx : ℕ) (m : KeptMapping) (more : ℕ) (old new : InodeState) : Type 0 where
  pub used_is : new.used ≡ old.used
  pub size : new.size ≡ old.size
  pub round : new.round ≡ old.round
  pub holder : new.holder ≡ old.holder
  pub log_pages : new.log_pages ≡ old.log_pages + more
  pub here : get new.map.map idx ≡ Some m
  pub others : (j : ℕ) → j ≢ idx → get new.map.map j ≡ get old.map.map j
  pub room : old.map.room ≤ new.map.room

-- The place leads to the row's page, its log has so many pages more, the old page is free, and the
-- row is to be settled.
pub record RemapsPart (n : NewPlace) (m : KeptMapping) (more slot : ℕ) (b b' : Parts) : Type 0 where
  pub geometry : b'.geometry ≡ b.geometry
  pub free : GivesBack n.was b.free b'.free
  pub in_order : IsInOrder b'.free
  pub names : b'.names ≡ b.names
  pub inodes : ChangesOne (MapsPlace n.idx m more) n.ino b.inodes.items b'.inodes.items
  pub fact : b'.fact ≡ b.fact
  pub queue : b'.queue ≡ b.queue
  pub flights : b'.flights ≡ b.flights
  pub sharing : (was : Sharing) → b.sharing ≡ Some was
      → b'.sharing ≡ Some (record was { step = Settle slot false })
  pub reclaiming : b'.reclaiming ≡ b.reclaiming
  pub history : b'.history ≡ b.history
  pub trace : b'.trace ≡ b.trace
  pub stopped : b'.stopped ≡ b.stopped
  pub owed : b'.owed ≡ record b.owed { units = b.owed.units - REMAP_UNITS }
  pub made : Counts b b'
