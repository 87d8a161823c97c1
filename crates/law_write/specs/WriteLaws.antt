-- The laws of a write: what Write items more in the log of a live file do to a disk.
use Rattle.std.specs.Prelude.{
  ◌≡◌,
  ◌≢◌,
  ◌⊎◌,
  ℕ,
  ◌*◌,
  ◌<◌,
  ◌≤◌,
  List,
  [],
  ◌∷◌,
  length,
  Contains,
  Some,
  IsNone,
}
use Rattle.pm_device.specs.State.{State, Agree}
use Rattle.pm_device.specs.Settled.{LeavesOnly, StoresOnly}
use Rattle.pm_device.specs.Reading.{Stands, IsReady}
use Rattle.pm_device.specs.Commit.{IsCommitted, IsDone}
use Rattle.pm_layout.specs.Geometry.{inode_word}
use Rattle.dn_model.specs.Log.{count, tail_at}
use Rattle.dn_model.specs.Maps.{Mapping, size_of}
use Rattle.dn_model.specs.Table.{row_of}
use Rattle.dn_model.specs.Disk.{Disk, DiskSays, maps, rows}
use Rattle.dn_model.specs.Counts.{IsFree, Near}
use Rattle.dn_model.specs.Files.{bytes, named, files, IsSameFiles}
use Rattle.dn_model.specs.Apply.{written, after_op}
use Rattle.dn_model.specs.Valid.{IsValid}
use Rattle.dn_model.specs.Own.{Print, IsOwn}
use Rattle.dn_model.specs.Image.{StandsFor}
use Rattle.dn_model.specs.declared.op.Op.TheVariants.{Write}
use Rattle.law_write.specs.Events.{Fresh}
use Rattle.law_write.specs.Writing.{Writes, WritesWell, WritesBytes, IsOverwritten, IsStored}
use Rattle.law_write.specs.Runs.{Run, places_in, block_at}
use Rattle.law_write.specs.MayWrite.{written_disk, MayWrite}

-- a valid disk stays valid
abbrev pub WritesStayValid : Type 0
WritesStayValid = (ino : ℕ) (old new : Disk) (w : Writes ino old new) → WritesWell ino old new w
    → IsValid new

-- while the tail moves, each image that a stop may leave stands for the disk of before or the disk
-- of after
abbrev pub WritesLeaveOldOrNew : Type 0
WritesLeaveOldOrNew = (ino : ℕ) (old new : Disk) (w : Writes ino old new) → WritesWell ino old new w
    → (who : ℕ) (s t : State) → Agree t.now t.past → length t.now ≡ 512 * old.geometry.pages
    → Stands (DiskSays old) s → IsReady who (Fresh ino old new) s
    → LeavesOnly s t (IsCommitted who (inode_word ino 2)
    (tail_at (new.inode ino).log.pages (count (new.inode ino).log)) s)
    → LeavesOnly s t (λ c. StandsFor c old ⊎ StandsFor c new)

-- once the tail has moved, the device stands for the disk of after
abbrev pub WritesStand : Type 0
WritesStand = (ino : ℕ) (old new : Disk) (w : Writes ino old new) → WritesWell ino old new w
    → (who : ℕ) (s t : State) → length s.now ≡ 512 * old.geometry.pages → Stands (DiskSays old) s
    → IsReady who (Fresh ino old new) s
    → IsDone who (inode_word ino 2) (tail_at (new.inode ino).log.pages (count (new.inode ino).log))
    s t → StoresOnly (λ a. a ≡ inode_word ino 2) s t
    → Stands (DiskSays new) t

-- before that the prepared words of the log and the words of the new pages have to stand, and no
-- others
abbrev pub StoredWordsSuffice : Type 0
StoredWordsSuffice = (ino : ℕ) (old new : Disk) (w : Writes ino old new) → WritesWell ino old new w
    → (who : ℕ) (s : State) → IsReady who (IsStored ino old new w) s
    → IsReady who (Fresh ino old new) s

-- the file has the text where it was written, and the bytes of the other files stay
pub record PutsText (ino : ℕ) (old new : Disk) (at : ℕ) (text : List ℕ) : Type 0 where
  pub here : bytes new ino ≡ written (bytes old ino) at text
  pub others : (i : ℕ) → i ≢ ino → i < old.geometry.inodes → bytes new i ≡ bytes old i

abbrev pub WritesPutText : Type 0
WritesPutText = (ino : ℕ) (old new : Disk) (w : Writes ino old new) → WritesWell ino old new w
    → (at : ℕ) (text : List ℕ) → WritesBytes ino old new w at text → PutsText ino old new at text

-- the files are those after the operation, if the name leads to the inode
abbrev pub WritesAreWrites : Type 0
WritesAreWrites = (ino : ℕ) (old new : Disk) (w : Writes ino old new) → WritesWell ino old new w
    → (name : List ℕ) → named old name ≡ Some ino
    → (at b : ℕ) (text : List ℕ) → WritesBytes ino old new w at (b ∷ text)
    → IsSameFiles (files new) (after_op (files old) (Write name at (b ∷ text)))

-- what every image of this program has stays: zeros past the end of files, prints, and marks of
-- what the daemon did
abbrev pub WritesStayOwn : Type 0
WritesStayOwn = (print : Print) (ino : ℕ) (old new : Disk) (w : Writes ino old new)
    → WritesWell ino old new w → (at : ℕ) (text : List ℕ) → WritesBytes ino old new w at text
    → IsOwn print old → IsOwn print new

-- which pages are free afterwards
pub record TakesAndFrees (ino : ℕ) (old new : Disk) (w : Writes ino old new) : Type 0 where
  pub kept : (page : ℕ) → IsFree old page → ((i : ℕ) → i < w.n → w.blocks i ≢ page)
      → (Contains w.grown.fresh page → ⊥) → IsFree new page
  pub block_taken : (i : ℕ) → i < w.n → IsFree new (w.blocks i) → ⊥
  pub fresh_taken : (page : ℕ) → Contains w.grown.fresh page → IsFree new page → ⊥
  pub freed : (page : ℕ) → IsOverwritten ino old new w page → IsNone (row_of (rows old) page)
      → IsFree new page
  -- nothing else comes free, if the file isn't cut
  pub only : size_of (old.inode ino).log ≤ w.size → (page : ℕ) → IsFree new page
      → IsFree old page ⊎ IsOverwritten ino old new w page

abbrev pub WritesTakeAndFree : Type 0
WritesTakeAndFree = (ino : ℕ) (old new : Disk) (w : Writes ino old new) → WritesWell ino old new w
    → TakesAndFrees ino old new w

-- two places of a file on a page without a row are one place
abbrev pub PlacesAreApart : Type 0
PlacesAreApart = (d : Disk) → IsValid d → (ino i j : ℕ) (m n : Mapping) → ino < d.geometry.inodes
    → maps d ino i ≡ Some m → maps d ino j ≡ Some n → i ≢ j
    → IsNone (row_of (rows d) m.block) → m.block ≢ n.block

-- the event of a commit of runs
pub record IsWriteOf (d : Disk) (ino : ℕ) (fresh : List ℕ) (first size : ℕ) (runs : List Run)
    (word : ℕ → ℕ → ℕ) : Type 0 where
  pub event : Writes ino d (written_disk d ino fresh size runs word)
  pub well : WritesWell ino d (written_disk d ino fresh size runs word) event
  pub starts : event.first ≡ first
  pub places : event.n ≡ places_in runs
  pub ends : event.size ≡ size
  pub blocks : (i : ℕ) → event.blocks i ≡ block_at runs i
  pub takes : event.grown.fresh ≡ fresh

abbrev pub RunsMakeWrites : Type 0
RunsMakeWrites = (d : Disk) (ino : ℕ) (fresh : List ℕ) (first size : ℕ) (runs : List Run)
    (word : ℕ → ℕ → ℕ) → MayWrite d ino fresh first size runs word
    → Near (written_disk d ino fresh size runs word) → IsWriteOf d ino fresh first size runs word

-- without rows no count can be off
abbrev pub RunsMakeWritesWithoutRows : Type 0
RunsMakeWritesWithoutRows = (d : Disk) (ino : ℕ) (fresh : List ℕ) (first size : ℕ) (runs : List Run)
    (word : ℕ → ℕ → ℕ) → MayWrite d ino fresh first size runs word
    → ((p : ℕ) → d.chain p ≡ []) → IsWriteOf d ino fresh first size runs word
