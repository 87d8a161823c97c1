-- Items become part of a file's log, once the words that they need stand.
use Rattle.std.specs.Prelude.{◌≡◌, ◌⊎◌, ℕ, List}
use Rattle.pm_device.specs.State.{State}
use Rattle.pm_device.specs.Settled.{LeavesOnly, StoresOnly, KeepsFlushed, Others}
use Rattle.pm_device.specs.Reading.{Said, Stands, IsReady}
use Rattle.pm_layout.specs.declared.Geometry.{Geometry}
use Rattle.pm_layout.specs.Geometry.{inode_word}
use Rattle.log_entry.specs.Spelling.{spelled}
use Rattle.dn_model.specs.Growth.{Prepared}
use Rattle.dn_model.specs.Disk.{Disk, DiskSays}
use Rattle.dn_model.specs.Image.{StandsFor}
use Rattle.law_write.specs.Writing.{Writes, WritesWell, IsBlockWord}

-- The device stands for the old disk, and the event leads to the new one. The words of its pages
-- stand, and are settled
-- by this actor's next fence; the slots spell its items.
pub record IsReadyToAppend (g : Geometry) (who ino : ℕ) (fresh : List ℕ) (slots : List (List ℕ))
    (old new : Disk) (w : Writes ino old new) (s : State) : Type 0 where
  pub geometry : old.geometry ≡ g
  pub well : WritesWell ino old new w
  pub stands : Stands (DiskSays old) s
  pub ready : IsReady who (IsBlockWord ino old new w) s
  pub slots_are : spelled w.grown.more ≡ slots
  pub fresh_are : w.grown.fresh ≡ fresh

pub record CanAppend (g : Geometry) (who ino : ℕ) (fresh : List ℕ) (slots : List (List ℕ))
    (s : State) : Type 0 where
  pub old : Disk
  pub new : Disk
  pub event : Writes ino old new
  pub is : IsReadyToAppend g who ino fresh slots old new event s

-- on the way a stop leaves an image of before or of after
abbrev pub AppendsBetween : Geometry → ℕ → ℕ → List ℕ → List (List ℕ) → State → State → Type 0
AppendsBetween g who ino fresh slots s t = (old new : Disk) (w : Writes ino old new)
    → IsReadyToAppend g who ino fresh slots old new w s
    → LeavesOnly s t (λ c. StandsFor c old ⊎ StandsFor c new)

-- in the end the device stands for the disk of after
abbrev pub AppendsNew : Geometry → ℕ → ℕ → List ℕ → List (List ℕ) → State → State → Type 0
AppendsNew g who ino fresh slots s t = (old new : Disk) (w : Writes ino old new)
    → IsReadyToAppend g who ino fresh slots old new w s → Stands (DiskSays new) t

-- a word past the log's tail that is prepared, or the tail
abbrev pub IsItemWord : ℕ → Disk → Disk → ℕ → Type 0
IsItemWord ino old new a = Said (Prepared ino (old.inode ino).log (new.inode ino).log) a
    ⊎ (a ≡ inode_word ino 2)

-- only words of the items and the tail are stored to, and what others had flushed elsewhere is
-- flushed still
pub record AppendsOnly (who ino : ℕ) (old new : Disk) (s t : State) : Type 0 where
  pub only : StoresOnly (IsItemWord ino old new) s t
  pub others : KeepsFlushed (Others who) (IsItemWord ino old new) s t

abbrev pub AppendsThere : Geometry → ℕ → ℕ → List ℕ → List (List ℕ) → State → State → Type 0
AppendsThere g who ino fresh slots s t = (old new : Disk) (w : Writes ino old new)
    → IsReadyToAppend g who ino fresh slots old new w s → AppendsOnly who ino old new s t
