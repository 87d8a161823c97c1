-- Changes of a disk that are made by several words together.
use Rattle.std.specs.Prelude.{◌≡◌, ◌⊎◌, ℕ, ◌*◌, ◌≤◌, List, length, slice_index}
use Rattle.pm_device.specs.State.{State, Agree}
use Rattle.pm_device.specs.Settled.{IsSettled, LeavesOnly}
use Rattle.pm_device.specs.Reading.{Said, Stands, IsReady}
use Rattle.pm_layout.specs.Geometry.{gate_word}
use Rattle.dn_model.specs.Disk.{Disk, DiskSays}
use Rattle.dn_model.specs.Valid.{IsValid}
use Rattle.dn_model.specs.Image.{StandsFor}
use Rattle.name_journal.specs.declared.change.Change.{Change}
use Rattle.name_journal.specs.Changes.{AreChanges, IsNamed}
use Rattle.name_journal.specs.AllOrNone.{AllOrNone, IsAllDone, DiffersBy}

-- a word that the new disk reads and the old one doesn't, beside those that change, and what it
-- says there
pub record FreshWord (old new : Disk) (changes : List Change) (a v : ℕ) : Type 0 where
  pub read : DiskSays new a v
  pub unnamed : IsNamed changes a → ⊥
  pub unread : Said (DiskSays old) a → ⊥

-- These words change together, once the fresh ones stand: then the disk is the new one. Both make
-- sense.
pub record AreAllOrNone (old new : Disk) (changes : List Change) : Type 0 where
  pub geometry : new.geometry ≡ old.geometry
  pub old_valid : IsValid old
  pub new_valid : IsValid new
  pub some : 1 ≤ length changes
  pub few : length changes ≤ 4
  pub journaled : AreChanges old.geometry.inodes changes
  pub differs : DiffersBy changes (DiskSays old) (DiskSays new) (FreshWord old new changes)

-- while they change, each image that a stop may leave stands for the disk of before or the disk of
-- after
abbrev pub AllOrNoneLeavesOldOrNew : Type 0
AllOrNoneLeavesOldOrNew = (old new : Disk) (changes : List Change) → AreAllOrNone old new changes
    → (who : ℕ) (s t : State) → Agree s.now s.past → length s.now ≡ 512 * old.geometry.pages
    → Stands (DiskSays old) s → IsReady who (FreshWord old new changes) s
    → LeavesOnly s t (AllOrNone old.geometry.inodes who changes s)
    → LeavesOnly s t (λ c. StandsFor c old ⊎ StandsFor c new)

-- once they have changed, the device stands for the disk of after
abbrev pub AllOrNoneStands : Type 0
AllOrNoneStands = (old new : Disk) (changes : List Change) → AreAllOrNone old new changes
    → (who : ℕ) (s t : State) → Agree s.now s.past → length s.now ≡ 512 * old.geometry.pages
    → Stands (DiskSays old) s → IsReady who (FreshWord old new changes) s
    → IsAllDone who changes s t → Stands (DiskSays new) t

-- before that the gate is closed and settled
pub record IsShut (s : State) : Type 0 where
  pub closed : slice_index s.now gate_word ≡ 0
  pub settled : IsSettled s gate_word

abbrev pub DisksAreShut : Type 0
DisksAreShut = (d : Disk) (s : State) → Stands (DiskSays d) s → IsShut s
