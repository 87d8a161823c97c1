-- The laws of operations on names.
use Rattle.std.specs.Prelude.{◌≡◌, ◌⊎◌, ℕ, ◌*◌, ◌≤◌, List, length, Option, Some, None}
use Rattle.pm_device.specs.State.{State, Agree}
use Rattle.pm_device.specs.Settled.{LeavesOnly, StoresOnly}
use Rattle.pm_device.specs.Reading.{Said, Stands, IsReady}
use Rattle.pm_device.specs.Words.{IsIn}
use Rattle.pm_device.specs.Lines.{StoresRun}
use Rattle.pm_layout.specs.Geometry.{inode_word}
use Rattle.dn_model.specs.Disk.{Disk, DiskSays}
use Rattle.dn_model.specs.Files.{named, files, IsSameFiles}
use Rattle.dn_model.specs.Apply.{after_op}
use Rattle.dn_model.specs.Growth.{Prepared}
use Rattle.dn_model.specs.Valid.{IsValid}
use Rattle.dn_model.specs.Own.{Print, IsOwn}
use Rattle.dn_model.specs.Image.{StandsFor}
use Rattle.dn_model.specs.declared.op.Op.TheVariants.{Create, Remove, Rename}
use Rattle.name_journal.specs.AllOrNone.{AllOrNone, IsAllDone}
use Rattle.law_names.specs.NameChange.{
  NameChange,
  Stays,
  ChangesNames,
  MayChange,
  TurnSays,
  FreshNames,
  turn_field,
  turn_words,
  root_after,
  name_changes,
  names_changed,
}
use Rattle.law_names.specs.Operations.{
  MayCreate,
  MayRemove,
  MayRename,
  creation,
  removal,
  renaming,
  created_disk,
  unnamed_disk,
  renamed_disk,
  with_name,
}
use Rattle.law_names.specs.Keeping.{KeepsData}
use Rattle.law_names.specs.AllOrNoneLaws.{FreshWord, AreAllOrNone}

-- each operation may change the disk so
abbrev pub CreationsMayChange : Type 0
CreationsMayChange = (d : Disk) (name : List ℕ) (ino : ℕ) (fresh : List ℕ)
    → MayCreate d name ino fresh → MayChange d (creation name ino fresh)

abbrev pub RemovalsMayChange : Type 0
RemovalsMayChange = (d : Disk) (name : List ℕ) (ino : ℕ) (fresh : List ℕ)
    → MayRemove d name ino fresh → MayChange d (removal name ino fresh)

abbrev pub RenamingsMayChange : Type 0
RenamingsMayChange = (d : Disk) (from to : List ℕ) (ino : ℕ) (replaced : Option ℕ) (fresh : List ℕ)
    → MayRename d from to ino replaced fresh → MayChange d (renaming from to ino replaced fresh)

-- the parts of the disk afterwards
abbrev pub NameChangesChangeParts : Type 0
NameChangesChangeParts = (d : Disk) (change : NameChange) → 1 ≤ change.ino
    → ChangesNames d change (names_changed d change)

-- a valid disk stays valid
abbrev pub NameChangesStayValid : Type 0
NameChangesStayValid = (d : Disk) (change : NameChange) → MayChange d change
    → IsValid (names_changed d change)

abbrev pub NameChangesKeepData : Type 0
NameChangesKeepData = (d : Disk) (change : NameChange) → MayChange d change
    → KeepsData d (names_changed d change) change.fresh

abbrev pub NameChangesStayOwn : Type 0
NameChangesStayOwn = (print : Print) (d : Disk) (change : NameChange) → MayChange d change
    → IsOwn print d → IsOwn print (names_changed d change)

-- the words of one commit decide
abbrev pub NameChangesAreAllOrNone : Type 0
NameChangesAreAllOrNone = (d : Disk) (change : NameChange) → MayChange d change
    → AreAllOrNone d (names_changed d change) (name_changes d change)

-- while they change, each image that a stop may leave stands for the disk of before or the disk of
-- after
abbrev pub NameChangesLeaveOldOrNew : Type 0
NameChangesLeaveOldOrNew = (d : Disk) (change : NameChange) → MayChange d change
    → (who : ℕ) (s t : State) → Agree s.now s.past → length s.now ≡ 512 * d.geometry.pages
    → Stands (DiskSays d) s → IsReady who (FreshNames d change) s
    → LeavesOnly s t (AllOrNone d.geometry.inodes who (name_changes d change) s)
    → LeavesOnly s t (λ c. StandsFor c d ⊎ StandsFor c (names_changed d change))

-- once they have changed, the device stands for the disk of after
abbrev pub NameChangesStand : Type 0
NameChangesStand = (d : Disk) (change : NameChange) → MayChange d change
    → (who : ℕ) (s t : State) → Agree s.now s.past → length s.now ≡ 512 * d.geometry.pages
    → Stands (DiskSays d) s → IsReady who (FreshNames d change) s
    → IsAllDone who (name_changes d change) s t → Stands (DiskSays (names_changed d change)) t

-- what was prepared for the root, and what stands in the inode, are all that has to stand before
abbrev pub FreshNamesAreReady : Type 0
FreshNamesAreReady = (d : Disk) (change : NameChange) (who : ℕ) (s : State)
    → IsReady who (Prepared 0 (d.inode 0).log (root_after d change)) s
    → IsReady who (TurnSays d change) s → IsReady who (FreshNames d change) s

abbrev pub FreshNamesSuffice : Type 0
FreshNamesSuffice = (d : Disk) (change : NameChange) → MayChange d change
    → (who : ℕ) (s : State) → IsReady who (FreshNames d change) s
    → IsReady who (FreshWord d (names_changed d change) (name_changes d change)) s

-- the inode's words are ready once they were stored and flushed; there are none where it stays
abbrev pub StoredTurnIsReady : Type 0
StoredTurnIsReady = (d : Disk) (change : NameChange) → MayChange d change
    → (who : ℕ) (s t : State) → length s.now ≡ 512 * d.geometry.pages
    → StoresRun who (inode_word change.ino (turn_field change.turn))
    (turn_words change.turn (d.inode change.ino).log) s t
    → IsReady who (TurnSays d change) t

abbrev pub NoTurnIsReady : Type 0
NoTurnIsReady = (d : Disk) (change : NameChange) → change.turn ≡ Stays → (who : ℕ) (s : State)
    → IsReady who (TurnSays d change) s

-- the disk says nothing of them before
abbrev pub FreshNamesAreUnread : Type 0
FreshNamesAreUnread = (d : Disk) (change : NameChange) → MayChange d change → (a v w : ℕ)
    → FreshNames d change a v → DiskSays d a w → ⊥

-- while they are stored, the disk stands, and each image that a stop may leave stands for it
pub record StandsStill (d : Disk) (s t : State) : Type 0 where
  pub stands : Stands (DiskSays d) t
  pub images : LeavesOnly s t (λ c. StandsFor c d)

abbrev pub RootStoresChangeNothing : Type 0
RootStoresChangeNothing = (d : Disk) (change : NameChange) → MayChange d change → (s t : State)
    → StoresOnly (Said (Prepared 0 (d.inode 0).log (root_after d change))) s t
    → Stands (DiskSays d) s → Agree t.now t.past → length t.now ≡ 512 * d.geometry.pages
    → StandsStill d s t

abbrev pub TurnStoresChangeNothing : Type 0
TurnStoresChangeNothing = (d : Disk) (change : NameChange) → MayChange d change
    → (s t : State) → StoresOnly (IsIn (inode_word change.ino (turn_field change.turn))
    (length (turn_words change.turn (d.inode change.ino).log))) s t
    → Stands (DiskSays d) s → Agree t.now t.past → length t.now ≡ 512 * d.geometry.pages
    → StandsStill d s t

-- which names there are afterwards
abbrev pub CreationsName : Type 0
CreationsName = (d : Disk) (name : List ℕ) (ino : ℕ) (fresh : List ℕ) → MayCreate d name ino fresh
    → (other : List ℕ) → named (created_disk d name ino fresh) other ≡ with_name (named d) name
    (Some ino) other

abbrev pub RemovalsName : Type 0
RemovalsName = (d : Disk) (name : List ℕ) (ino : ℕ) (fresh : List ℕ) → MayRemove d name ino fresh
    → (other : List ℕ) → named (unnamed_disk d name ino fresh) other ≡ with_name (named d) name None
    other

abbrev pub RenamingsName : Type 0
RenamingsName = (d : Disk) (from to : List ℕ) (ino : ℕ) (replaced : Option ℕ) (fresh : List ℕ)
    → MayRename d from to ino replaced fresh
    → (other : List ℕ) → named (renamed_disk d from to ino replaced fresh) other ≡ with_name
    (with_name (named d) from None) to (Some ino) other

-- the files are those after the operation
abbrev pub CreationsCreate : Type 0
CreationsCreate = (d : Disk) (name : List ℕ) (ino : ℕ) (fresh : List ℕ) → MayCreate d name ino fresh
    → IsSameFiles (files (created_disk d name ino fresh)) (after_op (files d) (Create name))

abbrev pub RemovalsRemove : Type 0
RemovalsRemove = (d : Disk) (name : List ℕ) (ino : ℕ) (fresh : List ℕ) → MayRemove d name ino fresh
    → IsSameFiles (files (unnamed_disk d name ino fresh)) (after_op (files d) (Remove name))

abbrev pub RenamingsRename : Type 0
RenamingsRename = (d : Disk) (from to : List ℕ) (ino : ℕ) (replaced : Option ℕ) (fresh : List ℕ)
    → MayRename d from to ino replaced fresh
    → IsSameFiles (files (renamed_disk d from to ino replaced fresh))
    (after_op (files d) (Rename from to))
