-- A change of a disk that one store decides.
use Rattle.std.specs.Prelude.{◌≡◌, ◌⊎◌, ℕ, ◌+◌, ◌*◌, ◌/◌, ◌<◌, ◌≤◌, List, [], ◌++◌, length}
use Rattle.pm_device.specs.State.{State, Agree}
use Rattle.pm_device.specs.Settled.{IsSettled, LeavesOnly, StoresOnly}
use Rattle.pm_device.specs.Reading.{Said, Stands, IsReady, DiffersAt}
use Rattle.pm_device.specs.Words.{IsIn}
use Rattle.pm_device.specs.Pages.{HoldsRun, SaysRun}
use Rattle.pm_device.specs.Lines.{StoresRun}
use Rattle.pm_device.specs.Commit.{IsCommitted, IsDone, LeavesOneWord}
use Rattle.dn_model.specs.Disk.{Disk, DiskSays}
use Rattle.dn_model.specs.Valid.{IsValid}
use Rattle.dn_model.specs.Image.{StandsFor}

-- Word `at` becomes `value`, once fresh values stand from word `first` on: then the disk is the new
-- one. Both make sense.
pub record IsOneWord (old new : Disk) (first : ℕ) (fresh : List ℕ) (at value : ℕ) : Type 0 where
  pub geometry : new.geometry ≡ old.geometry
  pub old_valid : IsValid old
  pub new_valid : IsValid new
  pub inside : at < 512 * old.geometry.pages
  pub said : Said (DiskSays old) at
  pub differs : DiffersAt (DiskSays old) (DiskSays new) (SaysRun first fresh) at value

-- while the word is stored, each image that a stop may leave stands for the disk of before or the
-- disk of after
abbrev pub OneWordLeavesOldOrNew : Type 0
OneWordLeavesOldOrNew = (old new : Disk) (first : ℕ) (fresh : List ℕ) (at value : ℕ)
    → IsOneWord old new first fresh at value
    → (who : ℕ) (s t : State) → Agree t.now t.past → length t.now ≡ 512 * old.geometry.pages
    → Stands (DiskSays old) s → IsReady who (SaysRun first fresh) s
    → LeavesOnly s t (IsCommitted who at value s)
    → LeavesOnly s t (λ c. StandsFor c old ⊎ StandsFor c new)

-- where no word is fresh that is enough, so that the word needs no fence before its store
abbrev pub OneWordInAnyOrder : Type 0
OneWordInAnyOrder = (old new : Disk) (first at value : ℕ) → IsOneWord old new first [] at value
    → (s t : State) → Agree t.now t.past → length t.now ≡ 512 * old.geometry.pages
    → Stands (DiskSays old) s
    → LeavesOnly s t (LeavesOneWord at value s)
    → LeavesOnly s t (λ c. StandsFor c old ⊎ StandsFor c new)

-- once it is stored, flushed and fenced, the device stands for the disk of after
abbrev pub OneWordStands : Type 0
OneWordStands = (old new : Disk) (first : ℕ) (fresh : List ℕ) (at value : ℕ)
    → IsOneWord old new first fresh at value
    → (who : ℕ) (s t : State) → length s.now ≡ 512 * old.geometry.pages → Stands (DiskSays old) s
    → IsReady who (SaysRun first fresh) s
    → IsDone who at value s t → StoresOnly (λ a. a ≡ at) s t → Stands (DiskSays new) t

-- before it is stored the word is settled, and its line lies in the device
pub record MayCommit (s : State) (at : ℕ) : Type 0 where
  pub settled : IsSettled s at
  pub line : at / 8 * 8 + 8 ≤ length s.now

abbrev pub OneWordMayCommit : Type 0
OneWordMayCommit = (old new : Disk) (first : ℕ) (fresh : List ℕ) (at value : ℕ)
    → IsOneWord old new first fresh at value
    → (s : State) → length s.now ≡ 512 * old.geometry.pages → Stands (DiskSays old) s
    → MayCommit s at

-- a run that is held, or was stored and flushed, is ready
abbrev pub HeldRunIsReady : Type 0
HeldRunIsReady = (who first : ℕ) (values : List ℕ) (s : State) → first + length values ≤ length
    s.now → HoldsRun who first values s → IsReady who (SaysRun first values) s

abbrev pub StoredRunIsReady : Type 0
StoredRunIsReady = (who first : ℕ) (values : List ℕ) (s t : State) → first + length values ≤ length
    s.now → StoresRun who first values s t → IsReady who (SaysRun first values) t

-- so is its front
abbrev pub FrontIsReady : Type 0
FrontIsReady = (who first : ℕ) (values more : List ℕ) (s : State)
    → IsReady who (SaysRun first (values ++ more)) s → IsReady who (SaysRun first values) s

-- and it stays ready, for every actor, through a commit of another word
abbrev pub ReadyThroughCommit : Type 0
ReadyThroughCommit = (who q first : ℕ) (values : List ℕ) (at value : ℕ) (s t : State)
    → IsReady who (SaysRun first values) s → (IsIn first (length values) at → ⊥)
    → IsDone who at value s t → StoresOnly (λ a. a ≡ at) s t → IsReady q (SaysRun first values) t

-- where no word is fresh, nothing has to stand before
abbrev pub NothingIsReady : Type 0
NothingIsReady = (who first : ℕ) (s : State) → IsReady who (SaysRun first []) s

-- stores to words of which the disk says nothing leave it standing, and each image stands for it
abbrev pub IsUnread : Disk → ℕ → ℕ → Type 0
IsUnread d first n = (a v : ℕ) → DiskSays d a v → IsIn first n a → ⊥

abbrev pub UnreadStoresStand : Type 0
UnreadStoresStand = (d : Disk) (first n : ℕ) → IsUnread d first n → (s t : State)
    → StoresOnly (IsIn first n) s t → Stands (DiskSays d) s → Stands (DiskSays d) t

abbrev pub UnreadStoresLeaveSame : Type 0
UnreadStoresLeaveSame = (d : Disk) (first n : ℕ) → IsUnread d first n → (s t : State)
    → StoresOnly (IsIn first n) s t → Stands (DiskSays d) s
    → IsValid d → Agree t.now t.past → length t.now ≡ 512 * d.geometry.pages
    → LeavesOnly s t (λ c. StandsFor c d)
