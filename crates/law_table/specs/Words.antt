-- A change of a table that one store decides. Of a disk only the table is spoken of: its geometry,
-- chains and pointers.
use Rattle.std.specs.Prelude.{◌≡◌, ◌≢◌, ◌⊎◌, ℕ, ◌*◌, ◌<◌, ◌≤◌, List, [], length, slice_index}
use Rattle.pm_device.specs.State.{State}
use Rattle.pm_device.specs.Settled.{IsSettled, LeavesOnly, StoresOnly}
use Rattle.pm_device.specs.Reading.{Said, Reads, Stands, IsReady, DiffersAt}
use Rattle.pm_device.specs.Words.{IsIn}
use Rattle.pm_device.specs.Pages.{SaysRun}
use Rattle.pm_device.specs.Commit.{IsCommitted, IsDone, LeavesOneWord}
use Rattle.pm_layout.specs.declared.Geometry.{Geometry}
use Rattle.pm_layout.specs.Geometry.{direct_page, first_data}
use Rattle.dn_model.specs.Disk.{Disk, TableSays}
use Rattle.dn_model.specs.Valid.{HasGoodRows}

-- a word of the table: of a slot, or a page's pointer
abbrev pub IsTableWord : Geometry → ℕ → Type 0
IsTableWord g a = (512 * direct_page g ≤ a) × (a < 512 * first_data g)

-- the words read as the table of d
abbrev pub HoldsTable : List ℕ → Disk → Type 0
HoldsTable words d = Reads (TableSays d) words

-- Word `at` becomes `value`, once fresh values stand from word `first` on: then the table is that
-- of the new disk,
-- and its rows make sense.
pub record IsOneTableWord (old new : Disk) (first : ℕ) (fresh : List ℕ) (at value : ℕ) : Type 0
  where
    pub geometry : new.geometry ≡ old.geometry
    pub good : HasGoodRows new
    pub inside : at < 512 * old.geometry.pages
    pub said : Said (TableSays old) at
    pub differs : DiffersAt (TableSays old) (TableSays new) (SaysRun first fresh) at value

-- before it is stored the word is settled, where the table stands
abbrev pub TableWordIsSettled : Type 0
TableWordIsSettled = (old new : Disk) (first : ℕ) (fresh : List ℕ) (at value : ℕ)
    → IsOneTableWord old new first fresh at value
    → (s : State) → Stands (TableSays old) s → IsSettled s at

-- while the word is stored, each image that a stop may leave has the table of before or that of
-- after
abbrev pub TableWordLeavesOldOrNew : Type 0
TableWordLeavesOldOrNew = (old new : Disk) (first : ℕ) (fresh : List ℕ) (at value : ℕ)
    → IsOneTableWord old new first fresh at value
    → (who : ℕ) (s t : State) → Stands (TableSays old) s → IsReady who (SaysRun first fresh) s
    → LeavesOnly s t (IsCommitted who at value s)
    → LeavesOnly s t (λ c. HoldsTable c old ⊎ HoldsTable c new)

-- where the fresh words stand already, the word needs no fence before its store
abbrev pub TableWordInAnyOrder : Type 0
TableWordInAnyOrder = (old new : Disk) (first : ℕ) (fresh : List ℕ) (at value : ℕ)
    → IsOneTableWord old new first fresh at value
    → (s t : State) → Stands (TableSays old) s → Stands (SaysRun first fresh) s
    → LeavesOnly s t (LeavesOneWord at value s)
    → LeavesOnly s t (λ c. HoldsTable c old ⊎ HoldsTable c new)

-- once it is stored, flushed and fenced, the table of after stands
abbrev pub TableWordStands : Type 0
TableWordStands = (old new : Disk) (first : ℕ) (fresh : List ℕ) (at value : ℕ)
    → IsOneTableWord old new first fresh at value
    → (who : ℕ) (s t : State) → length s.now ≡ 512 * old.geometry.pages → Stands (TableSays old) s
    → IsReady who (SaysRun first fresh) s
    → IsDone who at value s t → StoresOnly (λ a. a ≡ at) s t → Stands (TableSays new) t

-- and the words read as it, whatever is settled
abbrev pub TableWordReads : Type 0
TableWordReads = (old new : Disk) (first : ℕ) (fresh : List ℕ) (at value : ℕ)
    → IsOneTableWord old new first fresh at value
    → (s t : State) → HoldsTable s.now old → Reads (SaysRun first fresh) s.now
    → slice_index t.now at ≡ value → StoresOnly (λ a. a ≡ at) s t → HoldsTable t.now new

-- words of which the table says nothing
abbrev pub IsUntold : Disk → ℕ → ℕ → Type 0
IsUntold d first n = (a v : ℕ) → TableSays d a v → IsIn first n a → ⊥

-- stores to them leave the table as it is, and each image has it
abbrev pub UntoldStoresRead : Type 0
UntoldStoresRead = (d : Disk) (first n : ℕ) → IsUntold d first n → (s t : State)
    → StoresOnly (IsIn first n) s t → HoldsTable s.now d → HoldsTable t.now d

abbrev pub UntoldStoresStand : Type 0
UntoldStoresStand = (d : Disk) (first n : ℕ) → IsUntold d first n → (s t : State)
    → StoresOnly (IsIn first n) s t → Stands (TableSays d) s → Stands (TableSays d) t

abbrev pub UntoldStoresLeaveSame : Type 0
UntoldStoresLeaveSame = (d : Disk) (first n : ℕ) → IsUntold d first n → (s t : State)
    → StoresOnly (IsIn first n) s t → Stands (TableSays d) s
    → LeavesOnly s t (λ c. HoldsTable c d)
