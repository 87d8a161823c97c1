-- Pointers that lead to no row of their page are cleared.
use Rattle.std.specs.Prelude.{◌≡◌, ◌≢◌, ◌⊎◌, ℕ, ◌<◌, List}
use Rattle.pm_device.specs.State.{State}
use Rattle.pm_device.specs.Settled.{LeavesOnly, StoresOnly, KeepsFlushed, Others}
use Rattle.pm_device.specs.Reading.{Stands}
use Rattle.pm_layout.specs.Geometry.{pointer_word}
use Rattle.dn_model.specs.Disk.{Disk, TableSays, rows}
use Rattle.law_table.specs.Changes.{with_table, repointed}
use Rattle.law_table.specs.Words.{HoldsTable}
use Rattle.fact_table.specs.Table.{Table, IsTable, HasNoneOf}

-- the page's pointer leads to a slot, and no row has the page
pub record IsStale (d : Disk) (page : ℕ) : Type 0 where
  pub in_image : page < d.geometry.pages
  pub some : d.pointer page ≢ 0
  pub no_row : HasNoneOf d page

-- some stale pointers are cleared, and nothing else differs
pub record Clears (old new : Disk) : Type 0 where
  pub same : new ≡ with_table old old.chain new.pointer
  pub rows_same : rows new ≡ rows old
  pub pointers : (page : ℕ) → (new.pointer page ≡ old.pointer page)
      ⊎ (IsStale old page × (new.pointer page ≡ 0))

-- in the end the words hold the table with all of them cleared, which stands if that of before
-- stood
pub record IsTidied (d : Disk) (t : Table) (old new : State) : Type 0 where
  pub disk : Disk
  pub clears : Clears d disk
  pub none_stale : (page : ℕ) → IsStale disk page → ⊥
  pub table : IsTable disk new.now t
  pub settled : Stands (TableSays d) old → Stands (TableSays disk) new

abbrev pub MakesTidy : Table → State → State → Type 0
MakesTidy t old new = (d : Disk) → IsTable d old.now t → IsTidied d t old new

-- the image has the table with some stale pointers cleared
pub record HasCleared (d : Disk) (c : List ℕ) : Type 0 where
  pub disk : Disk
  pub clears : Clears d disk
  pub holds : HoldsTable c disk

-- where the table stood, on the way each image has it with some stale pointers cleared
abbrev pub LeavesCleared : Table → State → State → Type 0
LeavesCleared t old new = (d : Disk) → IsTable d old.now t → Stands (TableSays d) old
    → LeavesOnly old new (HasCleared d)

-- the word of a stale pointer
pub record IsStaleWord (d : Disk) (a : ℕ) : Type 0 where
  pub page : ℕ
  pub stale : IsStale d page
  pub place : a ≡ pointer_word d.geometry page

-- which words are stored to, and what other actors had flushed
abbrev pub ClearsOnly : Table → State → State → Type 0
ClearsOnly t old new = (d : Disk) → IsTable d old.now t → StoresOnly (IsStaleWord d) old new

abbrev pub KeepsCleared : ℕ → Table → State → State → Type 0
KeepsCleared who t old new = (d : Disk) → IsTable d old.now t
    → KeepsFlushed (Others who) (IsStaleWord d) old new

-- the same of one page: its pointer is cleared if it is stale
pub data IsPageCleared (d : Disk) (page : ℕ) (t : Table) (old new : State) : Type 0 where
  stays : (IsStale d page → ⊥) → IsTable d new.now t
      → (Stands (TableSays d) old → Stands (TableSays d) new) → IsPageCleared d page t old new
  clears : IsStale d page → IsTable (repointed d page 0) new.now t
      → (Stands (TableSays d) old → Stands (TableSays (repointed d page 0)) new)
      → IsPageCleared d page t old new

-- before or after it
abbrev pub HasPage : Disk → ℕ → List ℕ → Type 0
HasPage d page c = HoldsTable c d ⊎ (IsStale d page × HoldsTable c (repointed d page 0))

abbrev pub IsPageWord : Disk → ℕ → ℕ → Type 0
IsPageWord d page a = IsStale d page × (a ≡ pointer_word d.geometry page)

abbrev pub MakesPage : Table → ℕ → State → State → Type 0
MakesPage t page old new = (d : Disk) → IsTable d old.now t → IsPageCleared d page t old new

abbrev pub LeavesPage : Table → ℕ → State → State → Type 0
LeavesPage t page old new = (d : Disk) → IsTable d old.now t → Stands (TableSays d) old
    → LeavesOnly old new (HasPage d page)

abbrev pub StoresPage : Table → ℕ → State → State → Type 0
StoresPage t page old new = (d : Disk) → IsTable d old.now t → StoresOnly (IsPageWord d page) old
    new

abbrev pub KeepsPage : ℕ → Table → ℕ → State → State → Type 0
KeepsPage who t page old new = (d : Disk) → IsTable d old.now t
    → KeepsFlushed (Others who) (IsPageWord d page) old new
