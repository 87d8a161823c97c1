-- A row goes out of the table by its slot.
use Rattle.std.specs.Prelude.{◌≡◌, ℕ, ◌<◌, ◌≤◌, if◌then◌else◌, ◌==◌, List, Contains, slice_index}
use Rattle.pm_device.specs.State.{State}
use Rattle.pm_device.specs.Settled.{LeavesOnly, StoresOnly, KeepsFlushed, Others}
use Rattle.pm_device.specs.Reading.{Stands}
use Rattle.pm_layout.specs.declared.Geometry.{Geometry}
use Rattle.pm_layout.specs.Geometry.{directs, slot_word}
use Rattle.dn_model.specs.Table.{Row, prefix_of}
use Rattle.dn_model.specs.Disk.{Disk, TableSays}
use Rattle.law_table.specs.Changes.{removed, slot_before}
use Rattle.fact_table.specs.Chained.{IsChainFrom}
use Rattle.fact_table.specs.Table.{Table, IsTable, IsAtSlot, GivesBackSlot}
use Rattle.fact_rows.specs.Put.{HoldsOneOf}
use Rattle.fact_rows.specs.Gone.{cleared, IsGoneWord}

-- these rows are chained behind the direct slot, and one of them has this slot
pub record IsChainTo (g : Geometry) (words : List ℕ) (direct slot : ℕ) (rows : List Row) : Type 0
  where
    pub from : IsChainFrom g words (slice_index words (slot_word g direct 5)) rows
    pub row : Row
    pub there : Contains rows row
    pub slot_is : row.slot ≡ slot

pub record HasChainTo (g : Geometry) (words : List ℕ) (direct slot : ℕ) : Type 0 where
  pub rows : List Row
  pub is : IsChainTo g words direct slot rows

-- it is the slot whose next word leads there
abbrev pub IsBefore : Geometry → List ℕ → ℕ → ℕ → ℕ → Type 0
IsBefore g words direct slot before = (rows : List Row) → IsChainTo g words direct slot rows
    → before ≡ slot_before direct rows slot

-- the words hold a table whose row at this slot has no reference and no update under way
pub record MayRemoveAt (d : Disk) (row : Row) (words : List ℕ) (t : Table) (slot : ℕ) : Type 0 where
  pub table : IsTable d words t
  pub at_slot : IsAtSlot d slot row
  pub no_reference : row.rfc ≡ 0
  pub no_update : row.uc ≡ 0

pub record HasZero (words : List ℕ) (t : Table) (slot : ℕ) : Type 0 where
  pub disk : Disk
  pub row : Row
  pub may : MayRemoveAt disk row words t slot

-- the row at this slot has this page and this print
pub record IsReadAt (words : List ℕ) (t : Table) (slot page : ℕ) (print : List ℕ) : Type 0 where
  pub page_is : (d : Disk) (row : Row) → IsTable d words t → IsAtSlot d slot row → row.page ≡ page
  pub print_is : (d : Disk) (row : Row) → IsTable d words t → IsAtSlot d slot row
      → row.print ≡ print

-- the word that decides: the page word of the direct slot, or the next word of the slot before
abbrev pub deciding_word : Disk → Row → ℕ
deciding_word d row =
    if row.slot == prefix_of d.geometry row.print
    then slot_word d.geometry row.slot 0
    else slot_word d.geometry (slot_before (prefix_of d.geometry row.print)
    (d.chain (prefix_of d.geometry row.print)) row.slot) 5

abbrev pub IsRemoveWord : Disk → Row → ℕ → Type 0
IsRemoveWord d row a = IsGoneWord d.geometry (deciding_word d row) row.page a

-- what is kept in memory: an indirect slot has no row then, and of direct ones nothing is kept
pub data Frees (slot : ℕ) (old new : Table) : Type 0 where
  of_direct : slot < directs old.geometry → new ≡ old → Frees slot old new
  of_indirect : directs old.geometry ≤ slot → GivesBackSlot slot old new → Frees slot old new

-- in the end the words hold the table without the row and the pointer
abbrev pub MakesRemoved : Table → Table → ℕ → State → State → Type 0
MakesRemoved t t' slot old new = (d : Disk) (row : Row) → MayRemoveAt d row old.now t slot
    → IsTable (cleared d row) new.now t'

-- which stands, if that of before stood
abbrev pub SettlesRemoved : Table → ℕ → State → State → Type 0
SettlesRemoved t slot old new = (d : Disk) (row : Row) → MayRemoveAt d row old.now t slot
    → Stands (TableSays d) old → Stands (TableSays (cleared d row)) new

-- and then on the way each image has the table of before, or that without the row, with or without
-- the pointer
abbrev pub LeavesRemoved : Table → ℕ → State → State → Type 0
LeavesRemoved t slot old new = (d : Disk) (row : Row) → MayRemoveAt d row old.now t slot
    → Stands (TableSays d) old
    → LeavesOnly old new (λ c. HoldsOneOf c d (removed d row.slot) (cleared d row))

-- which words are stored to, and what other actors had flushed
abbrev pub RemovesOnly : Table → ℕ → State → State → Type 0
RemovesOnly t slot old new = (d : Disk) (row : Row) → MayRemoveAt d row old.now t slot
    → StoresOnly (IsRemoveWord d row) old new

abbrev pub KeepsThrough : ℕ → Table → ℕ → State → State → Type 0
KeepsThrough who t slot old new = (d : Disk) (row : Row) → MayRemoveAt d row old.now t slot
    → KeepsFlushed (Others who) (IsRemoveWord d row) old new
