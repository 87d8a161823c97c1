-- A row goes out of a table from a given slot.
use Rattle.std.specs.Prelude.{◌≡◌, ◌⊎◌, ℕ, List}
use Rattle.pm_device.specs.State.{State}
use Rattle.pm_device.specs.Settled.{LeavesOnly}
use Rattle.pm_device.specs.Reading.{Stands}
use Rattle.pm_layout.specs.declared.Geometry.{Geometry}
use Rattle.pm_layout.specs.Geometry.{pointer_word}
use Rattle.dn_model.specs.Table.{Row}
use Rattle.dn_model.specs.Disk.{Disk, TableSays}
use Rattle.law_table.specs.Changes.{repointed, removed, slot_before}
use Rattle.law_table.specs.Words.{HoldsTable}
use Rattle.law_table.specs.Rows.{MayTakeRow}
use Rattle.fact_rows.specs.Put.{HoldsOneOf}

-- the words hold the table of this disk, whose row at this slot, of this page, may go out of the
-- chain of this prefix
pub record MayTakeOut (d : Disk) (row : Row) (words : List ℕ) (g : Geometry) (prefix slot page : ℕ)
    : Type 0 where
  pub geometry : d.geometry ≡ g
  pub holds : HoldsTable words d
  pub may : MayTakeRow d prefix row
  pub slot_is : row.slot ≡ slot
  pub page_is : row.page ≡ page

pub record CanTakeOut (words : List ℕ) (g : Geometry) (prefix slot page : ℕ) : Type 0 where
  pub disk : Disk
  pub row : Row
  pub may : MayTakeOut disk row words g prefix slot page

-- the next word of slot `before` leads to it
pub record MayUnlink (d : Disk) (row : Row) (prefix : ℕ) (words : List ℕ) (g : Geometry)
    (before slot page : ℕ) : Type 0 where
  pub take : MayTakeOut d row words g prefix slot page
  pub before_is : before ≡ slot_before prefix (d.chain prefix) row.slot

pub record CanUnlink (words : List ℕ) (g : Geometry) (before slot page : ℕ) : Type 0 where
  pub disk : Disk
  pub row : Row
  pub prefix : ℕ
  pub may : MayUnlink disk row prefix words g before slot page

-- the row is gone, and the pointer of its page is cleared
abbrev pub cleared : Disk → Row → Disk
cleared d row = repointed (removed d row.slot) row.page 0

-- the word that decides, or the pointer of the page
abbrev pub IsGoneWord : Geometry → ℕ → ℕ → ℕ → Type 0
IsGoneWord g gate page a = (a ≡ gate) ⊎ (a ≡ pointer_word g page)

-- a row goes out of its direct slot: the table in the end
abbrev pub MakesClosed : Geometry → ℕ → ℕ → State → State → Type 0
MakesClosed g direct page old new = (d : Disk) (row : Row) → MayTakeOut d row old.now g direct
    direct page → HoldsTable new.now (cleared d row)

-- which stands, if that of before stood
abbrev pub SettlesClosed : Geometry → ℕ → ℕ → State → State → Type 0
SettlesClosed g direct page old new = (d : Disk) (row : Row) → MayTakeOut d row old.now g direct
    direct page → Stands (TableSays d) old → Stands (TableSays (cleared d row)) new

-- and what images have on the way then
abbrev pub LeavesClosed : Geometry → ℕ → ℕ → State → State → Type 0
LeavesClosed g direct page old new = (d : Disk) (row : Row) → MayTakeOut d row old.now g direct
    direct page → Stands (TableSays d) old
    → LeavesOnly old new (λ c. HoldsOneOf c d (removed d row.slot) (cleared d row))

-- the same where a row goes out from behind a slot
abbrev pub MakesUnlinked : Geometry → ℕ → ℕ → ℕ → State → State → Type 0
MakesUnlinked g before slot page old new = (d : Disk) (row : Row) (prefix : ℕ)
    → MayUnlink d row prefix old.now g before slot page → HoldsTable new.now (cleared d row)

abbrev pub SettlesUnlinked : Geometry → ℕ → ℕ → ℕ → State → State → Type 0
SettlesUnlinked g before slot page old new = (d : Disk) (row : Row) (prefix : ℕ)
    → MayUnlink d row prefix old.now g before slot page → Stands (TableSays d) old
    → Stands (TableSays (cleared d row)) new

abbrev pub LeavesUnlinked : Geometry → ℕ → ℕ → ℕ → State → State → Type 0
LeavesUnlinked g before slot page old new = (d : Disk) (row : Row) (prefix : ℕ)
    → MayUnlink d row prefix old.now g before slot page → Stands (TableSays d) old
    → LeavesOnly old new (λ c. HoldsOneOf c d (removed d row.slot) (cleared d row))
