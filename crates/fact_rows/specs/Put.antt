-- A row comes into a table at a given slot.
use Rattle.std.specs.Prelude.{◌≡◌, ◌⊎◌, ℕ, ◌+◌, ◌<◌, List, length}
use Rattle.pm_device.specs.State.{State}
use Rattle.pm_device.specs.Settled.{LeavesOnly}
use Rattle.pm_device.specs.Reading.{Stands}
use Rattle.pm_device.specs.Words.{IsIn}
use Rattle.pm_layout.specs.declared.Geometry.{Geometry}
use Rattle.pm_layout.specs.Geometry.{slot_word, pointer_word}
use Rattle.dn_model.specs.Table.{Row}
use Rattle.dn_model.specs.Disk.{Disk, TableSays}
use Rattle.dn_model.specs.Valid.{HasGoodRows}
use Rattle.law_table.specs.Changes.{repointed, opened, linked}
use Rattle.law_table.specs.Words.{HoldsTable}
use Rattle.law_table.specs.Rows.{IsFreshRow}

-- a row with no reference yet, and the update under way that brings the first
abbrev pub new_row : ℕ → List ℕ → ℕ → Row
new_row slot print page = record { slot = slot; print = print; page = page; rfc = 0; uc = 1 }

-- the pointer of its page leads to its slot
abbrev pub pointed : Disk → Row → Disk
pointed d row = repointed d row.page (row.slot + 1)

-- then it stands in its direct slot, or behind that of its prefix
abbrev pub opened_with : Disk → ℕ → List ℕ → ℕ → Disk
opened_with d direct print page = opened (pointed d (new_row direct print page)) direct
    (new_row direct print page)

abbrev pub linked_with : Disk → ℕ → ℕ → List ℕ → ℕ → Disk
linked_with d direct slot print page = linked (pointed d (new_row slot print page)) direct
    (new_row slot print page)

-- the words hold the table of this disk, which may get this row in the chain of this prefix
pub record MayPutAt (d : Disk) (words : List ℕ) (g : Geometry) (prefix slot : ℕ) (print : List ℕ)
    (page : ℕ) : Type 0 where
  pub geometry : d.geometry ≡ g
  pub good : HasGoodRows d
  pub holds : HoldsTable words d
  pub fresh : IsFreshRow d prefix (new_row slot print page)

pub record CanPutAt (words : List ℕ) (g : Geometry) (prefix slot : ℕ) (print : List ℕ) (page : ℕ) :
    Type 0 where
  pub disk : Disk
  pub may : MayPutAt disk words g prefix slot print page

-- an image of before, of the pointer alone, or of after
abbrev pub HoldsOneOf : List ℕ → Disk → Disk → Disk → Type 0
HoldsOneOf c d middle new = HoldsTable c d ⊎ HoldsTable c middle ⊎ HoldsTable c new

-- a word of the slot, the pointer of the page, or the word that decides
abbrev pub IsPutWord : Geometry → ℕ → ℕ → ℕ → ℕ → Type 0
IsPutWord g slot page gate a = IsIn (slot_word g slot 0) 8 a ⊎ (a ≡ pointer_word g page)
    ⊎ (a ≡ gate)

-- a row comes into a direct slot: the table in the end
abbrev pub MakesOpened : Geometry → ℕ → List ℕ → ℕ → State → State → Type 0
MakesOpened g direct print page old new = (d : Disk) → MayPutAt d old.now g direct direct print page
    → HoldsTable new.now (opened_with d direct print page)

-- which stands, if that of before stood
abbrev pub SettlesOpened : Geometry → ℕ → List ℕ → ℕ → State → State → Type 0
SettlesOpened g direct print page old new = (d : Disk) → MayPutAt d old.now g direct direct print
    page → Stands (TableSays d) old → Stands (TableSays (opened_with d direct print page)) new

-- and what images have on the way then
abbrev pub LeavesOpened : Geometry → ℕ → List ℕ → ℕ → State → State → Type 0
LeavesOpened g direct print page old new = (d : Disk) → MayPutAt d old.now g direct direct print
    page → Stands (TableSays d) old
    → LeavesOnly old new (λ c. HoldsOneOf c d (pointed d (new_row direct print page))
    (opened_with d direct print page))

-- the same where a row comes in behind a direct slot
abbrev pub MakesLinked : Geometry → ℕ → ℕ → List ℕ → ℕ → State → State → Type 0
MakesLinked g direct slot print page old new = (d : Disk) → MayPutAt d old.now g direct slot print
    page → HoldsTable new.now (linked_with d direct slot print page)

abbrev pub SettlesLinked : Geometry → ℕ → ℕ → List ℕ → ℕ → State → State → Type 0
SettlesLinked g direct slot print page old new = (d : Disk) → MayPutAt d old.now g direct slot print
    page → Stands (TableSays d) old → Stands (TableSays (linked_with d direct slot print page)) new

abbrev pub LeavesLinked : Geometry → ℕ → ℕ → List ℕ → ℕ → State → State → Type 0
LeavesLinked g direct slot print page old new = (d : Disk) → MayPutAt d old.now g direct slot print
    page → Stands (TableSays d) old
    → LeavesOnly old new (λ c. HoldsOneOf c d (pointed d (new_row slot print page))
    (linked_with d direct slot print page))
