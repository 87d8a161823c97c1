-- A row comes into a table at the slot that it gets.
use Rattle.std.specs.Prelude.{◌≡◌, ◌⊎◌, ℕ, List}
use Rattle.pm_device.specs.State.{State}
use Rattle.pm_device.specs.Settled.{LeavesOnly}
use Rattle.pm_device.specs.Reading.{Stands}
use Rattle.pm_device.specs.Words.{IsIn}
use Rattle.pm_layout.specs.Geometry.{InData, slot_word, pointer_word}
use Rattle.fingerprint.specs.Print.{IsPrint}
use Rattle.dn_model.specs.Table.{prefix_of}
use Rattle.dn_model.specs.Disk.{Disk, TableSays, rows}
use Rattle.fact_table.specs.Chained.{HasNoRow}
use Rattle.fact_table.specs.Table.{Table, IsTable, HasRow, HasNoneAt, HasNoneOf, TakesSlot}
use Rattle.fact_rows.specs.Put.{new_row, pointed, opened_with, linked_with, HoldsOneOf}

-- the table that the words hold may get a row of this print and page: the page is one of the data
-- area, and no row has
-- the print or the page
pub record MayInsert (d : Disk) (words : List ℕ) (t : Table) (print : List ℕ) (page : ℕ) : Type 0
  where
    pub table : IsTable d words t
    pub twenty_bytes : IsPrint print
    pub data_page : InData t.geometry page
    pub new_print : HasNoRow (rows d) print
    pub new_page : HasNoneOf d page

pub record CanInsert (words : List ℕ) (t : Table) (print : List ℕ) (page : ℕ) : Type 0 where
  pub disk : Disk
  pub may : MayInsert disk words t print page

-- the row's slot, the disk with it, and the table in memory: the direct slot of its prefix where
-- that has no row, and
-- else the least indirect slot without one
pub data Inserts (d : Disk) (t : Table) (print : List ℕ) (page : ℕ) : ℕ → Disk → Table
    → Type 0 where
  opens : HasNoneAt d (prefix_of t.geometry print)
      → Inserts d t print page (prefix_of t.geometry print)
      (opened_with d (prefix_of t.geometry print) print page) t
  links : {slot : ℕ} {new : Table} → HasRow d (prefix_of t.geometry print) → TakesSlot slot t new
      → Inserts d t print page slot (linked_with d (prefix_of t.geometry print) slot print page) new

-- in the end the words hold the table with the row, which stands if that of before stood
pub record HasInserted (d : Disk) (t t' : Table) (print : List ℕ) (page slot : ℕ) (old new : State)
    : Type 0 where
  pub disk : Disk
  pub inserts : Inserts d t print page slot disk t'
  pub table : IsTable disk new.now t'
  pub settled : Stands (TableSays d) old → Stands (TableSays disk) new

abbrev pub MakesInserted : Table → Table → List ℕ → ℕ → State → State → ℕ → Type 0
MakesInserted t t' print page old new slot = (d : Disk) → MayInsert d old.now t print page
    → HasInserted d t t' print page slot old new

-- where it stood, on the way each image has the table of before, with or without the pointer, or
-- that with the row
pub record IsInserting (d : Disk) (t t' : Table) (print : List ℕ) (page : ℕ) (old new : State) :
    Type 0 where
  pub slot : ℕ
  pub disk : Disk
  pub inserts : Inserts d t print page slot disk t'
  pub leaves : LeavesOnly old new (λ c. HoldsOneOf c d (pointed d (new_row slot print page)) disk)

abbrev pub LeavesInserted : Table → Table → List ℕ → ℕ → State → State → Type 0
LeavesInserted t t' print page old new = (d : Disk) → MayInsert d old.now t print page
    → Stands (TableSays d) old → IsInserting d t t' print page old new

-- a word of the slot that was taken
pub record IsTakenWord (t t' : Table) (a : ℕ) : Type 0 where
  pub slot : ℕ
  pub takes : TakesSlot slot t t'
  pub inside : IsIn (slot_word t.geometry slot 0) 8 a

-- a word of the direct slot of the prefix, the pointer of the page, or a word of the slot that was
-- taken
abbrev pub IsInsertWord : Table → Table → List ℕ → ℕ → ℕ → Type 0
IsInsertWord t t' print page a = IsIn (slot_word t.geometry (prefix_of t.geometry print) 0) 8 a
    ⊎ (a ≡ pointer_word t.geometry page) ⊎ IsTakenWord t t' a
