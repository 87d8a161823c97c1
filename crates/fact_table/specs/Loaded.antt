-- What is read of a table as it is loaded, and the fault of its pointers.
use Rattle.std.specs.Prelude.{
  ◌≡◌,
  ◌≢◌,
  ◌⊎◌,
  ℕ,
  ◌+◌,
  ◌-◌,
  ◌*◌,
  ◌<◌,
  ◌≤◌,
  Bool,
  true,
  List,
  length,
  slice_index,
  slice_index_or,
  slice_get,
  Some,
  false,
  Contains,
}
use Rattle.pm_device.specs.Reading.{Reads}
use Rattle.pm_layout.specs.declared.Geometry.{Geometry}
use Rattle.pm_layout.specs.Geometry.{directs, slots, pointer_word}
use Rattle.page_alloc.specs.Free.{FreePages}
use Rattle.dn_model.specs.Table.{Row}
use Rattle.dn_model.specs.Disk.{Disk, ChainsSay, PointersSay, TableSays, rows}
use Rattle.dn_model.specs.Valid.{IsRow, AreApart, HasGoodRows}
use Rattle.dn_model.specs.Faults.{IsLeast, TableFault}
use Rattle.fact_scan.specs.declared.scan.ScanFault.{ScanFault}
use Rattle.fact_scan.specs.declared.scan.ScanFault.TheVariants.{
  BadTable as BadRows,
  NoMemory as NoRoom,
}
use Rattle.fact_table.specs.declared.load.FactFault.{FactFault}
use Rattle.fact_table.specs.declared.load.FactFault.TheVariants.{BadTable, BadPointer, NoMemory}

-- the words read as the chains and the pointers of d, whose rows make sense and are apart
pub record ReadsAs (g : Geometry) (words : List ℕ) (d : Disk) : Type 0 where
  pub geometry : d.geometry ≡ g
  pub chains : Reads (ChainsSay d) words
  pub pointers : Reads (PointersSay d) words
  pub valid : (prefix k : ℕ) (row : Row) → prefix < directs d.geometry
      → slice_get (d.chain prefix) k ≡ Some row → IsRow d.geometry prefix k row
  pub apart : AreApart (rows d)

-- a page whose pointer is no slot's, or that has a row to which its pointer doesn't lead
abbrev pub IsBadPointer : Disk → ℕ → Type 0
IsBadPointer d page = (slots d.geometry < d.pointer page)
    ⊎ ((row : Row) × Contains (rows d) row × (row.page ≡ page) × (d.pointer page ≢ row.slot + 1))

-- the chains can be read, and this is the least such page
pub record PointerFault (g : Geometry) (words : List ℕ) (page : ℕ) : Type 0 where
  pub disk : Disk
  pub read : ReadsAs g words disk
  pub least : IsLeast g.pages (IsBadPointer disk) page

-- the fault that is told of rows which can't be read
abbrev pub told : ScanFault → FactFault
told (BadRows slot) = BadTable slot
told NoRoom = NoMemory

abbrev pub IsFaultOf : Geometry → List ℕ → FactFault → Type 0
IsFaultOf g words (BadTable slot) = TableFault g words slot
IsFaultOf g words (BadPointer page) = PointerFault g words page
IsFaultOf g words NoMemory = Unit {0}

-- for each page the slot of its row plus 1, or 0 where no row has the page
pub record ArePointers (g : Geometry) (rs : List Row) (wanted : List ℕ) : Type 0 where
  pub all : length wanted ≡ g.pages
  pub some : (row : Row) → Contains rs row → slice_index wanted row.page ≢ 0
  pub leads : (page : ℕ) → slice_index wanted page ≢ 0
      → (row : Row) × Contains rs row × (row.page ≡ page) × (slice_index wanted page ≡ row.slot + 1)

-- the word is no slot's, or isn't the one that is wanted
abbrev pub IsWrong : Geometry → List ℕ → List ℕ → ℕ → Type 0
IsWrong g words wanted page = (slots g < slice_index words (pointer_word g page))
    ⊎ ((slice_index wanted page ≢ 0) × (slice_index words (pointer_word g page) ≢ slice_index wanted
    page))

-- for each indirect slot whether it has a row
pub record AreUsed (g : Geometry) (rs : List Row) (used : List Bool) : Type 0 where
  pub all : length used ≡ g.pages
  pub some : (row : Row) → Contains rs row → directs g ≤ row.slot
      → slice_index_or used (row.slot - directs g) false ≡ true
  pub taken : (k : ℕ) → slice_index_or used k false ≡ true
      → (row : Row) × Contains rs row × (row.slot ≡ directs g + k)

-- the set has the indirect slots without a row: number k stands for the k-th
pub record AreUnused (g : Geometry) (rs : List Row) (set : FreePages) : Type 0 where
  pub all : set.pages ≡ g.pages
  pub free : (k : ℕ) → Contains set.free k → (row : Row) → Contains rs row
      → row.slot ≢ directs g + k
  pub taken : (k : ℕ) → k < g.pages → ¬ Contains set.free k
      → (row : Row) × Contains rs row × (row.slot ≡ directs g + k)

-- the words read as the table of d, whose rows are these
pub record HasRowsOf (d : Disk) (g : Geometry) (words : List ℕ) (rs : List Row) : Type 0 where
  pub geometry : d.geometry ≡ g
  pub size : length words ≡ 512 * g.pages
  pub says : Reads (TableSays d) words
  pub good : HasGoodRows d
  pub rows_are : rows d ≡ rs
