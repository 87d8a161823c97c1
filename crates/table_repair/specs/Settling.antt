-- A table is settled: each count becomes the number of mappings, rows without mappings go, and
-- stale pointers are cleared.
use Rattle.std.specs.Prelude.{◌≡◌, ◌≢◌, ℕ, List, map, slice_index, Contains}
use Rattle.pm_device.specs.State.{State}
use Rattle.pm_device.specs.Settled.{LeavesOnly, StoresOnly, Nowhere}
use Rattle.pm_device.specs.Reading.{Stands}
use Rattle.dn_model.specs.Table.{Row}
use Rattle.dn_model.specs.Disk.{Disk, DiskSays, rows}
use Rattle.dn_model.specs.Counts.{mappings, Exact}
use Rattle.dn_model.specs.Valid.{IsValid}
use Rattle.dn_model.specs.Own.{Print, IsOwn}
use Rattle.law_table_on_disk.specs.CountLaws.{IsExact}
use Rattle.fact_scan.specs.Seen.{as_row}
use Rattle.fact_scan.specs.declared.row.Row.{Row as RowValue}
use Rattle.fact_table.specs.Table.{Table, IsTable}
use Rattle.fact_changes.specs.Stale.{IsStale}
use Rattle.fact_calls.specs.Made.{IsSameBut}
use Rattle.table_repair.specs.Later.{HasLater}

-- Nothing of the disk differs but its table. A row that has references and no update under way
-- stays as it is, and the
-- disk is this program's, if that of before was, whatever the fingerprint.
pub record SettlesFrom (d e : Disk) : Type 0 where
  pub same : IsSameBut d e
  pub quiet : (row : Row) → Contains (rows d) row → row.uc ≡ 0 → row.rfc ≢ 0 → Contains (rows e) row
  pub own : (print : Print) → IsOwn print d → IsOwn print e

-- the image stands for such a disk
abbrev pub HasSettling : Disk → List ℕ → Type 0
HasSettling d c = HasLater SettlesFrom d c

-- the device stands for a disk without a fault, and its table is kept so
pub record StandsWith (d : Disk) (t : Table) (s : State) : Type 0 where
  pub valid : IsValid d
  pub stands : Stands (DiskSays d) s
  pub table : IsTable d s.now t

-- it has this row, whose page has so many mappings
pub record IsRowToSettle (d : Disk) (t : Table) (row : Row) (n : ℕ) (s : State) : Type 0 where
  pub stands : StandsWith d t s
  pub there : Contains (rows d) row
  pub counted : n ≡ mappings d row.page

pub record HasRowToSettle (t : Table) (row : Row) (n : ℕ) (s : State) : Type 0 where
  pub disk : Disk
  pub is : IsRowToSettle disk t row n s

-- the row with this count of references, and no update under way
abbrev pub with_count : Row → ℕ → Row
with_count row n = record { slot = row.slot; print = row.print; page = row.page; rfc = n; uc = 0 }

-- at other slots these are the same rows
pub record AreSameElsewhere (slot : ℕ) (olds news : List Row) : Type 0 where
  pub kept : (row : Row) → Contains olds row → row.slot ≢ slot → Contains news row
  pub only : (row : Row) → Contains news row → row.slot ≢ slot → Contains olds row

-- the row's count is that of the mappings
pub record RowIsCounted (d : Disk) (t : Table) (row : Row) (n : ℕ) (s : State) : Type 0 where
  pub disk : Disk
  pub settles : SettlesFrom d disk
  pub stands : StandsWith disk t s
  pub there : Contains (rows disk) (with_count row n)
  pub others : AreSameElsewhere row.slot (rows d) (rows disk)

-- it is, and isn't 0; or the row is gone
pub record RowIsSettled (d : Disk) (t : Table) (slot : ℕ) (s : State) : Type 0 where
  pub disk : Disk
  pub settles : SettlesFrom d disk
  pub stands : StandsWith disk t s
  pub exact : (row : Row) → Contains (rows disk) row → row.slot ≡ slot → IsExact disk row
  pub others : AreSameElsewhere slot (rows d) (rows disk)

-- these are its rows, and for each page of a row how many mappings it has
pub record IsTableToSettle (d : Disk) (t : Table) (found : List RowValue) (mapped : List ℕ)
    (s : State) : Type 0 where
  pub stands : StandsWith d t s
  pub rows_are : map as_row found ≡ rows d
  pub counted : (row : Row) → Contains (rows d) row → slice_index mapped row.page ≡ mappings d
      row.page

pub record HasTableToSettle (t : Table) (found : List RowValue) (mapped : List ℕ) (s : State) : Type
    0 where
  pub disk : Disk
  pub is : IsTableToSettle disk t found mapped s

-- all its counts are exact
pub record CountsAreSettled (d : Disk) (t : Table) (s : State) : Type 0 where
  pub disk : Disk
  pub settles : SettlesFrom d disk
  pub stands : StandsWith disk t s
  pub exact : Exact disk

-- and no pointer is stale
pub record TableIsSettled (d : Disk) (t : Table) (s : State) : Type 0 where
  pub disk : Disk
  pub settles : SettlesFrom d disk
  pub stands : StandsWith disk t s
  pub exact : Exact disk
  pub none_stale : (page : ℕ) → IsStale disk page → ⊥

-- what a call leaves, if the device stood so as it began
abbrev pub LeavesRow : Table → Row → ℕ → State → State → Type 0
LeavesRow t row n s u = (d : Disk) → IsRowToSettle d t row n s → LeavesOnly s u (HasSettling d)

abbrev pub CountsRow : Table → Row → ℕ → State → State → Type 0
CountsRow t row n s u = (d : Disk) → IsRowToSettle d t row n s → RowIsCounted d t row n u

abbrev pub SettlesRow : Table → Table → Row → ℕ → State → State → Type 0
SettlesRow t t' row n s u = (d : Disk) → IsRowToSettle d t row n s → RowIsSettled d t' row.slot u

abbrev pub LeavesTable : Table → List RowValue → List ℕ → State → State → Type 0
LeavesTable t found mapped s u = (d : Disk) → IsTableToSettle d t found mapped s
    → LeavesOnly s u (HasSettling d)

abbrev pub SettlesCounts : Table → Table → List RowValue → List ℕ → State → State → Type 0
SettlesCounts t t' found mapped s u = (d : Disk) → IsTableToSettle d t found mapped s
    → CountsAreSettled d t' u

abbrev pub SettlesAll : Table → Table → List RowValue → List ℕ → State → State → Type 0
SettlesAll t t' found mapped s u = (d : Disk) → IsTableToSettle d t found mapped s
    → TableIsSettled d t' u

-- where all counts are exact nothing is stored; nor afterwards where no pointer is stale
abbrev pub KeepsExact : Table → List RowValue → List ℕ → State → State → Type 0
KeepsExact t found mapped s u = (d : Disk) → IsTableToSettle d t found mapped s → Exact d
    → StoresOnly Nowhere s u

abbrev pub KeepsSettled : Table → List RowValue → List ℕ → State → State → Type 0
KeepsSettled t found mapped s u = (d : Disk) → IsTableToSettle d t found mapped s → Exact d
    → ((page : ℕ) → IsStale d page → ⊥) → StoresOnly Nowhere s u
