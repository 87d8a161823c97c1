-- What a table in a device's words stands for.
use Rattle.std.specs.Prelude.{◌≡◌, ◌≢◌, ℕ, ◌+◌, ◌-◌, ◌*◌, ◌<◌, ◌≤◌, List, length, Contains}
use Rattle.pm_device.specs.State.{State}
use Rattle.pm_device.specs.Reading.{Reads, Stands}
use Rattle.pm_layout.specs.declared.Geometry.{Geometry}
use Rattle.pm_layout.specs.Geometry.{IsAccepted, directs, slots}
use Rattle.page_alloc.specs.Free.{FreePages, Takes, GivesBack}
use Rattle.dn_model.specs.Table.{Row}
use Rattle.dn_model.specs.Disk.{Disk, TableSays, rows}
use Rattle.dn_model.specs.Valid.{HasGoodRows}

-- What is kept of a table in ordinary memory: its geometry, and which indirect slots have no row.
-- Number k of the
-- set stands for the k-th indirect slot.
pub record Table : Type 0 where
  pub geometry : Geometry
  pub free : FreePages

-- an indirect slot that the set has
abbrev pub IsUnused : Table → ℕ → Type 0
IsUnused t slot = (directs t.geometry ≤ slot) × Contains t.free.free (slot - directs t.geometry)

-- a row of the table with this slot; with this page
pub record IsAtSlot (d : Disk) (slot : ℕ) (row : Row) : Type 0 where
  pub there : Contains (rows d) row
  pub slot_is : row.slot ≡ slot

pub record IsOfPage (d : Disk) (page : ℕ) (row : Row) : Type 0 where
  pub there : Contains (rows d) row
  pub page_is : row.page ≡ page

-- there is one, or there is none
pub record HasRow (d : Disk) (slot : ℕ) : Type 0 where
  pub row : Row
  pub is : IsAtSlot d slot row

abbrev pub HasNoneAt : Disk → ℕ → Type 0
HasNoneAt d slot = (row : Row) → Contains (rows d) row → row.slot ≢ slot

abbrev pub HasNoneOf : Disk → ℕ → Type 0
HasNoneOf d page = (row : Row) → Contains (rows d) row → row.page ≢ page

-- the words read as the table of d, and the set has the indirect slots without a row
pub record IsTable (d : Disk) (words : List ℕ) (t : Table) : Type 0 where
  pub geometry : d.geometry ≡ t.geometry
  pub accepted : IsAccepted t.geometry
  pub size : length words ≡ 512 * t.geometry.pages
  pub says : Reads (TableSays d) words
  pub good : HasGoodRows d
  pub set : t.free.pages ≡ t.geometry.pages
  pub free : (k : ℕ) → Contains t.free.free k → HasNoneAt d (directs t.geometry + k)
  pub taken : (k : ℕ) → k < t.geometry.pages → ¬ Contains t.free.free k
      → HasRow d (directs t.geometry + k)

-- so it is, and a stop leaves these words as they are read
pub record IsSettledTable (d : Disk) (s : State) (t : Table) : Type 0 where
  pub table : IsTable d s.now t
  pub stands : Stands (TableSays d) s

-- the words read as some table
pub record HasTable (words : List ℕ) (t : Table) : Type 0 where
  pub disk : Disk
  pub is : IsTable disk words t

-- the least indirect slot of the set is in it no more, and nothing else changed
pub record TakesSlot (slot : ℕ) (old new : Table) : Type 0 where
  pub geometry : new.geometry ≡ old.geometry
  pub indirect : directs old.geometry ≤ slot
  pub small : slot < slots old.geometry
  pub takes : Takes (slot - directs old.geometry) old.free new.free

-- the indirect slot is in the set, and nothing else changed
pub record GivesBackSlot (slot : ℕ) (old new : Table) : Type 0 where
  pub geometry : new.geometry ≡ old.geometry
  pub gives_back : GivesBack (slot - directs old.geometry) old.free new.free
