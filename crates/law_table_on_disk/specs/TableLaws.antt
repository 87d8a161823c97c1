-- Laws that lead from a table to a whole disk: what was said elsewhere is said still.
use Rattle.std.specs.Prelude.{◌≡◌, ℕ, ◌*◌, ◌<◌, ◌≤◌, List, length, All, Contains, IsSome, IsNone}
use Rattle.pm_device.specs.Past.{Left, moment}
use Rattle.pm_device.specs.State.{State, Agree}
use Rattle.pm_device.specs.Settled.{StoresOnly}
use Rattle.pm_device.specs.Reading.{Stands}
use Rattle.dn_model.specs.Table.{Row, row_of}
use Rattle.dn_model.specs.Disk.{Disk, DiskSays, TableSays, rows}
use Rattle.dn_model.specs.Counts.{mappings, IsLogPage, IsNear}
use Rattle.dn_model.specs.Valid.{HasGoodRows, IsValid}
use Rattle.dn_model.specs.Image.{StandsFor}
use Rattle.law_write.specs.Events.{IsReadPage}
use Rattle.law_table.specs.Changes.{with_table}
use Rattle.law_table.specs.Words.{IsTableWord, HoldsTable}

-- a disk with another table, which is valid, and of which no page is read that wasn't before
pub record IsNextDisk (d e : Disk) : Type 0 where
  pub same : e ≡ with_table d e.chain e.pointer
  pub valid : IsValid e
  pub read : (page : ℕ) → IsSome (row_of (rows e) page) → IsReadPage d page

-- where only words of the table are stored to, each image that a stop may leave on the way stands
-- for the disk of its table
abbrev pub TablesInImagesAreDisks : Type 0
TablesInImagesAreDisks = (d e : Disk) → IsNextDisk d e → IsValid d
    → (s t : State) → Stands (DiskSays d) s → Agree t.now t.past
    → length t.now ≡ 512 * d.geometry.pages → StoresOnly (IsTableWord d.geometry) s t
    → (m : ℕ) (c : List ℕ) → moment s.past ≤ m → Left t.past m c → HoldsTable c e → StandsFor c e

-- where the table of the next disk stands afterwards, the device stands for that disk
abbrev pub StandingTablesAreDisks : Type 0
StandingTablesAreDisks = (d e : Disk) → IsNextDisk d e → IsValid d
    → (s t : State) → Stands (DiskSays d) s → StoresOnly (IsTableWord d.geometry) s t
    → Stands (TableSays e) t → Stands (DiskSays e) t

-- what a valid disk asks of its rows beside the table's own sense
pub record FitsDisk (d : Disk) (rs : List Row) : Type 0 where
  pub read : (row : Row) → Contains rs row → IsReadPage d row.page
  pub log_no_row : (page : ℕ) → IsLogPage d page → IsNone (row_of rs page)
  pub unshared : (page : ℕ) → IsNone (row_of rs page) → mappings d page ≤ 1
  pub near : All (IsNear d) rs

-- a disk with another table is valid where its rows make sense and fit
abbrev pub FittingTablesAreValid : Type 0
FittingTablesAreValid = (d e : Disk) → IsValid d → e ≡ with_table d e.chain e.pointer
    → HasGoodRows e → FitsDisk d (rows e) → IsNextDisk d e

-- those of a valid disk do
abbrev pub ValidDisksFit : Type 0
ValidDisksFit = (d : Disk) → IsValid d → FitsDisk d (rows d)
