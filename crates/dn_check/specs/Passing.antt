-- How far an image passes the rules.
use Rattle.std.specs.Prelude.{
  ◌≡◌,
  ◌≢◌,
  ◌⊎◌,
  ℕ,
  ◌+◌,
  ◌<◌,
  List,
  length,
  slice_index,
  map,
  Contains,
  All,
  Bool,
  true,
  false,
  not,
  is_some,
  slice_index_or,
  ◌↔◌,
  ◌==◌,
}
use Rattle.std.specs.List.Sorted.{IsPermutation, IsNonDecreasingBy}
use Rattle.pm_device.specs.Reading.{Reads}
use Rattle.pm_layout.specs.declared.Geometry.{Geometry}
use Rattle.pm_layout.specs.Geometry.{directs, slots, pointer_word}
use Rattle.dn_model.specs.Rolled.{rolled}
use Rattle.dn_model.specs.Table.{Row as TableRow, row_of}
use Rattle.dn_model.specs.Disk.{Disk, PagesSay, IsMapped, rows}
use Rattle.dn_model.specs.Image.{StandsFor}
use Rattle.dn_model.specs.Faults.{
  HasGate,
  HasLinks,
  HasPointers,
  FaultOf,
  IsBadInode,
  IsDouble,
  HasFree,
  geometry_of,
}
use Rattle.dn_model.specs.declared.fault.ImageFault.{ImageFault}
use Rattle.fact_scan.specs.declared.row.Row.{Row}
use Rattle.fact_scan.specs.Scan.{HasRows}
use Rattle.fact_scan.specs.Seen.{as_row}
use Rattle.image_logs.specs.declared.logs.LogsRead.{LogsRead}
use Rattle.image_logs.specs.Logs.{AreCounted}
use Rattle.image_uses.specs.Uses.{MarksRows, IsCounted, HasReadLogs, HasSo}
use Rattle.dn_check.specs.declared.read.Halt.{Halt}
use Rattle.dn_check.specs.declared.read.Halt.TheVariants.{Fault, NoMemory}
use Rattle.dn_check.specs.declared.read.ImageRead.{ImageRead}
use Rattle.dn_check.specs.declared.read.TableRead.{TableRead}
use Rattle.dn_check.specs.declared.finding.Finding.{Finding}
use Rattle.dn_check.specs.declared.finding.Finding.TheVariants.{Sound}
use Rattle.dn_check.specs.Finding.{Tells}
use Rattle.dn_check.specs.RowCounts.{IsExactBy}

-- the image passes the rules of its head and its journal, with this geometry, and these are its
-- words once it is rolled back
pub record IsRolled (c : List ℕ) (g : Geometry) (r : List ℕ) : Type 0 where
  pub gate : HasGate c
  pub geometry : g ≡ geometry_of c
  pub words : r ≡ rolled c

-- no inode has a fault
abbrev pub HasGoodInodes : Geometry → List ℕ → Type 0
HasGoodInodes g r = (ino : ℕ) → ino < g.inodes → IsBadInode r ino → ⊥

-- this is the first fault of each such image
abbrev pub IsHalt : Geometry → List ℕ → Halt → Type 0
IsHalt g r (Fault fault) = (c : List ℕ) → IsRolled c g r → FaultOf c fault
IsHalt g r NoMemory = Unit {0}

-- each such image passes the rules up to the links
abbrev pub AreLinked : Geometry → List ℕ → Type 0
AreLinked g r = (c : List ℕ) → IsRolled c g r → (d : Disk) × HasLinks c d

-- this is the first fault of each that does
abbrev pub IsTableHalt : Geometry → List ℕ → Halt → Type 0
IsTableHalt g r (Fault fault) = (c : List ℕ) (d : Disk) → IsRolled c g r → HasLinks c d
    → FaultOf c fault
IsTableHalt g r NoMemory = Unit {0}

-- a page whose pointer is above the number of slots, or that has a row to which its pointer doesn't
-- lead
abbrev pub IsMisled : Geometry → List ℕ → List TableRow → ℕ → Type 0
IsMisled g r rs page = (slots g < slice_index r (pointer_word g page))
    ⊎ ((row : TableRow) × Contains rs row × (row.page ≡ page) × (slice_index r (pointer_word g page)
    ≢ row.slot + 1))

-- numbers other than 0 are marked
pub record Marks (wanted : List ℕ) (marks : List Bool) : Type 0 where
  pub long : length marks ≡ length wanted
  pub marked : (k : ℕ) → k < length wanted → slice_index_or marks k false ≡ not
      (slice_index wanted k == 0)

-- these are all rows of a table, the pages that have one are marked, and no page is misled
pub record IsTableRead (g : Geometry) (r : List ℕ) (read : TableRead) : Type 0 where
  pub has : HasRows g r (directs g) (map as_row read.rows.items)
  pub long : length read.has_row.items ≡ g.pages
  pub marked : (page : ℕ) → page < g.pages → slice_index_or read.has_row.items page false ≡ is_some
      (row_of (map as_row read.rows.items) page)
  pub led : (page : ℕ) → page < g.pages → IsMisled g r (map as_row read.rows.items) page → ⊥

-- what is read has a place for each page of the image
pub record IsWhole (g : Geometry) (read : ImageRead) : Type 0 where
  pub long_logs : length read.logs.in_logs.items ≡ g.pages
  pub long_mapped : length read.logs.mapped.items ≡ g.pages
  pub long_rows : length read.table.has_row.items ≡ g.pages
  pub pages : All (λ (row : Row). row.page < g.pages) read.table.rows.items

-- the image passes the rules up to the pointers, and this is read of it
pub record Passes (c : List ℕ) (g : Geometry) (read : ImageRead) : Type 0 where
  pub disk : Disk
  pub geometry : disk.geometry ≡ g
  pub pointers : HasPointers c disk
  pub pages : Reads (PagesSay disk) (rolled c)
  pub counted : AreCounted disk read.logs
  pub rows_are : map as_row read.table.rows.items ≡ rows disk
  pub marks : MarksRows disk read.table.has_row.items

-- each such image passes so
abbrev pub IsReadOfEach : Geometry → List ℕ → ImageRead → Type 0
IsReadOfEach g r read = (c : List ℕ) → IsRolled c g r → Passes c g read

-- it has no fault: it stands for the disk, of which so many pages are free
pub record IsStanding (c : List ℕ) (d : Disk) (free : ℕ) : Type 0 where
  pub stands : StandsFor c d
  pub single : (page : ℕ) → IsDouble d page → ⊥
  pub free_is : HasFree d free

-- so it is with each image that passes so
abbrev pub IsFreeOfEach : Geometry → ImageRead → ℕ → Type 0
IsFreeOfEach g read free = (c : List ℕ) (p : Passes c g read) → IsStanding c p.disk free

-- this is the first fault of each image that passes so
abbrev pub IsFaultOfEach : Geometry → ImageRead → ImageFault → Type 0
IsFaultOfEach g read fault = (c : List ℕ) → Passes c g read → FaultOf c fault

-- so it is told of each image that passes
abbrev pub TellsEachPassing : Geometry → ImageRead → Finding → Type 0
TellsEachPassing g read finding = (c : List ℕ) → Passes c g read → Tells c finding

-- so it is told of each image with these words once it is rolled back
abbrev pub TellsEach : Geometry → List ℕ → Finding → Type 0
TellsEach g r finding = (c : List ℕ) → IsRolled c g r → Tells c finding

-- the numbers of what is read, and its rows in the order of their slots
pub record AreNumbersRead (logs : LogsRead) (found : List Row) (free : ℕ) (finding : Finding) : Type
    0 where
  pub sorted : List Row
  pub mapped : ℕ
  pub exact : Bool
  pub is : finding ≡ Sound logs.files logs.dying sorted mapped free exact
  pub same : IsPermutation found sorted
  pub order : IsNonDecreasingBy (λ (row : Row). row.slot) sorted
  pub mapped_is : (d : Disk) (in_logs : List ℕ) → IsCounted d in_logs logs.mapped.items
      → HasReadLogs d → HasSo (IsMapped d) mapped
  pub exact_is : (exact ≡ true) ↔ All (IsExactBy logs.mapped.items) found
