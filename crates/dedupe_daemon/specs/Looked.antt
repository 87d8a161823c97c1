-- What the daemon finds at a place.
use Rattle.std.specs.Prelude.{◌≡◌, ◌≢◌, ◌⊎◌, ℕ, ◌+◌, ◌<◌, List, Some, IsNone, Contains, slice_get}
use Rattle.std.specs.FinMap.{get}
use Rattle.file_index.specs.declared.page_map.Mapping.{Mapping as KeptMapping}
use Rattle.fact_table.specs.Table.{IsAtSlot}
use Rattle.fact_table.specs.Chained.{HasNoRow}
use Rattle.dn_model.specs.Maps.{Mapping}
use Rattle.dn_model.specs.Table.{Row, row_of}
use Rattle.dn_model.specs.Disk.{Disk, maps, rows}
use Rattle.dn_model.specs.Own.{Print, IsAlone, HasRow, page_bytes}
use Rattle.dn_volume.specs.declared.background.Sharing.{Sharing}
use Rattle.dn_volume.specs.declared.background.SharingStep.TheVariants.{Look}
use Rattle.dn_volume.specs.declared.volume.InodeState.{InodeState}
use Rattle.dn_volume.specs.declared.volume.Parts.{Parts}

-- the daemon has begun this item, and is to look at its next place
pub record IsLooking (b : Parts) (sharing : Sharing) : Type 0 where
  pub begun : b.sharing ≡ Some sharing
  pub step : sharing.step ≡ Look
  pub some : sharing.done < sharing.count

-- the index of the item's inode has the next place, mapped by the item
pub record IsNextPlace (inodes : List InodeState) (sharing : Sharing) (m : KeptMapping) : Type 0
  where
    pub node : InodeState
    pub there : slice_get inodes sharing.work.ino ≡ Some node
    pub mapped : get node.map.map (sharing.first + sharing.done) ≡ Some m
    pub by_item : m.slot ≡ sharing.work.slot

-- the item maps the next place to this page, which has no row, and the place isn't left alone
pub record IsAtPlace (d : Disk) (sharing : Sharing) (page : ℕ) : Type 0 where
  pub by : Mapping
  pub mapped : maps d sharing.work.ino (sharing.first + sharing.done) ≡ Some by
  pub by_item : by.slot ≡ sharing.work.slot
  pub on_page : by.block ≡ page
  pub unmasked : IsAlone by → ⊥
  pub no_row : IsNone (row_of (rows d) page)

-- the item maps the next place no more, or it is left alone, or its page has a row
abbrev pub IsPassed : Disk → Sharing → Type 0
IsPassed d sharing = (m : Mapping) → maps d sharing.work.ino (sharing.first + sharing.done) ≡ Some m
    → m.slot ≡ sharing.work.slot → IsAlone m ⊎ HasRow d m.block

-- no row has the print of the place's page
pub record IsToInsert (make : Print) (d : Disk) (sharing : Sharing) (page : ℕ) (print : List ℕ) :
    Type 0 where
  pub place : IsAtPlace d sharing page
  pub print_is : print ≡ make (page_bytes d page)
  pub new_print : HasNoRow (rows d) print

-- the row at this slot has a page with the bytes of the place's page
pub record IsToShare (d : Disk) (sharing : Sharing) (page slot : ℕ) : Type 0 where
  pub place : IsAtPlace d sharing page
  pub row : Row
  pub at_slot : IsAtSlot d slot row
  pub equal : page_bytes d row.page ≡ page_bytes d page

-- a row has the print of the place's page, and a page with other bytes
pub record IsToMask (make : Print) (d : Disk) (sharing : Sharing) (page : ℕ) : Type 0 where
  pub place : IsAtPlace d sharing page
  pub row : Row
  pub there : Contains (rows d) row
  pub print_is : row.print ≡ make (page_bytes d page)
  pub other : page_bytes d row.page ≢ page_bytes d page
