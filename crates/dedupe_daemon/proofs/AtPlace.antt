-- What is so where the daemon is at a place of its item, with the item that it has begun.
use Rattle.std.proofs.Common.{◌≡◌, ℕ, ◌+◌, ◌<◌, List}
use Rattle.std.specs.Prelude.{Some, IsNone}
use Rattle.dn_model.specs.Maps.{Mapping}
use Rattle.dn_model.specs.Table.{Row, row_of}
use Rattle.dn_model.specs.Disk.{Disk, maps, rows}
use Rattle.dn_model.specs.Own.{Print, page_bytes}
use Rattle.fact_table.specs.Chained.{HasNoRow}
use Rattle.fact_table.specs.Table.{IsAtSlot}
use Rattle.dn_volume.specs.declared.background.Sharing.{Sharing}
use Rattle.dn_volume.specs.declared.background.SharingStep.TheVariants.{Look}
use Rattle.dn_volume.specs.declared.volume.Parts.{Parts}
use Rattle.dedupe_daemon.specs.Looked as looked

-- the daemon has begun an item, and looks up its next place
pub record IsAtLook (b : Parts) : Type 0 where
  pub sharing : Sharing
  pub begun : b.sharing ≡ Some sharing
  pub step : sharing.step ≡ Look
  pub some : sharing.done < sharing.count

-- the item maps that place still, to this page, which has no row
pub record IsAtPlace (d : Disk) (b : Parts) (page : ℕ) : Type 0 where
  pub looks : IsAtLook b
  pub by : Mapping
  pub mapped : maps d looks.sharing.work.ino (looks.sharing.first + looks.sharing.done) ≡ Some by
  pub by_item : by.slot ≡ looks.sharing.work.slot
  pub on_page : by.block ≡ page
  pub no_row : IsNone (row_of (rows d) page)

-- and no row has the print of its bytes
pub record IsToInsert (print : Print) (d : Disk) (b : Parts) (fingerprint : List ℕ) (page : ℕ) :
    Type 0 where
  pub place : IsAtPlace d b page
  pub new_print : HasNoRow (rows d) fingerprint
  pub print_is : fingerprint ≡ print (page_bytes d page)

-- or there is a row at this slot whose page has equal bytes
pub record IsToShare (d : Disk) (b : Parts) (slot : ℕ) : Type 0 where
  pub page : ℕ
  pub place : IsAtPlace d b page
  pub row : Row
  pub at_slot : IsAtSlot d slot row
  pub equal : page_bytes d row.page ≡ page_bytes d page

module _ (b : Parts) (sharing : Sharing) (looking : looked.IsLooking b sharing) where
  abbrev pub at_look : IsAtLook b
  at_look = record { sharing = sharing; begun = looking.begun; step = looking.step; some = looking.some }

  abbrev pub at_place : (d : Disk) (page : ℕ) → looked.IsAtPlace d sharing page → IsAtPlace d b page
  at_place d page is = record {
    looks = at_look;
    by = is.by;
    mapped = is.mapped;
    by_item = is.by_item;
    on_page = is.on_page;
    no_row = is.no_row;
  }

  pub to_insert : (make : Print) (d : Disk) (page : ℕ) (print : List ℕ) → looked.IsToInsert make d sharing page print → IsToInsert make d b print
      page
  to_insert make d page print is = record { place = at_place d page is.place; new_print = is.new_print; print_is = is.print_is }

  pub to_share : (d : Disk) (page slot : ℕ) → looked.IsToShare d sharing page slot → IsToShare d b slot
  to_share d page slot is = record { page = page; place = at_place d page is.place; row = is.row; at_slot = is.at_slot; equal = is.equal }
