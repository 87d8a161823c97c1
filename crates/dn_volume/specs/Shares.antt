-- What waits for the daemon, and the item that it has begun.
use Rattle.std.specs.Prelude.{◌≡◌, ◌⊎◌, ℕ, ◌+◌, ◌<◌, ◌≤◌, slice_get, Some, Contains, IsNone}
use Rattle.log_entry.specs.declared.item.Flag.TheVariants.{InProcess, Complete}
use Rattle.log_entry.specs.declared.item.LogItem.TheVariants.{Write}
use Rattle.dedupe_queue.specs.declared.Work.{Work}
use Rattle.fact_table.specs.Table.{IsAtSlot}
use Rattle.dn_model.specs.Log.{placed}
use Rattle.dn_model.specs.Maps.{Mapping}
use Rattle.dn_model.specs.Table.{Row, row_of}
use Rattle.dn_model.specs.Disk.{Disk, Live, maps, rows}
use Rattle.dn_model.specs.Own.{LivePlace, IsAlone, HasRow, page_bytes}
use Rattle.dn_volume.specs.declared.background.Sharing.{Sharing}
use Rattle.dn_volume.specs.declared.background.SharingStep.{SharingStep}
use Rattle.dn_volume.specs.declared.background.SharingStep.TheVariants.{Look, Remap, Settle}
use Rattle.dn_volume.specs.declared.volume.InodeState.{InodeState}
use Rattle.dn_volume.specs.declared.volume.Parts.{Parts}

-- the item at this slot of an inode's log waits, or the daemon has begun it
pub data IsWaiting (b : Parts) (ino slot : ℕ) : Type 0 where
  in_queue : (work : Work) (n : InodeState) → Contains b.queue.items work → work.ino ≡ ino
      → work.slot ≡ slot → slice_get b.inodes.items ino ≡ Some n → work.round ≡ n.round
      → IsWaiting b ino slot
  is_begun : (sharing : Sharing) → b.sharing ≡ Some sharing → sharing.work.ino ≡ ino
      → sharing.work.slot ≡ slot → IsWaiting b ino slot

-- each place of a live file that isn't complete does
pub record IsQueued (d : Disk) (b : Parts) : Type 0 where
  pub waits : (ino idx : ℕ) (m : Mapping) → LivePlace d ino idx m → (m.flag ≡ Complete → ⊥)
      → IsWaiting b ino m.slot

-- The item that is begun is a Write of a live file, which is in process. Of the places that are
-- done, those that it maps
-- still are left alone, or their pages have rows.
pub record IsBegun (d : Disk) (sharing : Sharing) : Type 0 where
  pub file : 1 ≤ sharing.work.ino
  pub in_table : sharing.work.ino < d.geometry.inodes
  pub live : (d.inode sharing.work.ino).use_of ≡ Live
  pub block : ℕ
  pub size : ℕ
  pub mask : ℕ
  pub item : Contains (placed (d.inode sharing.work.ino).log)
      (record {
        slot = sharing.work.slot;
        item = Write sharing.first sharing.count block size
            InProcess mask;
      })
  pub done_few : sharing.done ≤ sharing.count
  pub done_so : (i : ℕ) (m : Mapping) → i < sharing.done
      → maps d sharing.work.ino (sharing.first + i) ≡ Some m → m.slot ≡ sharing.work.slot
      → IsAlone m ⊎ HasRow d m.block

-- the row at this slot is raised, and the place's page has the bytes of the row's page and no row
pub record IsToRemap (d : Disk) (sharing : Sharing) (slot : ℕ) : Type 0 where
  pub some : sharing.done < sharing.count
  pub by : Mapping
  pub mapped : maps d sharing.work.ino (sharing.first + sharing.done) ≡ Some by
  pub by_item : by.slot ≡ sharing.work.slot
  pub no_row : IsNone (row_of (rows d) by.block)
  pub row : Row
  pub at_slot : IsAtSlot d slot row
  pub equal : page_bytes d row.page ≡ page_bytes d by.block

-- the row at this slot has a mapping more: the place is on its page
pub record IsToSettle (d : Disk) (sharing : Sharing) (slot : ℕ) : Type 0 where
  pub some : sharing.done < sharing.count
  pub by : Mapping
  pub mapped : maps d sharing.work.ino (sharing.first + sharing.done) ≡ Some by
  pub row : Row
  pub at_slot : IsAtSlot d slot row
  pub on_page : by.block ≡ row.page

abbrev pub IsAtStep : Disk → Sharing → SharingStep → Type 0
IsAtStep d sharing Look = sharing.done ≤ sharing.count
IsAtStep d sharing (Remap slot) = IsToRemap d sharing slot
IsAtStep d sharing (Settle slot inserted) = IsToSettle d sharing slot

pub record IsSharing (d : Disk) (sharing : Sharing) : Type 0 where
  pub begun : IsBegun d sharing
  pub step : IsAtStep d sharing sharing.step

abbrev pub Shares : Disk → Parts → Type 0
Shares d b = (sharing : Sharing) → b.sharing ≡ Some sharing → IsSharing d sharing
