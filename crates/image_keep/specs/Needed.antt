-- The items of a file that aren't complete and map a place still.
use Rattle.std.specs.Prelude.{◌≡◌, ℕ, ◌+◌, ◌-◌, ◌<◌, ◌≤◌, Some, Contains, None}
use Rattle.std.specs.Ordering.{nat_cmp}
use Rattle.std.specs.FinMap.{FinMap, get}
use Rattle.log_entry.specs.declared.item.LogItem.TheVariants.{Write}
use Rattle.file_index.specs.declared.page_map.Mapping.{Mapping}
use Rattle.dn_volume.specs.declared.volume.InodeUse.{InodeUse}
use Rattle.dn_volume.specs.declared.volume.InodeUse.TheVariants as used
use Rattle.dn_model.specs.Log.{Log, placed}
use Rattle.dn_model.specs.Maps.{Mapping as DiskMapping}

-- the place is mapped by the item at this slot
pub record IsBy (map : FinMap nat_cmp Mapping) (slot idx : ℕ) : Type 0 where
  pub by : Mapping
  pub at : get map idx ≡ Some by
  pub slot_is : by.slot ≡ slot

-- one of these places is
pub record MapsStill (map : FinMap nat_cmp Mapping) (slot first count : ℕ) : Type 0 where
  pub i : ℕ
  pub few : i < count
  pub is : IsBy map slot (first + i)

-- the item that maps a place
pub record IsMappedBy (log : Log) (idx : ℕ) (m : DiskMapping) : Type 0 where
  pub first : ℕ
  pub count : ℕ
  pub block : ℕ
  pub size : ℕ
  pub listed : Contains (placed log)
      (record { slot = m.slot; item = Write first count block size m.flag m.mask })
  pub low : first ≤ idx
  pub high : idx < first + count
  pub bit_is : m.bit ≡ idx - first

-- the places that are kept of an inode by its use: of a dying one those below its cut
abbrev pub KeepsPlaces : InodeUse → FinMap nat_cmp Mapping → FinMap nat_cmp Mapping → Type 0
KeepsPlaces used.Free old new = new ≡ old
KeepsPlaces used.Live old new = new ≡ old
KeepsPlaces (used.Dying cut) old new = ((k : ℕ) → cut ≤ k → get new k ≡ None) × ((k : ℕ) → k < cut
    → get new k ≡ get old k)
