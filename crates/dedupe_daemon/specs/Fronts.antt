-- The front item of the queue.
use Rattle.std.specs.Prelude.{◌≡◌, ℕ, ◌+◌, ◌*◌, ◌^◌, ◌<◌, ◌≤◌, List, slice_index}
use Rattle.std.specs.Prelude.{Some, vec_len, vec_capacity}
use Rattle.std.specs.Ordering.{nat_cmp}
use Rattle.std.specs.FinMap.{FinMap, get}
use Rattle.pm_device.specs.State.{State}
use Rattle.file_index.specs.declared.page_map.Mapping.{Mapping}
use Rattle.dedupe_queue.specs.declared.Work.{Work}
use Rattle.dn_volume.specs.declared.units.TheConstants.{END_UNITS, PLACE_UNITS}
use Rattle.dn_volume.specs.declared.background.Sharing.{Sharing}
use Rattle.dn_volume.specs.declared.background.SharingStep.TheVariants.{Look}
use Rattle.dn_volume.specs.declared.volume.InodeState.{InodeState}
use Rattle.dn_volume.specs.declared.volume.InodeUse.TheVariants as used
use Rattle.dn_volume.specs.declared.volume.Volume.{Volume}
use Rattle.reclaim.specs.Dying.{IsAt}

-- this place is mapped by the item at this slot
pub record IsPlaceBy (map : FinMap nat_cmp Mapping) (slot idx : ℕ) : Type 0 where
  pub by : Mapping
  pub mapped : get map idx ≡ Some by
  pub by_item : by.slot ≡ slot

-- some place of the file is
pub record HasPlaceBy (map : FinMap nat_cmp Mapping) (slot : ℕ) : Type 0 where
  pub idx : ℕ
  pub in_file : idx < 4096
  pub is : IsPlaceBy map slot idx

-- the inode is live, at the item's round, and the item maps a place of it
pub record IsFreshIn (work : Work) (node : InodeState) : Type 0 where
  pub live : node.used ≡ used.Live
  pub round : work.round ≡ node.round
  pub place : HasPlaceBy node.map.map work.slot

-- so it is with the inode that the item names
abbrev pub IsFreshWork : List InodeState → Work → Type 0
IsFreshWork inodes work = IsAt (IsFreshIn work) inodes work.ino

-- what the item's words tell of its places, none of which is done
abbrev pub item_at : List ℕ → Work → Sharing
item_at words work = record {
  work = work;
  first = slice_index words (8 * work.slot + 1);
  count = slice_index words (8 * work.slot + 2);
  done = 0;
  step = Look;
}

-- there is room for an item of so many places, and for the store of its flag
pub record HasRoomToShare {D F : Type 0} (state : D → State) (w : Volume D F) (count : ℕ) : Type 0
  where
    pub owed : w.parts.owed.units + END_UNITS + PLACE_UNITS * count + 3 < 2 ^ 64
    pub units : w.parts.owed.units + END_UNITS + PLACE_UNITS * count + 3 ≤ (state w.device).spare
    pub changes : w.parts.owed.trace + 2 * count < 2 ^ 64
    pub trace : vec_len w.parts.trace + w.parts.owed.trace + 2 * count ≤ vec_capacity w.parts.trace
