-- The room that is owed to what is begun, so that it takes no memory.
use Rattle.std.specs.Prelude.{◌≡◌, ℕ, ◌+◌, ◌-◌, ◌*◌, ◌≤◌, Bool, true, false, length, slice_get}
use Rattle.std.specs.Prelude.{Option, Some, None, vec_len, vec_capacity}
use Rattle.std.specs.VecDeque.{deque_len, deque_capacity}
use Rattle.pm_device.specs.State.{State}
use Rattle.dn_model.specs.Counts.{total}
use Rattle.dn_volume.specs.declared.units.TheConstants as cost
use Rattle.dn_volume.specs.declared.background.Sharing.{Sharing}
use Rattle.dn_volume.specs.declared.background.Cleaning.{Cleaning}
use Rattle.dn_volume.specs.declared.background.SharingStep.{SharingStep}
use Rattle.dn_volume.specs.declared.background.SharingStep.TheVariants.{Look, Remap, Settle}
use Rattle.dn_volume.specs.declared.flight.Flight.{Flight}
use Rattle.dn_volume.specs.declared.flight.Change.{Change}
use Rattle.dn_volume.specs.declared.flight.Change.TheVariants.{Data, Names}
use Rattle.dn_volume.specs.declared.flight.DataChange.{DataChange}
use Rattle.dn_volume.specs.declared.volume.InodeState.{InodeState}
use Rattle.dn_volume.specs.declared.volume.Parts.{Parts}
use Rattle.dn_volume.specs.declared.volume.Room.{Room}
use Rattle.dn_volume.specs.Parties.{Flies, flight_at}
use Rattle.dn_volume.specs.Reclaims.{one_if}

-- the slots of an operation's items and the links of its log's new pages
abbrev pub slots_of : Flight → ℕ
slots_of f = length f.slots.items + length f.fresh.items

-- What has to stand before a commit of names is stored once: the slots with their links, and an
-- inode's words.
abbrev pub prepared_units : Bool → ℕ → ℕ
prepared_units true slots = 0
prepared_units false slots = cost.SLOT_UNITS * slots + cost.TURN_UNITS

-- What an operation is owed. A write or a cut fills its pages, raises its rows, and then stores its
-- slots and the tail;
-- an operation on names stores its slots first, and then what the journal takes.
abbrev pub units_by : Flight → Change → ℕ
units_by f (Data c) =
    cost.FILL_UNITS * (length c.blocks.items - c.filled)
    + cost.RAISE_UNITS * (length f.rows.items - f.raised)
    + cost.SLOT_UNITS * slots_of f + cost.TAIL_UNITS
units_by f (Names c) = prepared_units c.prepared (slots_of f) + cost.NAMES_UNITS

abbrev pub runs_by : Change → ℕ
runs_by (Data c) = length c.runs.items
runs_by (Names c) = 0

abbrev pub owed_to : Option Flight → Room
owed_to None = record { units = 0; trace = 0; history = 0; queue = 0; releases = 0 }
owed_to (Some f) = record {
  units = units_by f f.change;
  trace = length f.rows.items - f.raised;
  history = 1;
  queue = runs_by f.change;
  releases = length f.rows.items;
}

-- the sum of a kind of room over all operations
abbrev pub owed_sum : Parts → (Room → ℕ) → ℕ
owed_sum b kind = total 14 (λ k. kind (owed_to (flight_at b.flights.items k)))

-- What the daemon's item is owed: for each place at most an insertion or a raise, a mapping and a
-- settling, and a flag in
-- the end. Of the place at which it is, it is owed what its step has left.
abbrev pub units_spent : SharingStep → ℕ
units_spent Look = 0
units_spent (Remap slot) = cost.LOOK_UNITS
units_spent (Settle slot inserted) = cost.LOOK_UNITS + cost.REMAP_UNITS

-- the row is inserted or raised, and settled
abbrev pub changes_spent : SharingStep → ℕ
changes_spent Look = 0
changes_spent (Remap slot) = 1
changes_spent (Settle slot inserted) = 1

abbrev pub units_to_share : Option Sharing → ℕ
units_to_share None = 0
units_to_share (Some sharing) =
    cost.END_UNITS + cost.PLACE_UNITS * (sharing.count - sharing.done) - units_spent sharing.step

abbrev pub changes_to_share : Option Sharing → ℕ
changes_to_share None = 0
changes_to_share (Some sharing) =
    2 * (sharing.count - sharing.done) - changes_spent sharing.step

-- What reclaim has begun: a raised place is owed the fall of its inode's cut, and a row without
-- counts its end.
-- A cleaning is owed the pages that aren't written, the change of head and tail, and the queue's
-- room for what is due.
abbrev pub units_to_clean : Option Cleaning → ℕ
units_to_clean None = 0
units_to_clean (Some c) =
    cost.LOG_PAGE_UNITS * (length c.pages.items - c.written) + cost.REPLACE_UNITS

abbrev pub queue_to_clean : Option Cleaning → ℕ
queue_to_clean None = 0
queue_to_clean (Some c) = length c.due.items

abbrev pub units_to_reclaim : Parts → ℕ
units_to_reclaim b =
    cost.FALL_UNITS * one_if b.reclaiming.raised
    + cost.ZERO_CHECK_UNITS * one_if b.reclaiming.zero_check
    + units_to_clean b.reclaiming.cleaning

-- the room that is owed covers them; a raised dying place is owed its release too
pub record Owes (b : Parts) : Type 0 where
  pub units : owed_sum b (λ room. room.units) + units_to_share b.sharing + units_to_reclaim b
      ≤ b.owed.units
  pub trace : owed_sum b (λ room. room.trace) + changes_to_share b.sharing ≤ b.owed.trace
  pub history : owed_sum b (λ room. room.history) ≤ b.owed.history
  pub queue : owed_sum b (λ room. room.queue) + queue_to_clean b.reclaiming.cleaning ≤ b.owed.queue
  pub releases : owed_sum b (λ room. room.releases) + one_if b.reclaiming.raised ≤ b.owed.releases

-- and it is there
pub record HasRoom (b : Parts) (s : State) : Type 0 where
  pub owes : Owes b
  pub units : b.owed.units ≤ s.spare
  pub trace : vec_len b.trace + b.owed.trace ≤ vec_capacity b.trace
  pub history : vec_len b.history + b.owed.history ≤ vec_capacity b.history
  pub queue : b.owed.queue ≤ b.queue.room
  pub releases : deque_len b.reclaiming.releases + b.owed.releases
      ≤ deque_capacity b.reclaiming.releases
  pub names : b.owed.history ≤ b.names.room
  pub places : (who : ℕ) (f : Flight) (c : DataChange) (n : InodeState) → Flies b who f
      → f.change ≡ Data c → slice_get b.inodes.items f.ino ≡ Some n
      → length c.blocks.items ≤ n.map.room
