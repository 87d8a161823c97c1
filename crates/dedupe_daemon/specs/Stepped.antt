-- What the daemon makes of what is kept in memory where it looked a place up.
use Rattle.std.specs.Prelude.{
  ◌≡◌,
  ℕ,
  ◌+◌,
  ◌-◌,
  [],
  ◌∷◌,
  ◌++◌,
  Some,
  vec_len,
  vec_capacity,
}
use Rattle.std.specs.VecDeque.{deque_len, deque_capacity}
use Rattle.dn_volume.specs.declared.background.Sharing.{Sharing}
use Rattle.dn_volume.specs.declared.background.SharingStep.{SharingStep}
use Rattle.dn_volume.specs.declared.volume.Parts.{Parts}
use Rattle.dn_volume.specs.Events.{Counts}

-- The place was looked up: what comes next at it is this step. The row at this slot has this word,
-- and so many units are no longer owed.
pub record Looks (step : SharingStep) (slot word units : ℕ) (b b' : Parts) : Type 0 where
  pub geometry : b'.geometry ≡ b.geometry
  pub free : b'.free ≡ b.free
  pub names : b'.names.map ≡ b.names.map
  pub names_room : b'.names.room ≡ b.names.room
  pub inodes : b'.inodes.items ≡ b.inodes.items
  pub queue : b'.queue.items ≡ b.queue.items
  pub queue_room : b'.queue.room ≡ b.queue.room
  pub history : b'.history.items ≡ b.history.items
  pub history_len : vec_len b'.history ≡ vec_len b.history
  pub history_capacity : vec_capacity b'.history ≡ vec_capacity b.history
  pub flights : b'.flights.items ≡ b.flights.items
  pub sharing : (was : Sharing) → b.sharing ≡ Some was
      → b'.sharing ≡ Some (record was { step = step })
  pub stopped : b'.stopped ≡ b.stopped
  pub releases : b'.reclaiming.releases.items ≡ b.reclaiming.releases.items
  pub len : deque_len b'.reclaiming.releases ≡ deque_len b.reclaiming.releases
  pub capacity : deque_capacity b'.reclaiming.releases ≡ deque_capacity b.reclaiming.releases
  pub raised : b'.reclaiming.raised ≡ b.reclaiming.raised
  pub zero_check : b'.reclaiming.zero_check ≡ b.reclaiming.zero_check
  pub waiting : b'.reclaiming.waiting ≡ b.reclaiming.waiting
  pub cleaning : b'.reclaiming.cleaning ≡ b.reclaiming.cleaning
  pub trace : b'.trace.items ≡ b.trace.items ++ record { slot = slot; word = word } ∷ []
  pub trace_len : vec_len b'.trace ≡ vec_len b.trace + 1
  pub trace_capacity : vec_capacity b'.trace ≡ vec_capacity b.trace
  pub owed : b'.owed ≡ record b.owed
      { units = b.owed.units - units; trace = b.owed.trace - 1 }
  pub made : Counts b b'
