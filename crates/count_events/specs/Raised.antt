-- An operation in flight raises a row.
use Rattle.std.specs.Prelude.{
  ◌≡◌,
  ◌≢◌,
  ℕ,
  ◌+◌,
  ◌-◌,
  ◌<◌,
  [],
  ◌∷◌,
  ◌++◌,
  length,
  Some,
  vec_len,
  vec_capacity,
}
use Rattle.std.specs.VecDeque.{deque_len, deque_capacity}
use Rattle.dn_volume.specs.declared.flight.Flight.{Flight}
use Rattle.dn_volume.specs.declared.flight.DataChange.{DataChange}
use Rattle.dn_volume.specs.declared.flight.Change.TheVariants.{Data}
use Rattle.dn_volume.specs.declared.volume.Parts.{Parts}
use Rattle.dn_volume.specs.Parties.{Flies, flight_at}
use Rattle.dn_volume.specs.Events.{Counts}
use Rattle.count_events.specs.Released.{KeepsParts}

-- its pages are filled, and a row is left to be raised
pub record IsToRaise (b : Parts) (who : ℕ) : Type 0 where
  pub flight : Flight
  pub data_change : DataChange
  pub flies : Flies b who flight
  pub is_data : flight.change ≡ Data data_change
  pub filled : data_change.filled ≡ length data_change.blocks.items
  pub some : flight.raised < length flight.rows.items

-- that row is raised, and has this word
pub record RaisesOne (who slot word : ℕ) (b b' : Parts) : Type 0 where
  pub kept : KeepsParts b b'
  pub flight : (f : Flight) → Flies b who f → flight_at b'.flights.items (who - 1) ≡ Some
      (record f { raised = f.raised + 1 })
  pub others : (k : ℕ) → k ≢ who - 1 → flight_at b'.flights.items k ≡ flight_at b.flights.items k
  pub clients : length b'.flights.items ≡ length b.flights.items
  pub sharing : b'.sharing ≡ b.sharing
  pub stopped : b'.stopped ≡ b.stopped
  pub releases : b'.reclaiming.releases.items ≡ b.reclaiming.releases.items
  pub len : deque_len b'.reclaiming.releases ≡ deque_len b.reclaiming.releases
  pub capacity : deque_capacity b'.reclaiming.releases ≡ deque_capacity b.reclaiming.releases
  pub raised : b'.reclaiming.raised ≡ b.reclaiming.raised
  pub zero_check : b'.reclaiming.zero_check ≡ b.reclaiming.zero_check
  pub waiting : b'.reclaiming.waiting ≡ b.reclaiming.waiting
  pub trace : b'.trace.items ≡ b.trace.items ++ record { slot = slot; word = word } ∷ []
  pub trace_len : vec_len b'.trace ≡ vec_len b.trace + 1
  pub trace_capacity : vec_capacity b'.trace ≡ vec_capacity b.trace
  pub owed : b'.owed ≡ record b.owed { units = b.owed.units - 3; trace = b.owed.trace - 1 }
  pub made : Counts b b'
