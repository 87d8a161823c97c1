-- An operation in flight begins, goes on or ends: only that of one client is another afterwards.
use Rattle.std.specs.Prelude.{◌≡◌, ◌≢◌, ℕ, ◌+◌, ◌<◌, List, [], take, length, Option, Some, None}
use Rattle.dn_volume.specs.declared.flight.Flight.{Flight}
use Rattle.dn_volume.specs.declared.volume.Parts.{Parts}
use Rattle.dn_volume.specs.Parties.{flight_at, taken_by}
use Rattle.dn_volume.specs.Reserve.{owed_to}

-- The client at place k (client k + 1) had `old` in flight and has `new`: None where it has none.
-- So an operation begins where `old` is None, and ends where `new` is. The item that the daemon has
-- begun stays, and so does a cleaning.
pub record Replaces (k : ℕ) (old new : Option Flight) (b b' : Parts) : Type 0 where
  pub place : k < 14
  pub clients : length b'.flights.items ≡ length b.flights.items
  pub was : flight_at b.flights.items k ≡ old
  pub now : flight_at b'.flights.items k ≡ new
  pub others : (j : ℕ) → j ≢ k → flight_at b'.flights.items j ≡ flight_at b.flights.items j
  pub sharing : b'.sharing ≡ b.sharing
  pub cleaning : b'.reclaiming.cleaning ≡ b.reclaiming.cleaning

-- What is owed moves with it, of each kind of room: what the old one was owed is owed no more, and
-- what the new one needs is owed.
pub record MovesOwed (old new : Option Flight) (b b' : Parts) : Type 0 where
  pub units : b'.owed.units + (owed_to old).units ≡ b.owed.units + (owed_to new).units
  pub trace : b'.owed.trace + (owed_to old).trace ≡ b.owed.trace + (owed_to new).trace
  pub history : b'.owed.history + (owed_to old).history ≡ b.owed.history + (owed_to new).history
  pub queue : b'.owed.queue + (owed_to old).queue ≡ b.owed.queue + (owed_to new).queue
  pub releases : b'.owed.releases + (owed_to old).releases ≡ b.owed.releases + (owed_to new).releases

-- the inodes that it holds, and the pages that it has taken
abbrev pub held_of : Option Flight → List ℕ
held_of None = []
held_of (Some f) = f.held.items

abbrev pub taken_of : Option Flight → List ℕ
taken_of None = []
taken_of (Some f) = taken_by f

-- An operation that goes on holds what it held, has taken what it had, and has the same rows
-- raised.
pub record IsFurther (f f' : Flight) : Type 0 where
  pub op : f'.op ≡ f.op
  pub held : f'.held.items ≡ f.held.items
  pub taken : taken_by f' ≡ taken_by f

pub record RaisesNone (f f' : Flight) : Type 0 where
  pub raised : take f'.raised f'.rows.items ≡ take f.raised f.rows.items
