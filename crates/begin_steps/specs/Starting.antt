-- An operation that has its pages comes in flight.
use Rattle.std.specs.Prelude.{◌≡◌, ◌≢◌, ℕ, ◌-◌, ◌≤◌, List, length, Some, Contains}
use Rattle.dn_volume.specs.declared.flight.Flight.{Flight}
use Rattle.dn_volume.specs.declared.flight.Change.{Change}
use Rattle.dn_volume.specs.declared.flight.Change.TheVariants.{Data, Names}
use Rattle.dn_volume.specs.declared.volume.InodeState.{InodeState}
use Rattle.dn_volume.specs.declared.volume.Parts.{Parts}
use Rattle.dn_volume.specs.Parties.{flight_at}
use Rattle.dn_volume.specs.Reserve.{owed_to}
use Rattle.dn_volume.specs.Kept.{OfInodes}
use Rattle.dn_volume.specs.Events.{Counts}
use Rattle.begin_steps.specs.Room.{add_room}

-- this actor holds the inode now
pub record IsHeldNow (who : ℕ) (n n' : InodeState) : Type 0 where
  pub node : n' ≡ record n { holder = Some who }

-- this actor holds those inodes; the others' holders stay
pub record TakesHold (who : ℕ) (held : List ℕ) (ino : ℕ) (n n' : InodeState) : Type 0 where
  pub node : n' ≡ record n { holder = n'.holder }
  pub mine : Contains held ino → n'.holder ≡ Some who
  pub kept : (Contains held ino → ⊥) → n'.holder ≡ n.holder

-- few enough to be counted: a file has at most 4,096 places
abbrev pub IsFewChange : Change → Type 0
IsFewChange (Data c) = length c.blocks.items ≤ 4096
IsFewChange (Names c) = Unit {0}

pub record IsFew (f : Flight) : Type 0 where
  pub rows : length f.rows.items ≤ 4096
  pub slots : length f.slots.items ≤ 4096
  pub fresh : length f.fresh.items ≤ 4096
  pub change : IsFewChange f.change

-- it is in flight and holds its inodes, it is owed what it needs, and this call is counted
pub record Starts (who : ℕ) (f : Flight) (b b' : Parts) : Type 0 where
  pub parts : b' ≡ record b {
    inodes = b'.inodes;
    flights = b'.flights;
    owed = add_room b.owed (owed_to (Some f));
    made = b'.made;
  }
  pub flight : flight_at b'.flights.items (who - 1) ≡ Some f
  pub others : (k : ℕ) → k ≢ who - 1
      → flight_at b'.flights.items k ≡ flight_at b.flights.items k
  pub clients : length b'.flights.items ≡ length b.flights.items
  pub inodes : OfInodes (TakesHold who f.held.items) b.inodes.items b'.inodes.items
  pub counts : Counts b b'
