-- What the first advance of an operation on names stores, and what it does to what is kept in
-- memory.
use Rattle.std.specs.Prelude.{◌≡◌, ℕ, ◌+◌, ◌*◌, ◌≤◌, true, false, List, [], ◌∷◌}
use Rattle.pm_device.specs.State.{State, Agree}
use Rattle.pm_device.specs.Settled.{FlushesAll}
use Rattle.pm_device.specs.Lines.{StoresRun}
use Rattle.pm_layout.specs.Geometry.{inode_word}
use Rattle.log_entry.specs.Spelling.{pages_of}
use Rattle.inode_log.specs.Prepare.{IsPreparedBy}
use Rattle.dn_model.specs.Log.{count, tail_at}
use Rattle.dn_model.specs.Disk.{Disk}
use Rattle.dn_model.specs.Own.{Print}
use Rattle.law_names.specs.NameChange.{NameChange as DiskChange, root_after}
use Rattle.law_names.specs.NameChange.{turn_field, turn_words}
use Rattle.dn_volume.specs.declared.units.TheConstants.{SLOT_UNITS, TURN_UNITS}
use Rattle.dn_volume.specs.Reserve.{slots_of}
use Rattle.dn_volume.specs.declared.flight.Flight.{Flight}
use Rattle.dn_volume.specs.declared.flight.Change.{Change}
use Rattle.dn_volume.specs.declared.flight.Change.TheVariants.{Names}
use Rattle.dn_volume.specs.declared.flight.NameChange.{NameChange}
use Rattle.dn_volume.specs.declared.flight.Turn.{Turn}
use Rattle.dn_volume.specs.declared.flight.Turn.TheVariants as turn
use Rattle.dn_volume.specs.declared.volume.Parts.{Parts}
use Rattle.dn_volume.specs.declared.volume.Volume.{Volume}
use Rattle.dn_volume.specs.Parties.{Flies}
use Rattle.dn_volume.specs.Flights.{IsNameFlight}
use Rattle.dn_volume.specs.Steps.{StepsOn}
use Rattle.dn_volume.specs.Agrees.{IsVolume}
use Rattle.dn_volume.specs.Events.{Counts, MovesOn}

-- the slots of the operation's items and their links were stored and flushed, and then the words of
-- the inode that turns
pub record StoresNames (d : Disk) (who : ℕ) (change : DiskChange) (units : ℕ) (s u t : State) :
    Type 0 where
  pub prepared : IsPreparedBy who 0 (d.inode 0).log (root_after d change) s u
  pub turned : StoresRun who (inode_word change.ino (turn_field change.turn))
      (turn_words change.turn (d.inode change.ino).log) u t
  pub flushes : FlushesAll who s t
  pub spare : s.spare ≤ t.spare + units
  pub faults : s.faults ≤ t.faults

-- what an operation on names is owed for its first advance
abbrev pub prepare_units : Flight → ℕ
prepare_units f = SLOT_UNITS * slots_of f + TURN_UNITS

-- it makes this change
abbrev pub with_change : Flight → Change → Flight
with_change f change = record {
  op = f.op;
  held = f.held;
  ino = f.ino;
  slots = f.slots;
  fresh = f.fresh;
  spare = f.spare;
  rows = f.rows;
  raised = f.raised;
  change = change;
}

-- prepared, with this tail
abbrev pub prepared_change : NameChange → ℕ → NameChange
prepared_change c tail = record {
  node = c.node;
  turn = c.turn;
  prepared = true;
  tail = tail;
  put = c.put;
}

-- The operation is prepared, and the room for that is owed no more.
pub record Prepares (who : ℕ) (f : Flight) (c : NameChange) (tail : ℕ) (b b' : Parts) : Type 0 where
  pub steps : StepsOn who f (with_change f (Names (prepared_change c tail))) b b'
  pub trace : b'.trace ≡ b.trace
  pub history : b'.history ≡ b.history

-- an operation on names is in flight, and nothing of it was stored
pub record IsToPrepare (b : Parts) (who : ℕ) (f : Flight) (c : NameChange) : Type 0 where
  pub flies : Flies b who f
  pub change_is : f.change ≡ Names c
  pub unprepared : c.prepared ≡ false

-- some operation on names of this client is
pub record IsNextToPrepare (b : Parts) (who : ℕ) : Type 0 where
  pub flight : Flight
  pub change : NameChange
  pub is : IsToPrepare b who flight change

-- what has to stand in an inode of this size before it turns
abbrev pub kept_words : Turn → ℕ → List ℕ
kept_words turn.Stays size = []
kept_words turn.Comes size = 0 ∷ 0 ∷ 0 ∷ []
kept_words turn.Goes size = pages_of size ∷ []

-- the operation's words were stored, the slots first; this tail will commit them
pub record StoresFlight (d : Disk) (who : ℕ) (f : Flight) (change : DiskChange) (tail : ℕ)
    (s t : State) : Type 0 where
  pub mid : State
  pub agree : Agree mid.now mid.past
  pub stores : StoresNames d who change (prepare_units f) s mid t
  pub tail_is : tail ≡ tail_at (root_after d change).pages (count (root_after d change))

-- the operation is prepared with this tail, and the call is counted
pub record NotesPrepared (who : ℕ) (f : Flight) (c : NameChange) (tail : ℕ) (b b' : Parts) : Type 0
  where
    pub prepares : Prepares who f c tail b b'
    pub counts : Counts b b'

-- so the first advance of an operation on names goes on
abbrev pub NamesPrepare : (D F : Type 0) → (D → State) → Type 0
NamesPrepare D F state = (print : Print) (v v' : Volume D F) (u : State) (d : Disk) (who : ℕ)
    (f : Flight) (c : NameChange) (tail : ℕ)
    (flight : IsNameFlight d who f c (state v.device))
    → IsVolume d v.parts (state v.device) → Agree u.now u.past → Agree (state v'.device).now
    (state v'.device).past → IsToPrepare v.parts who f c
    → StoresNames d who flight.change (prepare_units f) (state v.device) u
    (state v'.device)
    → tail ≡ tail_at (root_after d flight.change).pages (count (root_after d flight.change))
    → Prepares who f c tail v.parts v'.parts → Counts v.parts v'.parts
    → MovesOn state print who v v' d
