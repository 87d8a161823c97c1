-- A write or a cut has what it takes but for its pages, and then its pages too.
use Rattle.std.specs.Prelude.{◌≡◌, ◌⊎◌, ℕ, ◌+◌, ◌*◌, ◌≤◌, [], ◌∷◌, length}
use Rattle.pm_device.specs.State.{State, IsSame}
use Rattle.file_write.specs.declared.plan.WritePlan.{WritePlan}
use Rattle.dn_model.specs.Disk.{Disk}
use Rattle.dn_model.specs.declared.op.Op.{Op}
use Rattle.dn_volume.specs.declared.units.TheConstants as cost
use Rattle.dn_volume.specs.declared.flight.Flight.{Flight}
use Rattle.dn_volume.specs.declared.flight.Change.TheVariants.{Data}
use Rattle.dn_volume.specs.declared.volume.Room.{Room}
use Rattle.dn_volume.specs.declared.volume.Volume.{Volume}
use Rattle.dn_volume.specs.Planned.{row_slots}
use Rattle.dn_volume.specs.Agrees.{IsVolume}
use Rattle.begin_steps.specs.Answering.{KeepsRoom}
use Rattle.begin_steps.specs.Room.{HasRoomFor, HasPlaceRoom}
use Rattle.data_begins.specs.declared.asks.DataAsk.{DataAsk}
use Rattle.data_begins.specs.declared.ready.Ready.{Ready}

-- the most that is owed to a write or a cut of so many pages, rows and slots, with one page for
-- its log
abbrev pub data_room : (places rows slots : ℕ) → Room
data_room places rows slots = record {
  units = cost.FILL_UNITS * places + cost.RAISE_UNITS * rows +
      cost.SLOT_UNITS * (slots + 1) + cost.TAIL_UNITS;
  trace = rows;
  history = 1;
  queue = places;
  releases = rows;
}

-- nothing but room was made
pub record OnlyMakesRoom {D F : Type 0} (state : D → State) (v v' : Volume D F) : Type 0 where
  pub device : IsSame (state v.device) (state v'.device)
  pub spare : ((state v'.device).spare ≡ (state v.device).spare)
      ⊎ (v.parts.owed.units ≤ (state v'.device).spare)
  pub keeps : KeepsRoom v.parts v'.parts
  pub history : v'.parts.history.items ≡ v.parts.history.items
  pub made : v'.parts.made ≡ v.parts.made

-- its inode and its rows are listed, and there is room for it
pub record IsReady {D F : Type 0} (state : D → State) (ask : DataAsk) (places slots : ℕ)
    (v v' : Volume D F) (ready : Ready) : Type 0 where
  pub held : ready.held.items ≡ ask.ino ∷ []
  pub rows : (d : Disk) → IsVolume d v.parts (state v.device)
      → ready.rows.items ≡ row_slots d ask.ino ask.lost ask.lost_places
  pub few : length ready.rows.items ≤ 4096
  pub room : HasRoomFor (data_room places (length ready.rows.items) slots) v'.parts
  pub units : v'.parts.owed.units + (data_room places (length ready.rows.items) slots).units
      ≤ (state v'.device).spare
  pub in_map : HasPlaceRoom ask.ino places v'.parts

-- the operation in flight, by its plan
abbrev pub data_flight : Op → ℕ → Ready → WritePlan → Flight
data_flight op ino ready plan = record {
  op = op;
  held = ready.held;
  ino = ino;
  slots = plan.slots;
  fresh = plan.fresh;
  spare = plan.spare;
  rows = ready.rows;
  raised = 0;
  change = Data (record {
    first = plan.first;
    size = plan.size;
    blocks = plan.blocks;
    runs = plan.runs;
    filled = 0;
  });
}
