-- What the begin of an operation on names finds, before it takes anything.
use Rattle.std.specs.Prelude.{
  ◌≡◌,
  ◌≢◌,
  ◌⊎◌,
  ℕ,
  ◌+◌,
  ◌*◌,
  ◌<◌,
  ◌≤◌,
  List,
  [],
  ◌∷◌,
  length,
  Option,
  Some,
  None,
  false,
}
use Rattle.log_entry.specs.Spelling.{spelled}
use Rattle.dn_model.specs.Disk.{Disk, Free}
use Rattle.dn_model.specs.Files.{named}
use Rattle.dn_model.specs.History.{name_slots, needed}
use Rattle.dn_model.specs.declared.op.Op.{Op}
use Rattle.dn_model.specs.declared.op.Op.TheVariants as op
use Rattle.dn_model.specs.declared.op.Reply.TheVariants.{Refused}
use Rattle.dn_model.specs.declared.op.Refusal.TheVariants.{NoSpace}
use Rattle.law_names.specs.NameChange.{NameChange as DiskChange, Stays}
use Rattle.law_names.specs.Operations.{creation, removal, renaming}
use Rattle.dn_volume.specs.declared.units.TheConstants as cost
use Rattle.dn_volume.specs.declared.volume.Parts.{Parts}
use Rattle.dn_volume.specs.declared.volume.Room.{Room}
use Rattle.dn_volume.specs.declared.flight.Flight.{Flight}
use Rattle.dn_volume.specs.declared.flight.Change.TheVariants.{Names}
use Rattle.dn_volume.specs.declared.flight.Turn.{Turn}
use Rattle.dn_volume.specs.declared.flight.Turn.TheVariants as turns
use Rattle.dn_volume.specs.Flights.{as_turn}
use Rattle.dn_volume.specs.PlannedNames.{inode_list, name_put}
use Rattle.dn_volume.specs.Begins.{
  IsUnhindered,
  IsAnswerOf,
  IsBusy,
  WaitsForRelease,
  LacksInode,
  HasAll,
}
use Rattle.begin_steps.specs.Held.{AreLooseAmong}
use Rattle.name_ops.specs.declared.found.Found.{Found}
use Rattle.name_ops.specs.declared.found.Found.TheVariants as found
use Rattle.name_ops.specs.declared.plan.NamesPlan.{NamesPlan}

-- the least free inode, which nobody holds
pub record AimsAtNew (d : Disk) (b : Parts) (ino : ℕ) (other : Option ℕ) : Type 0 where
  pub alone : other ≡ None
  pub file : 1 ≤ ino
  pub in_table : ino < d.geometry.inodes
  pub free : (d.inode ino).use_of ≡ Free
  pub least : (j : ℕ) → 1 ≤ j → j < ino → (d.inode j).use_of ≡ Free → ⊥
  pub loose : AreLooseAmong b.inodes.items (ino ∷ [])

-- the file of a name
pub record AimsAtFile (d : Disk) (name : List ℕ) (ino : ℕ) (other : Option ℕ) : Type 0 where
  pub alone : other ≡ None
  pub leads : named d name ≡ Some ino

-- the file of one name, and that of another, if there is one
pub record AimsAtBoth (d : Disk) (from to : List ℕ) (ino : ℕ) (other : Option ℕ) : Type 0 where
  pub apart : from ≢ to
  pub leads : named d from ≡ Some ino
  pub replaces : named d to ≡ other

-- the inode that is made, removed or renamed, and the one that is replaced
abbrev pub Aims : Disk → Parts → Op → ℕ → Option ℕ → Type 0
Aims d b (op.Create name) ino other = AimsAtNew d b ino other
Aims d b (op.Write name at text) ino other = ⊥
Aims d b (op.Read name at count) ino other = ⊥
Aims d b (op.Cut name to) ino other = ⊥
Aims d b (op.Remove name) ino other = AimsAtFile d name ino other
Aims d b (op.Rename from to) ino other = AimsAtBoth d from to ino other
Aims d b (op.Size name) ino other = ⊥
Aims d b op.List ino other = ⊥

-- nothing but space or room for releases may stand in its way
pub record IsAimed (d : Disk) (b : Parts) (op : Op) (ino : ℕ) (other : Option ℕ) : Type 0 where
  pub unhindered : IsUnhindered d b op
  pub inode : LacksInode d op → ⊥
  pub aims : Aims d b op ino other

-- what was found is so
abbrev pub IsFound : Disk → Parts → Op → Found → Type 0
IsFound d b op (found.Answer reply) = IsAnswerOf d b op reply
IsFound d b op (found.Held holder) = IsBusy d b op holder
IsFound d b op (found.Waits waiting) = WaitsForRelease d b op waiting
IsFound d b op (found.Files ino other) = IsAimed d b op ino other

-- nothing stands in its way
pub record IsRoomy (d : Disk) (b : Parts) (op : Op) (ino : ℕ) (other : Option ℕ) : Type 0 where
  pub has : HasAll d b op
  pub aims : Aims d b op ino other

-- and space and room for releases were looked at
abbrev pub IsFoundRoom : Disk → Parts → Op → Found → Type 0
IsFoundRoom d b op (found.Answer reply) = IsAnswerOf d b op reply
IsFoundRoom d b op (found.Held holder) = IsBusy d b op holder
IsFoundRoom d b op (found.Waits waiting) = WaitsForRelease d b op waiting
IsFoundRoom d b op (found.Files ino other) = IsRoomy d b op ino other

-- so many pages are needed, and the free ones are too few for them and the reserve
pub record AreTooFew (b : Parts) (pages spare : ℕ) : Type 0 where
  pub some : 0 < pages
  pub few : length b.free.free < pages + spare

-- reclaim has work, and it may give what is wanting
pub record MayWait (b : Parts) (pages spare waiting : ℕ) : Type 0 where
  pub some : 0 < waiting
  pub is : waiting ≡ b.reclaiming.waiting
  pub lacks : AreTooFew b pages spare ⊎ (1048576 < length b.reclaiming.releases.items)

-- there are pages enough, and room for releases unless nothing waits
pub record HasPages (b : Parts) (pages spare : ℕ) : Type 0 where
  pub enough : AreTooFew b pages spare → ⊥
  pub releases : (b.reclaiming.waiting ≡ 0)
      ⊎ (length b.reclaiming.releases.items ≤ 1048576)

-- what is found where space and room for releases are looked at
abbrev pub LooksAtRoom : Parts → (pages spare ino : ℕ) → Option ℕ → Found → Type 0
LooksAtRoom b pages spare ino other (found.Answer reply) =
    (b.reclaiming.waiting ≡ 0) × AreTooFew b pages spare
    × (reply ≡ Refused (NoSpace pages (length b.free.free)))
LooksAtRoom b pages spare ino other (found.Held holder) = ⊥
LooksAtRoom b pages spare ino other (found.Waits waiting) = MayWait b pages spare waiting
LooksAtRoom b pages spare ino other (found.Files i o) =
    (i ≡ ino) × (o ≡ other) × HasPages b pages spare

-- the slots of the items of an operation on names
abbrev pub op_slots : Op → ℕ
op_slots (op.Create name) = name_slots name
op_slots (op.Write name at text) = 0
op_slots (op.Read name at count) = 0
op_slots (op.Cut name to) = 0
op_slots (op.Remove name) = name_slots name
op_slots (op.Rename from to) = name_slots from + name_slots to
op_slots (op.Size name) = 0
op_slots op.List = 0

-- how it changes the disk, on these pages
abbrev pub change_of : Op → ℕ → Option ℕ → List ℕ → DiskChange
change_of (op.Create name) ino other fresh = creation name ino fresh
change_of (op.Write name at text) ino other fresh =
    record { fresh = fresh; more = []; ino = ino; turn = Stays }
change_of (op.Read name at count) ino other fresh =
    record { fresh = fresh; more = []; ino = ino; turn = Stays }
change_of (op.Cut name to) ino other fresh =
    record { fresh = fresh; more = []; ino = ino; turn = Stays }
change_of (op.Remove name) ino other fresh = removal name ino fresh
change_of (op.Rename from to) ino other fresh = renaming from to ino other fresh
change_of (op.Size name) ino other fresh =
    record { fresh = fresh; more = []; ino = ino; turn = Stays }
change_of op.List ino other fresh =
    record { fresh = fresh; more = []; ino = ino; turn = Stays }

-- the room that is owed to an operation on names whose items have so many slots and whose log needs
-- so many pages
abbrev pub owed_names : (slots pages : ℕ) → Room
owed_names slots pages = record {
  units = cost.SLOT_UNITS * (slots + pages) + cost.TURN_UNITS + cost.NAMES_UNITS;
  trace = 0;
  history = 1;
  queue = 0;
  releases = 0;
}

-- the plan of that change: it holds the root and then the files in the order in which it names them
pub record IsPlanOf (op : Op) (ino : ℕ) (other : Option ℕ) (plan : NamesPlan) : Type 0 where
  pub node : (change_of op ino other []).ino ≡ plan.node
  pub turn : (change_of op ino other []).turn ≡ as_turn plan.turn
  pub held : plan.held.items ≡ 0 ∷ ino ∷ inode_list other
  pub slots : spelled (change_of op ino other []).more ≡ plan.slots.items
  pub put : plan.put ≡ name_put op

-- only a renaming has another file
abbrev pub IsAlone : Op → Option ℕ → Type 0
IsAlone (op.Create name) other = other ≡ None
IsAlone (op.Write name at text) other = Unit {0}
IsAlone (op.Read name at count) other = Unit {0}
IsAlone (op.Cut name to) other = Unit {0}
IsAlone (op.Remove name) other = other ≡ None
IsAlone (op.Rename from to) other = Unit {0}
IsAlone (op.Size name) other = Unit {0}
IsAlone op.List other = Unit {0}

-- the inode that turns in a renaming, and how
abbrev pub Turns : ℕ → Option ℕ → ℕ → Turn → Type 0
Turns ino None node turn = (node ≡ ino) × (turn ≡ turns.Stays)
Turns ino (Some other) node turn = (node ≡ other) × (turn ≡ turns.Goes)

-- an operation planned so, which has these pages
pub record IsNewFlight (op : Op) (plan : NamesPlan) (pages : List ℕ) (f : Flight) : Type 0 where
  pub op_is : f.op ≡ op
  pub held : f.held.items ≡ plan.held.items
  pub ino : f.ino ≡ 0
  pub slots : f.slots.items ≡ plan.slots.items
  pub fresh : f.fresh.items ≡ pages
  pub spare : f.spare.items ≡ []
  pub rows : f.rows.items ≡ []
  pub unraised : f.raised ≡ 0
  pub change_is : f.change ≡ Names (record {
    node = plan.node;
    turn = plan.turn;
    prepared = false;
    tail = 0;
    put = plan.put;
  })

-- nothing stands in its way, it is planned so, and needs so many pages
pub record CanOpen (d : Disk) (b : Parts) (op : Op) (plan : NamesPlan) (pages : ℕ) : Type 0 where
  pub ino : ℕ
  pub other : Option ℕ
  pub roomy : IsRoomy d b op ino other
  pub planned : IsPlanOf op ino other plan
  pub needs : pages ≡ needed d op
