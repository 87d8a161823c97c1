-- What the begin of an operation promises. The causes come in one order, and each answer says that
-- those before its own
-- are not there: first those that the files tell, then that an inode is held, then that an inode,
-- space or room for
-- releases is wanting, then want of memory.
use Rattle.std.specs.Prelude.{◌≡◌, ◌≢◌, ◌⊎◌, ◌↔◌, ℕ, ◌+◌, ◌-◌, ◌/◌, ◌<◌, ◌≤◌, false}
use Rattle.std.specs.Prelude.{if◌then◌else◌, ◌==◌, List, [], ◌∷◌, ◌++◌, length, slice_get}
use Rattle.std.specs.Prelude.{Some, None, Contains}
use Rattle.pm_device.specs.State.{State, IsSame}
use Rattle.log_entry.specs.Name.{same_name}
use Rattle.log_entry.specs.Spelling.{pages_of}
use Rattle.dn_model.specs.Disk.{Disk, Free}
use Rattle.dn_model.specs.Files.{files, named}
use Rattle.dn_model.specs.Apply.{IsGranted, Replies}
use Rattle.dn_model.specs.History.{needed, reserve, touched, refilled, inode_of}
use Rattle.dn_model.specs.declared.op.Op.{Op}
use Rattle.dn_model.specs.declared.op.Op.TheVariants as op
use Rattle.dn_model.specs.declared.op.Reply.{Reply}
use Rattle.dn_model.specs.declared.op.Reply.TheVariants.{Refused}
use Rattle.dn_model.specs.declared.op.Refusal.TheVariants.{NoInode, NoSpace}
use Rattle.dn_model.specs.declared.op.Entry.{Entry}
use Rattle.dn_volume.specs.declared.outcome.Outcome.{Outcome}
use Rattle.dn_volume.specs.declared.outcome.Outcome.TheVariants as told
use Rattle.dn_volume.specs.declared.flight.Flight.{Flight}
use Rattle.dn_volume.specs.declared.flight.Change.{Change}
use Rattle.dn_volume.specs.declared.flight.Change.TheVariants.{Data, Names}
use Rattle.dn_volume.specs.declared.volume.Parts.{Parts}
use Rattle.dn_volume.specs.declared.volume.Volume.{Volume}
use Rattle.dn_volume.specs.Parties.{Holds, Flies, flight_at}
use Rattle.dn_volume.specs.Planned.{row_slots}
use Rattle.dn_volume.specs.PlannedNames.{inode_list}
use Rattle.dn_volume.specs.Flights.{left_of}
use Rattle.dn_volume.specs.Kept.{SameButRoom, SameButBegun}
use Rattle.dn_volume.specs.Replaces.{Replaces}
use Rattle.dn_volume.specs.Agrees.{IsVolume}
use Rattle.dn_volume.specs.Events.{Counts}

-- a client that has nothing in flight may begin
pub record MayBegin (b : Parts) (who : ℕ) : Type 0 where
  pub some : 1 ≤ who
  pub few : who ≤ 14
  pub idle : flight_at b.flights.items (who - 1) ≡ None

-- What is answered in its begin where nothing stands in its way: what only reads, and what changes
-- nothing.
abbrev pub IsAtOnce : Op → Type 0
IsAtOnce (op.Create name) = ⊥
IsAtOnce (op.Write name at text) = text ≡ []
IsAtOnce (op.Read name at count) = Unit {0}
IsAtOnce (op.Cut name to) = ⊥
IsAtOnce (op.Remove name) = ⊥
IsAtOnce (op.Rename from to) = from ≡ to
IsAtOnce (op.Size name) = Unit {0}
IsAtOnce op.List = Unit {0}

-- The inodes that have to be held, in the order in which they are looked at: none for what is
-- answered at once. A new
-- inode is held by nobody.
abbrev pub wants : Disk → Op → List ℕ
wants d (op.Create name) = 0 ∷ []
wants d (op.Write name at []) = []
wants d (op.Write name at (byte ∷ text)) = inode_list (named d name)
wants d (op.Read name at count) = []
wants d (op.Cut name to) = inode_list (named d name)
wants d (op.Remove name) = 0 ∷ inode_list (named d name)
wants d (op.Rename from to) =
    if same_name from to then [] else 0 ∷ inode_list (named d from) ++ inode_list (named d to)
wants d (op.Size name) = []
wants d op.List = []

-- the first of them that is held is held by this actor
pub record IsHeldFirst (b : Parts) (inodes : List ℕ) (holder : ℕ) : Type 0 where
  pub before : List ℕ
  pub ino : ℕ
  pub after : List ℕ
  pub split : inodes ≡ before ++ ino ∷ after
  pub holds : Holds b holder ino
  pub loose : (i q : ℕ) → Contains before i → Holds b q i → ⊥

-- none of them is held
abbrev pub AreLoose : Parts → List ℕ → Type 0
AreLoose b inodes = (i q : ℕ) → Contains inodes i → Holds b q i → ⊥

-- no inode is free
abbrev pub LacksInode : Disk → Op → Type 0
LacksInode d (op.Create name) =
    (i : ℕ) → 1 ≤ i → i < d.geometry.inodes → (d.inode i).use_of ≡ Free → ⊥
LacksInode d (op.Write name at text) = ⊥
LacksInode d (op.Read name at count) = ⊥
LacksInode d (op.Cut name to) = ⊥
LacksInode d (op.Remove name) = ⊥
LacksInode d (op.Rename from to) = ⊥
LacksInode d (op.Size name) = ⊥
LacksInode d op.List = ⊥

-- the free pages are too few for it and its reserve
abbrev pub LacksSpace : Disk → Parts → Op → Type 0
LacksSpace d b op = (0 < needed d op) × (length b.free.free < needed d op + reserve op)

-- the first place that a cut takes away
abbrev pub first_gone : Disk → List ℕ → ℕ → ℕ
first_gone d name to = if refilled d name to == 0 then pages_of to else to / 4096

-- the slots of the rows that lose a mapping by an operation, one for each place
abbrev pub lost_rows : Disk → Op → List ℕ
lost_rows d (op.Create name) = []
lost_rows d (op.Write name at text) =
    row_slots d (inode_of (named d name)) (at / 4096) (touched at (length text))
lost_rows d (op.Read name at count) = []
lost_rows d (op.Cut name to) =
    row_slots d (inode_of (named d name)) (first_gone d name to) (4096 - first_gone d name to)
lost_rows d (op.Remove name) = []
lost_rows d (op.Rename from to) = []
lost_rows d (op.Size name) = []
lost_rows d op.List = []

-- they are too many more to release, beside those that wait
abbrev pub LacksReleases : Disk → Parts → Op → Type 0
LacksReleases d b op = 1048576 < length b.reclaiming.releases.items + length (lost_rows d op)

-- The files grant it, it isn't answered at once, and nothing that it has to hold is held: all that
-- is left to be asked is
-- whether it has what it takes.
pub record IsUnhindered (d : Disk) (b : Parts) (op : Op) : Type 0 where
  pub granted : IsGranted (files d) op
  pub lasts : IsAtOnce op → ⊥
  pub loose : AreLoose b (wants d op)

-- Why an operation is answered in its begin: as of the files, or for want of an inode or of room
-- while nothing waits.
-- Where nothing waits, room for releases is never wanting.
pub data IsAnswerOf (d : Disk) (b : Parts) (op : Op) : Reply → Type 0 where
  of_files : (reply : Reply) → Replies (files d) op reply → (IsGranted (files d) op → IsAtOnce op)
      → IsAnswerOf d b op reply
  no_inode : IsUnhindered d b op → b.reclaiming.waiting ≡ 0 → LacksInode d op
      → IsAnswerOf d b op (Refused NoInode)
  no_space : IsUnhindered d b op → b.reclaiming.waiting ≡ 0 → (LacksInode d op → ⊥)
      → LacksSpace d b op
      → IsAnswerOf d b op (Refused (NoSpace (needed d op) (length b.free.free)))

-- it lacks an inode, space or room for releases, which what waits may yet give
pub record WaitsForRelease (d : Disk) (b : Parts) (op : Op) (waiting : ℕ) : Type 0 where
  pub unhindered : IsUnhindered d b op
  pub lacks : LacksInode d op ⊎ LacksSpace d b op ⊎ LacksReleases d b op
  pub some : 0 < waiting
  pub is : waiting ≡ b.reclaiming.waiting

-- The files grant it, and an inode that it has to hold is held by this actor.
pub record IsBusy (d : Disk) (b : Parts) (op : Op) (holder : ℕ) : Type 0 where
  pub granted : IsGranted (files d) op
  pub held : IsHeldFirst b (wants d op) holder

-- Want of memory comes last: only where it is neither busy nor waits for releases. Room for its
-- entry may be wanting too
-- where it would be answered at once.
pub record IsLast (d : Disk) (b : Parts) (op : Op) : Type 0 where
  pub idle : (holder : ℕ) → IsBusy d b op holder → ⊥
  pub ready : (waiting : ℕ) → WaitsForRelease d b op waiting → ⊥

-- it has all that it takes
pub record HasAll (d : Disk) (b : Parts) (op : Op) : Type 0 where
  pub unhindered : IsUnhindered d b op
  pub inode : LacksInode d op → ⊥
  pub space : LacksSpace d b op → ⊥
  pub releases : LacksReleases d b op → ⊥

-- nothing was filled, raised or prepared of it yet
abbrev pub IsFreshChange : Change → Type 0
IsFreshChange (Data c) = c.filled ≡ 0
IsFreshChange (Names c) = c.prepared ≡ false

-- The client, which had none in flight, has this operation with so many events left. A new inode is
-- the least that is free.
pub record Opens (d : Disk) (who : ℕ) (op : Op) (left : ℕ) (f : Flight) (b b' : Parts) : Type 0
  where
    pub client : 1 ≤ who
    pub replaces : Replaces (who - 1) None (Some f) b b'
    pub op_is : f.op ≡ op
    pub left_is : left ≡ left_of f
    pub unraised : f.raised ≡ 0
    pub fresh : IsFreshChange f.change
    pub least : (i j : ℕ) → Contains f.held.items i → (d.inode i).use_of ≡ Free → 1 ≤ j → j < i
        → (d.inode j).use_of ≡ Free → ⊥
    pub same : SameButBegun who f b b'
    pub takes : length b.free.free ≡ length b'.free.free + needed d op

-- nothing but the room that is kept differs
pub record IsUntouched {D F : Type 0} (state : D → State) (v v' : Volume D F) (d : Disk) : Type 0
  where
    pub volume : IsVolume d v'.parts (state v'.device)
    pub device : IsSame (state v.device) (state v'.device)
    pub same : SameButRoom v.parts v'.parts
    pub history : v'.parts.history.items ≡ v.parts.history.items
    pub made : v'.parts.made ≡ v.parts.made

-- the operation has what it needs, and is in flight
pub record HasBegun {D F : Type 0} (state : D → State) (who : ℕ) (op : Op) (left : ℕ)
    (v v' : Volume D F) (d : Disk) : Type 0 where
  pub has : HasAll d v.parts op
  pub volume : IsVolume d v'.parts (state v'.device)
  pub device : IsSame (state v.device) (state v'.device)
  pub flight : Flight
  pub opens : Opens d who op left flight v.parts v'.parts
  pub history : v'.parts.history.items ≡ v.parts.history.items
  pub counts : Counts v.parts v'.parts

-- the kinds of operations, one for each call of a machine
abbrev pub IsWriteOp : Op → Type 0
IsWriteOp (op.Create name) = ⊥
IsWriteOp (op.Write name at text) = Unit {0}
IsWriteOp (op.Read name at count) = ⊥
IsWriteOp (op.Cut name to) = ⊥
IsWriteOp (op.Remove name) = ⊥
IsWriteOp (op.Rename from to) = ⊥
IsWriteOp (op.Size name) = ⊥
IsWriteOp op.List = ⊥

abbrev pub IsReadOp : Op → Type 0
IsReadOp (op.Create name) = ⊥
IsReadOp (op.Write name at text) = ⊥
IsReadOp (op.Read name at count) = Unit {0}
IsReadOp (op.Cut name to) = ⊥
IsReadOp (op.Remove name) = ⊥
IsReadOp (op.Rename from to) = ⊥
IsReadOp (op.Size name) = ⊥
IsReadOp op.List = ⊥

abbrev pub IsCutOp : Op → Type 0
IsCutOp (op.Create name) = ⊥
IsCutOp (op.Write name at text) = ⊥
IsCutOp (op.Read name at count) = ⊥
IsCutOp (op.Cut name to) = Unit {0}
IsCutOp (op.Remove name) = ⊥
IsCutOp (op.Rename from to) = ⊥
IsCutOp (op.Size name) = ⊥
IsCutOp op.List = ⊥

abbrev pub IsSizeOp : Op → Type 0
IsSizeOp (op.Create name) = ⊥
IsSizeOp (op.Write name at text) = ⊥
IsSizeOp (op.Read name at count) = ⊥
IsSizeOp (op.Cut name to) = ⊥
IsSizeOp (op.Remove name) = ⊥
IsSizeOp (op.Rename from to) = ⊥
IsSizeOp (op.Size name) = Unit {0}
IsSizeOp op.List = ⊥

-- a creation, a removal or a renaming
abbrev pub IsNamesOp : Op → Type 0
IsNamesOp (op.Create name) = Unit {0}
IsNamesOp (op.Write name at text) = ⊥
IsNamesOp (op.Read name at count) = ⊥
IsNamesOp (op.Cut name to) = ⊥
IsNamesOp (op.Remove name) = Unit {0}
IsNamesOp (op.Rename from to) = Unit {0}
IsNamesOp (op.Size name) = ⊥
IsNamesOp op.List = ⊥

-- a client has an operation of this kind in flight
pub record FliesAs (Kind : Op → Type 0) (b : Parts) (who : ℕ) : Type 0 where
  pub flight : Flight
  pub flies : Flies b who flight
  pub kind : Kind flight.op

-- what the other clients have in flight, as scripts
pub record AreFlying (b : Parts) (who : ℕ) (scripts : List (List Op)) : Type 0 where
  pub clients : length scripts ≡ 14
  pub script : (i : ℕ) (ops : List Op) → slice_get scripts i ≡ Some ops → (op : Op)
      → Contains ops op
      ↔ ((i + 1 ≢ who) × (f : Flight) × Flies b (i + 1) f × (f.op ≡ op))

-- it is answered, and enters the history
pub record AnswersAtOnce {D F : Type 0} (state : D → State) (who : ℕ) (op : Op) (reply : Reply)
    (v v' : Volume D F) (d : Disk) : Type 0 where
  pub why : IsAnswerOf d v.parts op reply
  pub idle : flight_at v.parts.flights.items (who - 1) ≡ None
  pub volume : IsVolume d v'.parts (state v'.device)
  pub device : IsSame (state v.device) (state v'.device)
  pub same : SameButRoom v.parts v'.parts
  pub entry : Entry
  pub history : v'.parts.history.items ≡ v.parts.history.items ++ entry ∷ []
  pub who_is : entry.who ≡ who
  pub op_is : entry.op ≡ op
  pub reply_is : entry.reply ≡ reply
  pub counts : Counts v.parts v'.parts

-- a begin by a client that may begin, on a volume that isn't stopped
abbrev pub Begins : {D F : Type 0} → (D → State) → ℕ → Op → Volume D F → Volume D F → Disk → Outcome
    → Type 0
Begins state who op v v' d (told.Running left) = HasBegun state who op left v v' d
Begins state who op v v' d (told.Done reply) = AnswersAtOnce state who op reply v v' d
Begins state who op v v' d (told.Busy holder) = IsUntouched state v v' d × IsBusy d v.parts op
    holder
Begins state who op v v' d (told.Released waiting) =
    IsUntouched state v v' d × WaitsForRelease d v.parts op waiting
Begins state who op v v' d told.Idle = ⊥
Begins state who op v v' d told.NotYours = ⊥
Begins state who op v v' d told.NoMemory = IsUntouched state v v' d × IsLast d v.parts op
Begins state who op v v' d told.Stopped = ⊥
