-- What an event leaves where a crash comes inside it: the files of before, or, in the last advance
-- of an operation, those after it.
use Rattle.std.specs.Prelude.{◌≡◌, ◌⊎◌, ℕ, List, Option, Some, None}
use Rattle.pm_device.specs.State.{State, Agree}
use Rattle.pm_device.specs.Settled.{LeavesOnly, LeavesNow}
use Rattle.dn_model.specs.Disk.{Disk}
use Rattle.dn_model.specs.Files.{Files, files, IsSameFiles}
use Rattle.dn_model.specs.Image.{StandsFor}
use Rattle.dn_model.specs.Own.{Print, IsOwn}
use Rattle.dn_model.specs.Apply.{after_op}
use Rattle.dn_model.specs.declared.op.Op.{Op}
use Rattle.dn_volume.specs.declared.outcome.Outcome.{Outcome}
use Rattle.dn_volume.specs.declared.outcome.Outcome.TheVariants as told
use Rattle.dn_volume.specs.declared.flight.Flight.{Flight}
use Rattle.dn_volume.specs.declared.volume.Parts.{Parts}
use Rattle.dn_volume.specs.declared.volume.Volume.{Volume}
use Rattle.dn_volume.specs.Parties.{flight_of}
use Rattle.dn_volume.specs.Flights.{left_of}
use Rattle.dn_volume.specs.Events.{answered_by}
use Rattle.dn_volume.specs.Agrees.{IsVolume}
use Rattle.dn_core.specs.declared.event.Event.{Event}
use Rattle.dn_core.specs.declared.event.Event.TheVariants.{Begin, Advance, Daemon, Reclaim}
use Rattle.dn_core.specs.Steps.{Steps}

-- the operation that an event answers as the last advance of it
abbrev pub answering : Option Flight → Option Op
answering None = None
answering (Some f) = answered_by (left_of f) f.op

abbrev pub answers_in : Parts → Event → Option Op
answers_in b (Begin who op) = None
answers_in b (Advance who) = answering (flight_of b who)
answers_in b Daemon = None
answers_in b Reclaim = None

-- these are the files of before, or those after the one operation
abbrev pub IsOneMore : Files → Option Op → Files → Type 0
IsOneMore old None f = IsSameFiles f old
IsOneMore old (Some op) f = IsSameFiles f old ⊎ IsSameFiles f (after_op old op)

-- an image without a fault, with such files; it is this program's where the opening disk is
pub record IsImageIn (print : Print) (d : Disk) (flying : Option Op) (c : List ℕ) : Type 0 where
  pub disk : Disk
  pub stands_for : StandsFor c disk
  pub own : IsOwn print d → IsOwn print disk
  pub files_are : IsOwn print d → IsOneMore (files d) flying (files disk)
  pub quiet_files : flying ≡ None → IsSameFiles (files disk) (files d)

-- What stands once the event has answered: Done in an advance says that the operation happened,
-- Stopped leaves it open, and each other answer says that nothing did.
abbrev pub flying_then : Option Op → Outcome → Option Op
flying_then flying (told.Running left) = None
flying_then flying (told.Done reply) = None
flying_then flying (told.Busy holder) = None
flying_then flying (told.Released waiting) = None
flying_then flying told.Idle = None
flying_then flying told.NotYours = None
flying_then flying told.NoMemory = None
flying_then flying told.Stopped = flying

abbrev pub files_after : Files → Option Op → Files
files_after old None = old
files_after old (Some op) = after_op old op

abbrev pub files_then : Files → Option Op → Outcome → Files
files_then old flying (told.Running left) = old
files_then old flying (told.Done reply) = files_after old flying
files_then old flying (told.Busy holder) = old
files_then old flying (told.Released waiting) = old
files_then old flying told.Idle = old
files_then old flying told.NotYours = old
files_then old flying told.NoMemory = old
files_then old flying told.Stopped = old

-- an image of this program with such files
pub record IsOwnImage (print : Print) (f : Files) (flying : Option Op) (c : List ℕ) : Type 0 where
  pub disk : Disk
  pub stands_for : StandsFor c disk
  pub own : IsOwn print disk
  pub files_are : IsOneMore f flying (files disk)

-- the images of one event, from a volume that stands for a disk
pub record StepImages {D F : Type 0} (state : D → State) (print : Print) (event : Event)
    (v v' : Volume D F) (d : Disk) (outcome : Outcome) : Type 0 where
  pub during : LeavesOnly (state v.device) (state v'.device)
      (IsImageIn print d (answers_in v.parts event))
  pub then_left : IsOwn print d → LeavesNow (state v'.device)
      (IsOwnImage print (files_then (files d) (answers_in v.parts event) outcome)
      (flying_then (answers_in v.parts event) outcome))

-- so it is of each event
abbrev pub StepsLeaveImages : (D F : Type 0) → (D → State) → Type 0
StepsLeaveImages D F state = ((x : D) → Agree (state x).now (state x).past) → (print : Print)
    (event : Event) (v v' : Volume D F) (d : Disk) (outcome : Outcome)
    → IsVolume d v.parts (state v.device) → Steps state print event v v' outcome
    → StepImages state print event v v' d outcome
