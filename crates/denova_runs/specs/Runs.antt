-- What a run of scripts on the image of a device promises. What is told of runs and of images holds
-- where the opening words are this program's.
use Rattle.std.specs.Prelude.{◌≡◌, ◌⊎◌, ℕ, ◌≤◌, ◌==◌, if◌then◌else◌, List, [], ◌∷◌, slice_get, Option, Some, None}
use Rattle.pm_device.specs.Past.{Past, Left, moment}
use Rattle.pm_device.specs.State.{State, Rose}
use Rattle.pm_device.specs.Settled.{LeavesOnly}
use Rattle.dn_model.specs.Disk.{Disk}
use Rattle.dn_model.specs.Rolled.{rolled}
use Rattle.dn_model.specs.Maps.{Mapping}
use Rattle.dn_model.specs.Files.{Files, files, IsSameFiles}
use Rattle.dn_model.specs.Image.{StandsFor, HasNoFault}
use Rattle.dn_model.specs.Faults.{FaultOf, HasFree}
use Rattle.dn_model.specs.Own.{Print, IsOwn, LivePlace, IsAlone, HasTwin, page_bytes}
use Rattle.dn_model.specs.History.{Legal, IsShortOfSpace, IsShortOfInodes}
use Rattle.dn_model.specs.Course.{Course}
use Rattle.dn_model.specs.LeftBy.{IsOnTheWay}
use Rattle.dn_model.specs.declared.op.Op.{Op}
use Rattle.dn_model.specs.declared.op.Entry.{Entry}
use Rattle.dn_model.specs.declared.op.Reply.TheVariants.{Refused}
use Rattle.dn_model.specs.declared.op.Refusal.TheVariants.{NoInode, NoSpace}
use Rattle.dn_model.specs.declared.fault.ImageFault.{ImageFault}
use Rattle.dn_volume.specs.Resting.{IsAtRest}
use Rattle.dn_core.specs.Rest.{IsSettled}
use Rattle.job_runs.specs.declared.plan.Order.{Order}
use Rattle.job_runs.specs.Turns.{Played}
use Rattle.job_runs.specs.Plays.{Move, PlayedAll}
use Rattle.job_runs.specs.Scripts.{IsScripted, IsFront, IsNextOp}

-- THE OPENING

-- so it is of the disk that the opening words stand for, where it is this program's
abbrev pub OfOpening : Print → State → (Disk → Type 0) → Type 0
OfOpening print s P = (d : Disk) → StandsFor s.now d → IsOwn print d → P d

-- the opening words have no fault, and so it is
abbrev pub OfSound : Print → State → (Disk → Type 0) → Type 0
OfSound print s P = HasNoFault s.now × OfOpening print s P

-- the opening words have this fault, and nothing but the rollback of the journal was done
pub record HasFault (s t : State) (fault : ImageFault) : Type 0 where
  pub is : FaultOf s.now fault
  pub images : LeavesOnly s t (λ c. rolled c ≡ rolled s.now)
  pub now : (t.now ≡ s.now) ⊎ (t.now ≡ rolled s.now)

-- THE RUN

-- an image that a crash might leave at a moment of a run stands for this disk
pub record WasLeftIn (s t : State) (e : Disk) : Type 0 where
  pub m : ℕ
  pub c : List ℕ
  pub since : moment s.past ≤ m
  pub left : Left t.past m c
  pub stands_for : StandsFor c e

-- the scripts of the other clients
abbrev pub others_in : List (ℕ × List Op) → ℕ → List (List Op)
others_in [] who = []
others_in (c ∷ cs) who = if c.0 == who then others_in cs who else c.1 ∷ others_in cs who

-- each want of an inode or of room was one, of such an image
pub record WereShort (scripts : List (ℕ × List Op)) (history : List Entry) (s t : State)
    : Type 0 where
  pub space : (k needed free : ℕ) (entry : Entry) → slice_get history k ≡ Some entry
      → entry.reply ≡ Refused (NoSpace needed free)
      → (e : Disk) × WasLeftIn s t e
      × IsShortOfSpace e (others_in scripts entry.who) entry.op needed free
  pub inode : (k : ℕ) (entry : Entry) → slice_get history k ≡ Some entry
      → entry.reply ≡ Refused NoInode
      → (e : Disk) × WasLeftIn s t e × IsShortOfInodes e entry.op

-- where the device tells its past
abbrev pub AreShort : List (ℕ × List Op) → List Entry → State → State → Type 0
AreShort scripts history s t = (p : Past) → t.past ≡ Some p → WereShort scripts history s t

-- A place that was left alone was so before, or some file had a page of other bytes with the same
-- fingerprint at some point of the history.
pub record LeftBy (print : Print) (d : Disk) (history : List Entry) (e : Disk) : Type 0 where
  pub why : (ino idx : ℕ) (m : Mapping) → LivePlace e ino idx m → IsAlone m
      → ((n : Mapping) × LivePlace d ino idx n × IsAlone n × (n.block ≡ m.block))
      ⊎ ((f : Files) × IsOnTheWay (files d) history f × HasTwin print f (page_bytes e m.block))

-- All of the scripts were run from a disk. Each client's entries are its script's, in order; each
-- reply is that of a file system that never shares; the words that are left are at rest, with the
-- files after the history; and at each moment a crash left the files after the operations so far,
-- or after one more.
pub record RanWhole (print : Print) (scripts : List (ℕ × List Op)) (d : Disk) (s t : State)
    (Tells : List Entry → Disk → ℕ → Type 0) : Type 0 where
  pub history : List Entry
  pub scripted : IsScripted scripts history
  pub end_files : Files
  pub legal : Legal (files d) history end_files
  pub short : AreShort scripts history s t
  pub after : Disk
  pub at_rest : IsAtRest after t
  pub settled : IsSettled print after
  pub same : IsSameFiles (files after) end_files
  pub left_by : LeftBy print d history after
  pub course : Course print (files d) (moment s.past) history None t
  pub free : ℕ
  pub has_free : HasFree after free
  pub tells : Tells history after free

-- They were run so, and the events were those that the scripts, the schedule and the answers
-- determine.
pub record HasRun (print : Print) (order : Order) (scripts : List (ℕ × List Op)) (turns : List ℕ)
    (d : Disk) (s t : State) (Tells : List Entry → Disk → ℕ → Type 0) : Type 0 where
  pub whole : RanWhole print scripts d s t Tells
  pub moves : List Move
  pub end : Played
  pub opening : Files
  pub is_opening : IsSameFiles opening (files d)
  pub played : PlayedAll order scripts turns opening moves end
  pub told : end.entries ≡ whole.history

-- A front of each script was run, and at most the next operation of one client was in flight.
pub record HasRunPart (print : Print) (scripts : List (ℕ × List Op)) (d : Disk) (s t : State)
    (Tells : List Entry → Type 0) : Type 0 where
  pub history : List Entry
  pub front : IsFront scripts history
  pub end_files : Files
  pub legal : Legal (files d) history end_files
  pub short : AreShort scripts history s t
  pub flying : Option Op
  pub next : (flying ≡ None)
      ⊎ (Rose s.faults t.faults × (op : Op) × (flying ≡ Some op) × IsNextOp scripts history op)
  pub course : Course print (files d) (moment s.past) history flying t
  pub tells : Tells history

-- nothing was answered, and no file changed
abbrev pub StaysOnCourse : Print → State → State → Disk → Type 0
StaysOnCourse print s t d = Course print (files d) (moment s.past) [] None t
