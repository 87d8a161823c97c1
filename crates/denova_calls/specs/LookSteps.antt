-- What the steps of these calls come to.
use Rattle.std.specs.Prelude.{◌≡◌, ◌⊎◌, ℕ, List, Some, None, Result, Ok, Err}
use Rattle.pm_device.specs.Past.{Left, moment}
use Rattle.pm_device.specs.State.{State, Rose}
use Rattle.log_entry.specs.Name.{IsLegal}
use Rattle.dn_model.specs.Disk.{Disk}
use Rattle.dn_model.specs.Files.{files}
use Rattle.dn_model.specs.Image.{StandsFor, HasNoFault}
use Rattle.dn_model.specs.Faults.{FaultOf}
use Rattle.dn_model.specs.Own.{Print, IsOwn}
use Rattle.dn_model.specs.declared.op.Op.{Op}
use Rattle.dn_model.specs.declared.fault.ImageFault.{ImageFault}
use Rattle.dn_volume.specs.declared.volume.Volume.{Volume}
use Rattle.dn_volume.specs.Agrees.{IsVolume}
use Rattle.dn_mount.specs.declared.fault.MountFault.{MountFault}
use Rattle.dn_mount.specs.declared.fault.MountFault.TheVariants as why
use Rattle.dn_mount.specs.Mounted.{IsMounted}
use Rattle.dn_report.specs.Report.{refused_text}
use Rattle.dn_report.specs.Found.{faulty_text}
use Rattle.dn_report.specs.Listing.{ListsFiles}
use Rattle.dn_report.specs.declared.report.Cause.{Cause}
use Rattle.dn_report.specs.declared.report.Cause.TheVariants.{BadName, NotFound}
use Rattle.call_endings.specs.declared.ending.Ending.{Ending}
use Rattle.call_endings.specs.declared.ending.Ending.TheVariants.{
  Done,
  Faulty,
  Failed,
  NoMemory,
  Refused,
}
use Rattle.job_runs.specs.declared.plan.Order.TheVariants.{InTurns}
use Rattle.denova_runs.specs.Runs.{OfOpening, HasFault, HasRun, StaysOnCourse}
use Rattle.denova_calls.specs.LookEnds.{ListsFront}

-- THE MOUNT

-- a fault of an image is told
abbrev pub FaultyEnds : ImageFault → Ending → Type 0
FaultyEnds fault (Faulty text) = text.items ≡ faulty_text fault
FaultyEnds fault NoMemory = Unit {0}
FaultyEnds fault e = ⊥

-- why an image isn't mounted is told
abbrev pub UnmountedEnds : MountFault → Ending → Type 0
UnmountedEnds (why.Image fault) e = FaultyEnds fault e
UnmountedEnds why.NoMemory e = e ≡ NoMemory
UnmountedEnds why.Failed e = e ≡ Failed

-- the image of a device wasn't mounted
abbrev pub MountEnds : Print → State → State → Ending → Type 0
MountEnds print s t (Faulty text) =
    (f : ImageFault) × HasFault s t f × (text.items ≡ faulty_text f)
MountEnds print s t Failed =
    Rose s.faults t.faults × OfOpening print s (StaysOnCourse print s t)
MountEnds print s t NoMemory = OfOpening print s (StaysOnCourse print s t)
MountEnds print s t e = ⊥

-- it was
pub record IsOpen {D F : Type 0} (state : D → State) (print : Print) (s : State) (v : Volume D F)
    : Type 0 where
  pub sound : HasNoFault s.now
  pub mounted : (d : Disk) → StandsFor s.now d → IsMounted state print d v
  pub course : OfOpening print s (StaysOnCourse print s (state v.device))

-- the device afterwards: that of the volume, or that which comes back
abbrev pub device_after : {D F : Type 0} → Result (Volume D F) (Ending × D) → D
device_after (Ok v) = v.device
device_after (Err back) = back.1

-- FILES OF A VOLUME

-- a cause is told
abbrev pub RefusedEnds : Cause → Ending → Type 0
RefusedEnds cause (Refused text) = text.items ≡ refused_text cause
RefusedEnds cause NoMemory = Unit {0}
RefusedEnds cause e = ⊥

-- all of its files are listed
abbrev pub ListedEnds : {D F : Type 0} → (D → State) → Volume D F → Ending → Type 0
ListedEnds state v (Done text) = (d : Disk) → IsVolume d v.parts (state v.device)
    → ListsFiles (files d) text.items
ListedEnds state v NoMemory = Unit {0}
ListedEnds state v e = ⊥

-- one of them is shown, if it is there
abbrev pub FoundEnds : {D F : Type 0} → (D → State) → Volume D F → List ℕ → Ending → Type 0
FoundEnds state v name (Done text) = (d : Disk) → IsVolume d v.parts (state v.device)
    → files d name ≡ Some text.items
FoundEnds state v name (Refused text) =
    ((d : Disk) → IsVolume d v.parts (state v.device) → files d name ≡ None)
    × (text.items ≡ refused_text NotFound)
FoundEnds state v name NoMemory = Unit {0}
FoundEnds state v name e = ⊥

-- if its name is one that a file can have
abbrev pub ShownEnds : {D F : Type 0} → (D → State) → Volume D F → List ℕ → Ending → Type 0
ShownEnds state v name (Done text) = IsLegal name × FoundEnds state v name (Done text)
ShownEnds state v name (Refused text) =
    ((IsLegal name → ⊥) × (text.items ≡ refused_text BadName))
    ⊎ (IsLegal name × FoundEnds state v name (Refused text))
ShownEnds state v name NoMemory = Unit {0}
ShownEnds state v name e = ⊥

-- THE TRIAL

-- an image that a crash may leave after so many calls, or after all
pub record IsPickedAt (calls : ℕ) (s : State) (c : List ℕ) : Type 0 where
  pub m : ℕ
  pub left : Left s.past m c
  pub none : calls ≡ 0 → m ≡ 0
  pub all : calls ≡ 18446744073709551615 → m ≡ moment s.past

-- the files of an image are listed
abbrev pub ImageListed : Print → List ℕ → Ending → Type 0
ImageListed print c (Done text) = (d : Disk) → StandsFor c d → IsOwn print d
    → ListsFiles (files d) text.items
ImageListed print c NoMemory = Unit {0}
ImageListed print c e = ⊥

-- those of such an image
abbrev pub FrontListed : Print → ℕ → State → Ending → Type 0
FrontListed print calls s (Done text) =
    (c : List ℕ) × IsPickedAt calls s c × ImageListed print c (Done text)
FrontListed print calls s NoMemory = Unit {0}
FrontListed print calls s e = ⊥

-- words that are no whole pages have a fault, which is told
abbrev pub UnevenEnds : List ℕ → Ending → Type 0
UnevenEnds words (Faulty text) =
    (f : ImageFault) × FaultOf words f × (text.items ≡ faulty_text f)
UnevenEnds words NoMemory = Unit {0}
UnevenEnds words e = ⊥

-- scripts were run on a copy of words that stood for d, and the files after a front are listed
pub record HasTriedOn (print : Print) (scripts : List (ℕ × List Op)) (turns : List ℕ) (calls : ℕ)
    (d : Disk) (words : List ℕ) (text : List ℕ) : Type 0 where
  pub first : State
  pub last : State
  pub copied : first.now ≡ words
  pub run : HasRun print InTurns scripts turns d first last
      (λ history after free. ListsFront calls (files d) history text)

abbrev pub CopyEnds : Print → List (ℕ × List Op) → List ℕ → ℕ → List ℕ → Ending → Type 0
CopyEnds print scripts turns calls words (Done text) = HasNoFault words
    × ((d : Disk) → StandsFor words d → IsOwn print d
    → HasTriedOn print scripts turns calls d words text.items)
CopyEnds print scripts turns calls words (Faulty text) =
    (f : ImageFault) × FaultOf words f × (text.items ≡ faulty_text f)
CopyEnds print scripts turns calls words NoMemory = Unit {0}
CopyEnds print scripts turns calls words e = ⊥
