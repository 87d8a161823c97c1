-- What the steps of a call that runs a job hand on.
use Rattle.std.specs.Prelude.{◌≡◌, ℕ, List, length}
use Rattle.pm_device.specs.State.{State}
use Rattle.dn_model.specs.Disk.{Disk}
use Rattle.dn_model.specs.declared.fault.ImageFault.{ImageFault}
use Rattle.dn_volume.specs.declared.volume.Volume.{Volume}
use Rattle.dn_volume.specs.Agrees.{IsVolume}
use Rattle.dn_script.specs.declared.job.JobFault.{JobFault}
use Rattle.dn_script.specs.declared.job.JobFault.TheVariants as fault
use Rattle.dn_report.specs.Report.{bad_line_text, bad_turn_text}
use Rattle.dn_report.specs.Found.{faulty_text}
use Rattle.dn_report.specs.Listing.{work_text}
use Rattle.call_endings.specs.declared.ending.Ending.{Ending}
use Rattle.call_endings.specs.declared.ending.Ending.TheVariants.{
  Done,
  Usage,
  BadLine,
  BadTurn,
  Faulty,
  Stopped,
  Failed,
  Unread,
  NoMemory,
  TooLong,
  Refused,
}
use Rattle.denova_runs.specs.declared.run.RunEnd.{RunEnd}
use Rattle.denova_runs.specs.declared.run.RunEnd.TheVariants as ended
use Rattle.job_texts.specs.Told.{run_text, stopped_run_text}
use Rattle.denova_calls.specs.RunEnds.{Telling}

-- the ending of a job's fault
abbrev pub FaultEnds : JobFault → Ending → Type 0
FaultEnds f (Done text) = ⊥
FaultEnds f Usage = ⊥
FaultEnds f (BadLine text) =
    (line : ℕ) × (f ≡ fault.BadLine line) × (text.items ≡ bad_line_text line)
FaultEnds f (BadTurn text) =
    (number : ℕ) × (f ≡ fault.BadTurn number) × (text.items ≡ bad_turn_text number)
FaultEnds f (Faulty text) = ⊥
FaultEnds f (Stopped text) = ⊥
FaultEnds f Failed = ⊥
FaultEnds f Unread = f ≡ fault.ReadFault
FaultEnds f NoMemory = Unit {0}
FaultEnds f TooLong = f ≡ fault.TooLong
FaultEnds f (Refused text) = ⊥

-- the ending of an image with a fault, and that of a run that the device stopped
abbrev pub FaultyEnds : ImageFault → Ending → Type 0
FaultyEnds f (Faulty text) = text.items ≡ faulty_text f
FaultyEnds f NoMemory = Unit {0}
FaultyEnds f e = ⊥

abbrev pub StopEnds : List ℕ → Ending → Type 0
StopEnds want (Stopped text) = text.items ≡ want
StopEnds want NoMemory = Unit {0}
StopEnds want e = ⊥

-- the ending of a run that didn't come to its end, whose operations have lines of these numbers
abbrev pub EndEnds : List (ℕ × List ℕ) → RunEnd → Ending → Type 0
EndEnds numbers (ended.Faulty f) e = FaultyEnds f e
EndEnds numbers ended.Failed e = e ≡ Failed
EndEnds numbers (ended.Stopped history) e = StopEnds (stopped_run_text numbers history.items) e
EndEnds numbers ended.NoMemory e = e ≡ NoMemory

-- the ending of a run that came to its end, whose text is one of which this holds
abbrev pub WholeEnds : (List ℕ → Type 0) → Ending → Type 0
WholeEnds P (Done text) = P text.items
WholeEnds P NoMemory = Unit {0}
WholeEnds P e = ⊥

-- the text of generated work that was run on a volume
abbrev pub WorkTextOf : {D F : Type 0} → (D → State) → Volume D F → ℕ → List ℕ → Type 0
WorkTextOf state v n text = (d : Disk) → IsVolume d v.parts (state v.device)
    → text ≡ work_text n v.parts.history.items d (length v.parts.free.free)

-- the text of a plan's run
abbrev pub plan_telling : List (ℕ × List ℕ) → Telling
plan_telling numbers = record {
  whole = λ h after free text. text ≡ run_text numbers h free;
  stopped = λ h text. text ≡ stopped_run_text numbers h;
}
