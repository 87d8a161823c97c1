-- What a call comes to that runs a job, or generated work, on the image of a device.
use Rattle.std.specs.Prelude.{◌≡◌, ℕ, List, [], IfSome, Result, Ok, Err}
use Rattle.pm_device.specs.State.{State, Rose}
use Rattle.dn_model.specs.Disk.{Disk}
use Rattle.dn_model.specs.Own.{Print}
use Rattle.dn_model.specs.declared.op.Op.{Op}
use Rattle.dn_model.specs.declared.op.Entry.{Entry}
use Rattle.dn_model.specs.declared.fault.ImageFault.{ImageFault}
use Rattle.dn_script.specs.Job.{job_of}
use Rattle.dn_script.specs.Formed.{IsJob}
use Rattle.dn_script.specs.declared.job.Job.{Job}
use Rattle.dn_script.specs.declared.job.JobFault.{JobFault}
use Rattle.dn_script.specs.declared.job.JobFault.TheVariants as fault
use Rattle.dn_script.specs.declared.line.JobForm.{JobForm}
use Rattle.dn_report.specs.Report.{bad_line_text, bad_turn_text}
use Rattle.dn_report.specs.Found.{faulty_text}
use Rattle.dn_report.specs.Listing.{work_text}
use Rattle.call_endings.specs.Call.{Input}
use Rattle.call_endings.specs.declared.ending.Ending.{Ending}
use Rattle.call_endings.specs.declared.ending.Ending.TheVariants.{
  Done,
  Usage,
  BadLine,
  BadTurn,
  Faulty,
  Stopped,
  Failed,
  Unread,
  NoMemory,
  TooLong,
  Refused,
}
use Rattle.job_runs.specs.declared.plan.Order.{Order}
use Rattle.job_runs.specs.declared.plan.Order.TheVariants.{WithRest}
use Rattle.job_texts.specs.Plan.{scripts_in, line_numbers_in, work_scripts, work_numbers}
use Rattle.job_texts.specs.Told.{run_text, stopped_run_text}
use Rattle.denova_runs.specs.Runs.{
  OfOpening,
  OfSound,
  HasFault,
  HasRun,
  HasRunPart,
  StaysOnCourse,
}

-- THE JOB

-- a source had a text left of which this is read, where it tells what it had
abbrev pub HasRead : JobForm → Input → Result Job JobFault → Type 0
HasRead form input read = IfSome input.left (λ text. job_of form text ≡ read)

-- the job has a fault, or wasn't read
abbrev pub JobEnds : JobForm → Input → Ending → Type 0
JobEnds form input (Done text) = ⊥
JobEnds form input Usage = ⊥
JobEnds form input (BadLine text) = (line : ℕ) × HasRead form input (Err (fault.BadLine line))
    × (text.items ≡ bad_line_text line)
JobEnds form input (BadTurn text) = (number : ℕ)
    × HasRead form input (Err (fault.BadTurn number)) × (text.items ≡ bad_turn_text number)
JobEnds form input (Faulty text) = ⊥
JobEnds form input (Stopped text) = ⊥
JobEnds form input Failed = ⊥
JobEnds form input Unread = Rose input.faults_before input.faults_after
JobEnds form input NoMemory = Unit {0}
JobEnds form input TooLong = HasRead form input (Err fault.TooLong)
JobEnds form input (Refused text) = ⊥

-- THE RUN

-- the text of a run, of its history, of the disk that is left and of the number of free pages; and
-- that of one that the device stopped
pub record Telling : Type 1 where
  pub whole : List Entry → Disk → ℕ → List ℕ → Type 0
  pub stopped : List Entry → List ℕ → Type 0

abbrev pub RunEnds : Print → Order → List (ℕ × List Op) → List ℕ → Telling → State → State
    → Ending → Type 0
RunEnds print order scripts turns tells s t (Done text) = OfSound print s
    (λ d. HasRun print order scripts turns d s t (λ h after free. tells.whole h after free text.items))
RunEnds print order scripts turns tells s t Usage = ⊥
RunEnds print order scripts turns tells s t (BadLine text) = ⊥
RunEnds print order scripts turns tells s t (BadTurn text) = ⊥
RunEnds print order scripts turns tells s t (Faulty text) =
    (f : ImageFault) × HasFault s t f × (text.items ≡ faulty_text f)
RunEnds print order scripts turns tells s t (Stopped text) = Rose s.faults t.faults
    × OfOpening print s (λ d. HasRunPart print scripts d s t (λ h. tells.stopped h text.items))
RunEnds print order scripts turns tells s t Failed =
    Rose s.faults t.faults × OfOpening print s (StaysOnCourse print s t)
RunEnds print order scripts turns tells s t Unread = ⊥
RunEnds print order scripts turns tells s t NoMemory =
    OfOpening print s (λ d. HasRunPart print scripts d s t (λ h. Unit {0}))
RunEnds print order scripts turns tells s t TooLong = ⊥
RunEnds print order scripts turns tells s t (Refused text) = ⊥

-- the text of a job's run
abbrev pub job_telling : Job → Telling
job_telling job = record {
  whole = λ h after free text. text ≡ run_text (line_numbers_in job.clients) h free;
  stopped = λ h text. text ≡ stopped_run_text (line_numbers_in job.clients) h;
}

-- a job is read, and then run
pub data ScriptEnds (print : Print) (form : JobForm) (order : Order) (input : Input) (s t : State)
    (e : Ending) : Type 0 where
  in_job : t ≡ s → JobEnds form input e → ScriptEnds print form order input s t e
  in_run : (job : Job) → IsJob form job → HasRead form input (Ok job)
      → RunEnds print order (scripts_in job.clients) job.turns (job_telling job) s t e
      → ScriptEnds print form order input s t e

-- generated work
abbrev pub work_telling : ℕ → Telling
work_telling n = record {
  whole = λ h after free text. text ≡ work_text n h after free;
  stopped = λ h text. text ≡ stopped_run_text (work_numbers n) h;
}

abbrev pub WorkEnds : Print → ℕ → State → State → Ending → Type 0
WorkEnds print n s t e = RunEnds print WithRest (work_scripts n) [] (work_telling n) s t e
