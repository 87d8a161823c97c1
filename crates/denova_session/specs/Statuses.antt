-- What each status of a call that asks for a run in threads tells, and when it comes.
use Rattle.std.specs.Prelude.{◌≡◌, ◌⊎◌, ℕ, List, Some, Result, Ok, Err}
use Rattle.pm_device.specs.State.{Rose}
use Rattle.dn_model.specs.Image.{HasNoFault}
use Rattle.dn_model.specs.Faults.{FaultOf}
use Rattle.dn_model.specs.Own.{Print}
use Rattle.dn_model.specs.declared.fault.ImageFault.{ImageFault}
use Rattle.dn_model.specs.declared.op.Entry.{Entry}
use Rattle.dn_script.specs.declared.job.Job.{Job}
use Rattle.dn_script.specs.declared.job.JobFault.{JobFault}
use Rattle.dn_script.specs.declared.job.JobFault.TheVariants as fault
use Rattle.dn_script.specs.declared.line.JobForm.TheVariants as forms
use Rattle.dn_report.specs.Report.{
  bad_line_text,
  bad_turn_text,
  usage_text,
  read_fault_text,
  no_memory_text,
  too_long_text,
}
use Rattle.dn_report.specs.Found.{faulty_text}
use Rattle.denova_words.specs.declared.words.Command.TheVariants.{Run}
use Rattle.call_endings.specs.Call.{Call, TookFront, text_of}
use Rattle.call_endings.specs.declared.ending.Ending.{Ending}
use Rattle.denova_words.specs.Words.{command_of}
use Rattle.job_texts.specs.Plan.{scripts_in, line_numbers_in}
use Rattle.job_texts.specs.Told.{stopped_run_text}
use Rattle.denova_runs.specs.Runs.{OfOpening, OfSound, HasFault, HasRunPart}
use Rattle.denova_calls.specs.RunEnds.{HasRead}
use Rattle.denova_calls.specs.Statuses.{
  Asks,
  IsUntouched,
  Wrote,
  OfJob,
  DeviceIsWell,
  SinkIsWell,
  TellsJob,
  TellsGoodJob,
}
use Rattle.denova_session.specs.Ends.{Answers, Ended, HasRunThreads}

-- STATUS 0: the lines of a job's clients were run in threads, of which the text tells
abbrev pub IsDone : Print → Call → Type 0
IsDone print c = Asks c Run × ((text : List ℕ) × Wrote c text
    × OfJob forms.Run c (λ job. OfSound print c.before
    (λ d. HasRunThreads print job.clients d c.before c.after text)))

-- STATUS 1: the words don't ask for a run in threads
abbrev pub IsUsage : Print → Call → Type 0
IsUsage print c = (Asks c Run → ⊥) × IsUntouched c × Wrote c usage_text

-- what was read of the source is this fault of a job, for which the text was written
abbrev pub HasJobFault : Call → JobFault → List ℕ → Type 0
HasJobFault c f text =
    Asks c Run × IsUntouched c × HasRead forms.Run c.input (Err f) × Wrote c text

-- STATUS 2: this is the job's first line that is no command
abbrev pub IsBadJob : Print → Call → Type 0
IsBadJob print c = (line : ℕ) × HasJobFault c (fault.BadLine line) (bad_line_text line)

-- STATUS 3: the image has this fault, and the job has none
abbrev pub IsFaulty : Print → Call → Type 0
IsFaulty print c = Asks c Run × ((f : ImageFault) × Wrote c (faulty_text f)
    × OfJob forms.Run c (λ job. HasFault c.before c.after f))

-- a front of a job was run, of which this is told
abbrev pub HasRunOfJob : Print → Call → (Job → List Entry → Type 0) → Type 0
HasRunOfJob print c P = Asks c Run × OfJob forms.Run c
    (λ job. OfOpening print c.before
    (λ d. HasRunPart print (scripts_in job.clients) d c.before c.after (P job)))

-- STATUS 4: the device failed, while the image was mounted or later
abbrev pub IsStopped : Print → Call → Type 0
IsStopped print c = Rose c.before.faults c.after.faults
    × ((text : List ℕ) × Wrote c text × HasRunOfJob print c
    (λ job h. text ≡ stopped_run_text (line_numbers_in job.clients) h))

-- STATUS 5: the source of the job failed
abbrev pub IsUnread : Print → Call → Type 0
IsUnread print c = Asks c Run × IsUntouched c
    × Rose c.input.faults_before c.input.faults_after × Wrote c read_fault_text

-- STATUS 6: a write of the text of an ending failed, and what that ending tells holds
abbrev pub IsUnwritten : Print → Call → Type 0
IsUnwritten print c =
    Rose c.output.faults_before c.output.faults_after
    × ((e : Ending) × Answers print (command_of c.words) c.input c.before c.after e
    × TookFront (text_of e) c.output)

-- STATUS 7: memory ran out, before anything was done or later
abbrev pub IsWithoutMemory : Print → Call → Type 0
IsWithoutMemory print c = Wrote c no_memory_text
    × (IsUntouched c ⊎ HasRunOfJob print c (λ job h. Unit {0}))

-- STATUS 8: the job passes a limit
abbrev pub IsTooLong : Print → Call → Type 0
IsTooLong print c = HasJobFault c fault.TooLong too_long_text

-- WHAT HOLDS AT A STATUS, AND WHEN IT COMES

-- what holds of a call that ended with a status
abbrev pub At : ℕ → (Print → Call → Type 0) → Type 0
At n P = (print : Print) (c : Call) → Ended print c → c.status ≡ n → P print c

-- a call of which this holds ends with one of two statuses
abbrev pub EndsAt : ℕ → ℕ → (Call → Type 0) → Type 0
EndsAt m n P =
    (print : Print) (c : Call) → Ended print c → P c → (c.status ≡ m) ⊎ (c.status ≡ n)

-- a run in threads is asked for, of a job with this fault, and no take or put fails
abbrev pub TellsFault : JobFault → Call → Type 0
TellsFault f c = Asks c Run × TellsJob forms.Run c (λ read. read ≡ Err f) × SinkIsWell c

-- it is asked for, of a job without a fault, and nothing fails
pub record IsReady (c : Call) : Type 0 where
  pub asks : Asks c Run
  pub job : TellsGoodJob forms.Run c
  pub device : DeviceIsWell c
  pub sink : SinkIsWell c
