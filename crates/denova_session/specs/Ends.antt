-- What holds of a call that asks for a run in threads, by what it comes to.
use Rattle.std.specs.Prelude.{◌≡◌, ◌≢◌, ◌⊎◌, ℕ, List, Option, Some, None, Result, Ok, Err}
use Rattle.pm_device.specs.State.{State, Rose}
use Rattle.dn_model.specs.Own.{Print}
use Rattle.dn_model.specs.declared.fault.ImageFault.{ImageFault}
use Rattle.dn_model.specs.declared.op.CountChange.{CountChange}
use Rattle.dn_model.specs.Disk.{Disk}
use Rattle.dn_script.specs.declared.job.Job.{Job}
use Rattle.dn_script.specs.declared.job.Line.{Line}
use Rattle.dn_script.specs.declared.line.JobForm.TheVariants as forms
use Rattle.dn_script.specs.Formed.{IsJob}
use Rattle.dn_report.specs.Found.{faulty_text}
use Rattle.denova_words.specs.Words.{command_of}
use Rattle.denova_words.specs.declared.words.Command.{Command}
use Rattle.denova_words.specs.declared.words.Command.TheVariants as asked
use Rattle.call_endings.specs.Call.{Input, Call, IsTold}
use Rattle.call_endings.specs.declared.ending.Ending.{Ending}
use Rattle.call_endings.specs.declared.ending.Ending.TheVariants.{
  Done,
  Usage,
  BadLine,
  BadTurn,
  Faulty,
  Stopped,
  Failed,
  Unread,
  NoMemory,
  TooLong,
  Refused,
}
use Rattle.job_texts.specs.Plan.{scripts_in, line_numbers_in}
use Rattle.job_texts.specs.Told.{stopped_run_text}
use Rattle.thread_runs.specs.declared.reading.Readings.{Readings}
use Rattle.thread_texts.specs.Texts.{thread_text}
use Rattle.denova_runs.specs.Runs.{OfOpening, OfSound, HasFault, HasRunPart, StaysOnCourse}
use Rattle.denova_calls.specs.RunEnds.{HasRead, JobEnds}
use Rattle.denova_session.specs.Reads.{reads_of}
use Rattle.denova_session.specs.Counted.{RanCounted}

-- the lines of clients were run in threads, and the text tells the count words before, the history,
-- the changes of count words, what the clients read, and how many pages are free
pub record HasRunThreads (print : Print) (clients : List (ℕ × List Line)) (d : Disk) (s t : State)
    (text : List ℕ) : Type 0 where
  pub words : List ℕ
  pub trace : List CountChange
  pub readings : List Readings
  pub ran : RanCounted print clients d s t words trace readings (λ history after free.
      text ≡ thread_text words (line_numbers_in clients) history trace (reads_of readings) free)

abbrev pub ThreadsEnd : Print → List (ℕ × List Line) → State → State → Ending → Type 0
ThreadsEnd print clients s t (Done text) =
    OfSound print s (λ d. HasRunThreads print clients d s t text.items)
ThreadsEnd print clients s t Usage = ⊥
ThreadsEnd print clients s t (BadLine text) = ⊥
ThreadsEnd print clients s t (BadTurn text) = ⊥
ThreadsEnd print clients s t (Faulty text) =
    (f : ImageFault) × HasFault s t f × (text.items ≡ faulty_text f)
ThreadsEnd print clients s t (Stopped text) = Rose s.faults t.faults × OfOpening print s
    (λ d. HasRunPart print (scripts_in clients) d s t
    (λ h. text.items ≡ stopped_run_text (line_numbers_in clients) h))
ThreadsEnd print clients s t Failed =
    Rose s.faults t.faults × OfOpening print s (StaysOnCourse print s t)
ThreadsEnd print clients s t Unread = ⊥
ThreadsEnd print clients s t NoMemory =
    OfOpening print s (λ d. HasRunPart print (scripts_in clients) d s t (λ h. Unit {0}))
ThreadsEnd print clients s t TooLong = ⊥
ThreadsEnd print clients s t (Refused text) = ⊥

-- a job is read, and then run
pub data SessionEnds (print : Print) (input : Input) (s t : State) (e : Ending) : Type 0 where
  in_job : t ≡ s → JobEnds forms.Run input e → SessionEnds print input s t e
  in_run : (job : Job) → IsJob forms.Run job → HasRead forms.Run input (Ok job)
      → ThreadsEnd print job.clients s t e → SessionEnds print input s t e

-- there was no memory to read the words; or they don't ask for a run in threads; or the job was
-- read and run
pub data Answers (print : Print) (command : Option Command) (input : Input) (s t : State)
    (e : Ending) : Type 0 where
  unread : t ≡ s → e ≡ NoMemory → Answers print command input s t e
  not_asked : (command ≡ Some asked.Run → ⊥) → t ≡ s → e ≡ Usage
      → Answers print command input s t e
  asked_for : command ≡ Some asked.Run → SessionEnds print input s t e
      → Answers print command input s t e

-- what is promised of a call, where the image is made with this fingerprint
pub record Ended (print : Print) (c : Call) : Type 0 where
  pub ending : Ending
  pub answers : Answers print (command_of c.words) c.input c.before c.after ending
  pub told : IsTold c.output c.status ending
