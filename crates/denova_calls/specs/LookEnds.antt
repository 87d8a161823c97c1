-- What a call comes to that mounts an image and reads its files, and a trial of a job on a copy.
use Rattle.std.specs.Prelude.{
  ◌≡◌,
  ◌⊎◌,
  ℕ,
  ◌≤◌,
  List,
  length,
  take,
  Some,
  None,
  IsSome,
  Ok,
}
use Rattle.pm_device.specs.State.{State, Rose}
use Rattle.log_entry.specs.Name.{IsLegal}
use Rattle.dn_model.specs.Disk.{Disk}
use Rattle.dn_model.specs.Files.{Files, files}
use Rattle.dn_model.specs.Image.{StandsFor}
use Rattle.dn_model.specs.Faults.{FaultOf}
use Rattle.dn_model.specs.Own.{Print}
use Rattle.dn_model.specs.History.{Legal}
use Rattle.dn_model.specs.declared.op.Entry.{Entry}
use Rattle.dn_model.specs.declared.fault.ImageFault.{ImageFault}
use Rattle.dn_script.specs.Formed.{IsJob}
use Rattle.dn_script.specs.declared.job.Job.{Job}
use Rattle.dn_script.specs.declared.line.JobForm.TheVariants.{Replay}
use Rattle.dn_report.specs.Report.{refused_text}
use Rattle.dn_report.specs.Found.{faulty_text}
use Rattle.dn_report.specs.Listing.{ListsFiles}
use Rattle.dn_report.specs.declared.report.Cause.TheVariants.{BadName, NotFound}
use Rattle.call_endings.specs.Call.{Input}
use Rattle.call_endings.specs.declared.ending.Ending.{Ending}
use Rattle.call_endings.specs.declared.ending.Ending.TheVariants.{
  Done,
  Usage,
  BadLine,
  BadTurn,
  Faulty,
  Stopped,
  Failed,
  Unread,
  NoMemory,
  TooLong,
  Refused,
}
use Rattle.job_runs.specs.declared.plan.Order.TheVariants.{InTurns}
use Rattle.job_texts.specs.Plan.{scripts_in}
use Rattle.denova_runs.specs.Runs.{OfOpening, OfSound, HasFault, HasRun, StaysOnCourse}
use Rattle.denova_calls.specs.RunEnds.{HasRead, JobEnds}

-- The image was mounted, and this is read of its files. A mount changes no file.
abbrev pub LookEnds : Print → (Files → List ℕ → Type 0) → State → State → Ending → Type 0
LookEnds print reads s t (Done text) =
    OfSound print s (λ d. reads (files d) text.items × StaysOnCourse print s t d)
LookEnds print reads s t Usage = ⊥
LookEnds print reads s t (BadLine text) = ⊥
LookEnds print reads s t (BadTurn text) = ⊥
LookEnds print reads s t (Faulty text) =
    (f : ImageFault) × HasFault s t f × (text.items ≡ faulty_text f)
LookEnds print reads s t (Stopped text) = ⊥
LookEnds print reads s t Failed =
    Rose s.faults t.faults × OfOpening print s (StaysOnCourse print s t)
LookEnds print reads s t Unread = ⊥
LookEnds print reads s t NoMemory = OfOpening print s (StaysOnCourse print s t)
LookEnds print reads s t TooLong = ⊥
LookEnds print reads s t (Refused text) = ⊥

-- all files are listed
abbrev pub ListEnds : Print → State → State → Ending → Type 0
ListEnds print s t e = LookEnds print ListsFiles s t e

-- a name that no file can have, or that none has
abbrev pub IsBadName : Print → List ℕ → State → State → List ℕ → Type 0
IsBadName print name s t text = (IsLegal name → ⊥) × OfSound print s (StaysOnCourse print s t)
    × (text ≡ refused_text BadName)

abbrev pub IsNotFound : Print → List ℕ → State → State → List ℕ → Type 0
IsNotFound print name s t text = IsLegal name
    × ((d : Disk) → StandsFor s.now d → files d name ≡ None)
    × OfSound print s (StaysOnCourse print s t) × (text ≡ refused_text NotFound)

-- a file's bytes, or why there are none
abbrev pub CatEnds : Print → List ℕ → State → State → Ending → Type 0
CatEnds print name s t (Done text) = IsLegal name
    × ((d : Disk) → StandsFor s.now d → IsSome (files d name))
    × LookEnds print (λ f bytes. f name ≡ Some bytes) s t (Done text)
CatEnds print name s t Usage = ⊥
CatEnds print name s t (BadLine text) = ⊥
CatEnds print name s t (BadTurn text) = ⊥
CatEnds print name s t (Faulty text) = LookEnds print (λ f bytes. Unit {0}) s t (Faulty text)
CatEnds print name s t (Stopped text) = ⊥
CatEnds print name s t Failed = LookEnds print (λ f bytes. Unit {0}) s t Failed
CatEnds print name s t Unread = ⊥
CatEnds print name s t NoMemory = LookEnds print (λ f bytes. Unit {0}) s t NoMemory
CatEnds print name s t TooLong = ⊥
CatEnds print name s t (Refused text) =
    IsBadName print name s t text.items ⊎ IsNotFound print name s t text.items

-- The words of a copy were run on, and the files after a front of the history are listed: the empty
-- one where the crash comes before all calls of the device, the whole one where it comes after all.
pub record ListsFront (calls : ℕ) (old : Files) (history : List Entry) (text : List ℕ) : Type 0 where
  pub f : Files
  pub k : ℕ
  pub some : k ≤ length history
  pub none_run : calls ≡ 0 → k ≡ 0
  pub all_run : calls ≡ 18446744073709551615 → k ≡ length history
  pub legal : Legal old (take k history) f
  pub lists : ListsFiles f text

pub record HasTried (print : Print) (job : Job) (calls : ℕ) (d : Disk) (s : State)
    (text : List ℕ) : Type 0 where
  pub first : State
  pub last : State
  pub copied : first.now ≡ s.now
  pub run : HasRun print InTurns (scripts_in job.clients) job.turns d first last
      (λ history after free. ListsFront calls (files d) history text)

abbrev pub TryEnds : Print → Job → ℕ → State → Ending → Type 0
TryEnds print job calls s (Done text) =
    OfSound print s (λ d. HasTried print job calls d s text.items)
TryEnds print job calls s Usage = ⊥
TryEnds print job calls s (BadLine text) = ⊥
TryEnds print job calls s (BadTurn text) = ⊥
TryEnds print job calls s (Faulty text) =
    (f : ImageFault) × FaultOf s.now f × (text.items ≡ faulty_text f)
TryEnds print job calls s (Stopped text) = ⊥
TryEnds print job calls s Failed = ⊥
TryEnds print job calls s Unread = ⊥
TryEnds print job calls s NoMemory = Unit {0}
TryEnds print job calls s TooLong = ⊥
TryEnds print job calls s (Refused text) = ⊥

-- the device isn't stored to
pub data TrialEnds (print : Print) (calls : ℕ) (input : Input) (s t : State) (e : Ending) : Type 0
  where
    in_job : t ≡ s → JobEnds Replay input e → TrialEnds print calls input s t e
    in_trial : (job : Job) → t ≡ s → IsJob Replay job → HasRead Replay input (Ok job)
        → TryEnds print job calls s e → TrialEnds print calls input s t e
