-- What holds of a call, by its command and by what it comes to.
use Rattle.std.specs.Prelude.{
  ◌≡◌,
  ◌≢◌,
  ℕ,
  ◌-◌,
  ◌*◌,
  ◌<◌,
  ◌≤◌,
  Bool,
  List,
  length,
  map,
  Option,
  Some,
  None,
}
use Rattle.pm_device.specs.State.{State, IsSame, Rose}
use Rattle.pm_device.specs.Settled.{LeavesOnly}
use Rattle.pm_layout.specs.declared.Geometry.{Geometry}
use Rattle.pm_layout.specs.Geometry.{IsAccepted, LacksRoom, first_data}
use Rattle.dn_model.specs.Disk.{Disk}
use Rattle.dn_model.specs.Own.{Print}
use Rattle.dn_model.specs.Image.{StandsFor}
use Rattle.dn_model.specs.Faults.{FaultOf, HasFree}
use Rattle.dn_model.specs.Numbers.{AreNumbersOf}
use Rattle.dn_model.specs.Empty.{empty_disk, IsFormatting, IsFormatted}
use Rattle.dn_model.specs.declared.fault.ImageFault.{ImageFault}
use Rattle.fact_scan.specs.Seen.{as_row}
use Rattle.fact_scan.specs.declared.row.Row.{Row}
use Rattle.dn_script.specs.declared.line.JobForm.TheVariants as forms
use Rattle.dn_report.specs.Report.{formatted_text, refused_text}
use Rattle.dn_report.specs.Found.{faulty_text, found_text}
use Rattle.dn_report.specs.declared.report.Cause.{Cause}
use Rattle.dn_report.specs.declared.report.Cause.TheVariants.{
  TooFewPages,
  TooManyPages,
  BadInodes,
  WrongSize,
  BadName,
  NotFound,
}
use Rattle.denova_words.specs.Words.{command_of}
use Rattle.denova_words.specs.declared.words.Command.{Command}
use Rattle.denova_words.specs.declared.words.Command.TheVariants as asked
use Rattle.call_endings.specs.Call.{Input, Call, IsTold}
use Rattle.call_endings.specs.declared.ending.Ending.{Ending}
use Rattle.call_endings.specs.declared.ending.Ending.TheVariants.{
  Done,
  Usage,
  Faulty,
  Failed,
  NoMemory,
  Refused,
}
use Rattle.job_runs.specs.declared.plan.Order.TheVariants.{Alone, InTurns}
use Rattle.denova_calls.specs.RunEnds.{ScriptEnds, WorkEnds}
use Rattle.denova_calls.specs.LookEnds.{ListEnds, CatEnds, TrialEnds}

-- CHECK

-- words w have no fault, and the text tells the numbers and rows of the disk that they stand for
pub record HasFound (w text : List ℕ) : Type 0 where
  pub disk : Disk
  pub stands_for : StandsFor w disk
  pub files : ℕ
  pub dying : ℕ
  pub rows : List Row
  pub mapped : ℕ
  pub free : ℕ
  pub exact : Bool
  pub numbers : AreNumbersOf disk files dying (map as_row rows) mapped free exact
  pub text_is : text ≡ found_text files dying rows mapped free exact

abbrev pub CheckEnds : List ℕ → Ending → Type 0
CheckEnds w (Done text) = HasFound w text.items
CheckEnds w (Faulty text) = (f : ImageFault) × FaultOf w f × (text.items ≡ faulty_text f)
CheckEnds w NoMemory = Unit {0}
CheckEnds w e = ⊥

-- FORMAT

abbrev pub geometry : ℕ → ℕ → Geometry
geometry pages inodes = record { pages = pages; inodes = inodes }

-- why no file system of these numbers is made in these words
abbrev pub IsCause : ℕ → ℕ → List ℕ → Cause → Type 0
IsCause pages inodes w TooFewPages = pages < 64
IsCause pages inodes w TooManyPages = 65536 < pages
IsCause pages inodes w BadInodes = (64 ≤ pages) × (pages ≤ 65536) × LacksRoom pages inodes
IsCause pages inodes w (WrongSize n) =
    IsAccepted (geometry pages inodes) × (length w ≢ 512 * pages) × (n ≡ length w)
IsCause pages inodes w BadName = ⊥
IsCause pages inodes w NotFound = ⊥

-- on the way a crash leaves the words as they were, or no image, or the file system without files
pub record IsBeingMade (pages inodes : ℕ) (s t : State) : Type 0 where
  pub accepted : IsAccepted (geometry pages inodes)
  pub size : length s.now ≡ 512 * pages
  pub images : LeavesOnly s t (IsFormatting (geometry pages inodes) s.now)

-- in the end that one stands, and all pages of its data area are free; the text tells their number
pub record HasMade (pages inodes : ℕ) (s t : State) (text : List ℕ) : Type 0 where
  pub made : IsBeingMade pages inodes s t
  pub formatted : IsFormatted (geometry pages inodes) s.now t
  pub free : ℕ
  pub free_is : free ≡ pages - first_data (geometry pages inodes)
  pub has_free : HasFree (empty_disk (geometry pages inodes)) free
  pub text_is : text ≡ formatted_text pages inodes free

abbrev pub MakeEnds : ℕ → ℕ → State → State → Ending → Type 0
MakeEnds pages inodes s t (Done text) = HasMade pages inodes s t text.items
MakeEnds pages inodes s t Failed = IsBeingMade pages inodes s t × Rose s.faults t.faults
MakeEnds pages inodes s t (Refused text) =
    IsSame s t
    × ((cause : Cause) × IsCause pages inodes s.now cause × (text.items ≡ refused_text cause))
MakeEnds pages inodes s t NoMemory = IsSame s t
MakeEnds pages inodes s t e = ⊥

-- THE CALL

-- `run` needs threads, which this call doesn't have: it is answered by the usage
abbrev pub CommandEnds : Print → Command → Input → State → State → Ending → Type 0
CommandEnds print asked.Apply input s t e = ScriptEnds print forms.Apply Alone input s t e
CommandEnds print asked.Replay input s t e = ScriptEnds print forms.Replay InTurns input s t e
CommandEnds print (asked.Work n) input s t e = WorkEnds print n s t e
CommandEnds print asked.List input s t e = ListEnds print s t e
CommandEnds print (asked.Cat name) input s t e = CatEnds print name s t e
CommandEnds print (asked.Trial calls pick) input s t e = TrialEnds print calls input s t e
CommandEnds print asked.Check input s t e = (t ≡ s) × CheckEnds s.now e
CommandEnds print (asked.Format pages inodes) input s t e = MakeEnds pages inodes s t e
CommandEnds print asked.Run input s t e = (t ≡ s) × (e ≡ Usage)

-- there was no memory to read the words; or they give no command; or their command was obeyed
pub data Answers (print : Print) (asked : Option Command) (input : Input) (s t : State) (e : Ending)
    : Type 0 where
  unread : t ≡ s → e ≡ NoMemory → Answers print asked input s t e
  no_command : asked ≡ None → t ≡ s → e ≡ Usage → Answers print asked input s t e
  obeyed : (command : Command) → asked ≡ Some command → CommandEnds print command input s t e
      → Answers print asked input s t e

-- what the program promises of a call, where the image is made with this fingerprint
pub record Ended (print : Print) (c : Call) : Type 0 where
  pub ending : Ending
  pub answers : Answers print (command_of c.words) c.input c.before c.after ending
  pub told : IsTold c.output c.status ending
