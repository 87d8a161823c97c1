-- What each status of a call tells, and when it comes.
use Rattle.std.specs.Prelude.{
  ◌≡◌,
  ◌⊎◌,
  ℕ,
  ◌*◌,
  List,
  [],
  length,
  Option,
  Some,
  None,
  IsSome,
  Result,
  Ok,
  Err,
}
use Rattle.pm_device.specs.State.{IsSame, Rose}
use Rattle.pm_layout.specs.Geometry.{IsAccepted}
use Rattle.log_entry.specs.Name.{IsLegal}
use Rattle.dn_model.specs.Disk.{Disk}
use Rattle.dn_model.specs.Files.{Files, files}
use Rattle.dn_model.specs.Image.{StandsFor, HasNoFault}
use Rattle.dn_model.specs.Faults.{FaultOf}
use Rattle.dn_model.specs.Own.{Print}
use Rattle.dn_model.specs.declared.fault.ImageFault.{ImageFault}
use Rattle.dn_model.specs.declared.op.Entry.{Entry}
use Rattle.dn_script.specs.Streams.{with_back}
use Rattle.dn_script.specs.Job.{job_of}
use Rattle.dn_script.specs.Formed.{IsJob}
use Rattle.dn_script.specs.declared.job.Job.{Job}
use Rattle.dn_script.specs.declared.job.JobFault.{JobFault}
use Rattle.dn_script.specs.declared.job.JobFault.TheVariants as fault
use Rattle.dn_script.specs.declared.line.JobForm.{JobForm}
use Rattle.dn_script.specs.declared.line.JobForm.TheVariants as forms
use Rattle.dn_report.specs.Report.{
  bad_line_text,
  bad_turn_text,
  usage_text,
  stopped_text,
  read_fault_text,
  no_memory_text,
  too_long_text,
  refused_text,
}
use Rattle.dn_report.specs.Found.{faulty_text}
use Rattle.dn_report.specs.Listing.{ListsFiles, work_text}
use Rattle.dn_report.specs.declared.report.Cause.{Cause}
use Rattle.dn_report.specs.declared.report.Cause.TheVariants.{BadName, NotFound}
use Rattle.denova_words.specs.Words.{command_of}
use Rattle.denova_words.specs.declared.words.Command.{Command}
use Rattle.denova_words.specs.declared.words.Command.TheVariants.{
  Format,
  Apply,
  Replay,
  Check,
  List as ListAll,
  Cat,
  Work,
  Trial,
  Run,
}
use Rattle.call_endings.specs.Call.{Call, TookFront, text_of}
use Rattle.call_endings.specs.declared.ending.Ending.{Ending}
use Rattle.job_runs.specs.declared.plan.Order.{Order}
use Rattle.job_runs.specs.declared.plan.Order.TheVariants.{Alone, InTurns, WithRest}
use Rattle.job_texts.specs.Plan.{scripts_in, line_numbers_in, work_scripts, work_numbers}
use Rattle.job_texts.specs.Told.{run_text, stopped_run_text}
use Rattle.denova_runs.specs.Runs.{
  OfOpening,
  OfSound,
  HasFault,
  HasRun,
  HasRunPart,
  StaysOnCourse,
}
use Rattle.denova_calls.specs.RunEnds.{HasRead}
use Rattle.denova_calls.specs.LookEnds.{HasTried}
use Rattle.denova_calls.specs.Ends.{
  HasFound,
  HasMade,
  IsBeingMade,
  IsCause,
  geometry,
  Answers,
  Ended,
}

-- THE PARTS OF A CALL

abbrev pub Asks : Call → Command → Type 0
Asks c command = command_of c.words ≡ Some command

-- the words give a command of which this holds
abbrev pub AsksFor : Call → (Command → Type 0) → Type 0
AsksFor c P = (command : Command) × Asks c command × P command

-- the device isn't touched, and the sink has taken a text
abbrev pub IsUntouched : Call → Type 0
IsUntouched c = c.after ≡ c.before

abbrev pub Wrote : Call → List ℕ → Type 0
Wrote c text = c.output.has ≡ with_back c.output.had text

-- the form of the job that a command reads
abbrev pub form_of : Command → Option JobForm
form_of (Format pages inodes) = None
form_of Apply = Some forms.Apply
form_of Replay = Some forms.Replay
form_of Check = None
form_of ListAll = None
form_of (Cat name) = None
form_of (Work n) = None
form_of (Trial calls pick) = Some forms.Replay
form_of Run = None

-- the words give a command with a job, and this was read of the source
abbrev pub HasReadJob : Call → Result Job JobFault → Type 0
HasReadJob c read =
    (form : JobForm) × AsksFor c (λ command. form_of command ≡ Some form)
    × HasRead form c.input read

-- the source had a job left, and this is told of it
abbrev pub OfJob : JobForm → Call → (Job → Type 0) → Type 0
OfJob form c P = (job : Job) × IsJob form job × HasRead form c.input (Ok job) × P job

-- STATUS 0

-- a job was run from the disk that the opening words stand for, and this text tells its history
abbrev pub HasRunJob : Print → JobForm → Order → Call → List ℕ → Type 0
HasRunJob print form order c text = OfJob form c
    (λ job. OfSound print c.before
    (λ d. HasRun print order (scripts_in job.clients) job.turns d c.before c.after
    (λ h after free. text ≡ run_text (line_numbers_in job.clients) h free)))

abbrev pub HasWorked : Print → ℕ → Call → List ℕ → Type 0
HasWorked print n c text = OfSound print c.before
    (λ d. HasRun print WithRest (work_scripts n) [] d c.before c.after
    (λ h after free. text ≡ work_text n h after free))

-- the image was mounted, which changes no file, and this holds of the files
abbrev pub HasLooked : Print → Call → (Files → Type 0) → Type 0
HasLooked print c P = OfSound print c.before
    (λ d. P (files d) × StaysOnCourse print c.before c.after d)

-- what was done, and of what the text tells
abbrev pub DoneBy : Print → Call → List ℕ → Command → Type 0
DoneBy print c text (Format pages inodes) = HasMade pages inodes c.before c.after text
DoneBy print c text Apply = HasRunJob print forms.Apply Alone c text
DoneBy print c text Replay = HasRunJob print forms.Replay InTurns c text
DoneBy print c text Check = IsUntouched c × HasFound c.before.now text
DoneBy print c text ListAll = HasLooked print c (λ f. ListsFiles f text)
DoneBy print c text (Cat name) = IsLegal name
    × ((d : Disk) → StandsFor c.before.now d → IsSome (files d name))
    × HasLooked print c (λ f. f name ≡ Some text)
DoneBy print c text (Work n) = HasWorked print n c text
DoneBy print c text (Trial calls pick) = IsUntouched c
    × OfJob forms.Replay c
    (λ job. OfSound print c.before (λ d. HasTried print job calls d c.before text))
DoneBy print c text Run = ⊥

abbrev pub IsDone : Print → Call → Type 0
IsDone print c = (text : List ℕ) × Wrote c text × AsksFor c (DoneBy print c text)

-- STATUS 1: the words give no command, or `run`, which isn't served by this call
abbrev pub IsUsage : Print → Call → Type 0
IsUsage print c = ((command_of c.words ≡ None) ⊎ Asks c Run) × IsUntouched c × Wrote c usage_text

-- STATUS 2: this is the job's first line that is no command
abbrev pub IsBadJob : Print → Call → Type 0
IsBadJob print c = IsUntouched c
    × ((line : ℕ) × HasReadJob c (Err (fault.BadLine line)) × Wrote c (bad_line_text line))

-- STATUS 3: the image has this fault, and the job, if there is one, has none
abbrev pub FaultyBy : Call → ImageFault → Command → Type 0
FaultyBy c f (Format pages inodes) = ⊥
FaultyBy c f Apply = OfJob forms.Apply c (λ job. HasFault c.before c.after f)
FaultyBy c f Replay = OfJob forms.Replay c (λ job. HasFault c.before c.after f)
FaultyBy c f Check = IsUntouched c × FaultOf c.before.now f
FaultyBy c f ListAll = HasFault c.before c.after f
FaultyBy c f (Cat name) = HasFault c.before c.after f
FaultyBy c f (Work n) = HasFault c.before c.after f
FaultyBy c f (Trial calls pick) =
    IsUntouched c × OfJob forms.Replay c (λ job. FaultOf c.before.now f)
FaultyBy c f Run = ⊥

abbrev pub IsFaulty : Print → Call → Type 0
IsFaulty print c = (f : ImageFault) × Wrote c (faulty_text f) × AsksFor c (FaultyBy c f)

-- STATUS 4: the device failed, while a file system was made, while an image was mounted, or in a run

-- a front of a job was run, of which this is told
abbrev pub HasRunOfJob : Print → JobForm → Call → (Job → List Entry → Type 0) → Type 0
HasRunOfJob print form c P = OfJob form c
    (λ job. OfOpening print c.before
    (λ d. HasRunPart print (scripts_in job.clients) d c.before c.after (P job)))

abbrev pub HasWorkedPart : Print → ℕ → Call → (List Entry → Type 0) → Type 0
HasWorkedPart print n c P = OfOpening print c.before
    (λ d. HasRunPart print (work_scripts n) d c.before c.after P)

abbrev pub StoppedBy : Print → Call → List ℕ → Command → Type 0
StoppedBy print c text (Format pages inodes) =
    (text ≡ stopped_text) × IsBeingMade pages inodes c.before c.after
StoppedBy print c text Apply =
    HasRunOfJob print forms.Apply c (λ job h. text ≡ stopped_run_text (line_numbers_in job.clients) h)
StoppedBy print c text Replay =
    HasRunOfJob print forms.Replay c (λ job h. text ≡ stopped_run_text (line_numbers_in job.clients) h)
StoppedBy print c text Check = ⊥
StoppedBy print c text ListAll =
    (text ≡ stopped_text) × OfOpening print c.before (StaysOnCourse print c.before c.after)
StoppedBy print c text (Cat name) =
    (text ≡ stopped_text) × OfOpening print c.before (StaysOnCourse print c.before c.after)
StoppedBy print c text (Work n) =
    HasWorkedPart print n c (λ h. text ≡ stopped_run_text (work_numbers n) h)
StoppedBy print c text (Trial calls pick) = ⊥
StoppedBy print c text Run = ⊥

abbrev pub IsStopped : Print → Call → Type 0
IsStopped print c = Rose c.before.faults c.after.faults
    × ((text : List ℕ) × Wrote c text × AsksFor c (StoppedBy print c text))

-- STATUS 5: the source of the job failed
abbrev pub IsUnread : Print → Call → Type 0
IsUnread print c = IsUntouched c × Rose c.input.faults_before c.input.faults_after
    × ((form : JobForm) × AsksFor c (λ command. form_of command ≡ Some form))
    × Wrote c read_fault_text

-- STATUS 6: a write of the text of an ending failed, and what that ending tells holds
abbrev pub IsUnwritten : Print → Call → Type 0
IsUnwritten print c =
    Rose c.output.faults_before c.output.faults_after
    × ((e : Ending) × Answers print (command_of c.words) c.input c.before c.after e
    × TookFront (text_of e) c.output)

-- STATUS 7: memory ran out, before anything was done or later
abbrev pub LackedBy : Print → Call → Command → Type 0
LackedBy print c (Format pages inodes) = IsSame c.before c.after
LackedBy print c Apply = HasRunOfJob print forms.Apply c (λ job h. Unit {0})
LackedBy print c Replay = HasRunOfJob print forms.Replay c (λ job h. Unit {0})
LackedBy print c Check = IsUntouched c
LackedBy print c ListAll = OfOpening print c.before (StaysOnCourse print c.before c.after)
LackedBy print c (Cat name) = OfOpening print c.before (StaysOnCourse print c.before c.after)
LackedBy print c (Work n) = HasWorkedPart print n c (λ h. Unit {0})
LackedBy print c (Trial calls pick) = IsUntouched c
LackedBy print c Run = ⊥

abbrev pub IsWithoutMemory : Print → Call → Type 0
IsWithoutMemory print c =
    Wrote c no_memory_text × (IsUntouched c ⊎ AsksFor c (LackedBy print c))

-- STATUS 8: the job passes a limit
abbrev pub IsTooLong : Print → Call → Type 0
IsTooLong print c = IsUntouched c × HasReadJob c (Err fault.TooLong) × Wrote c too_long_text

-- STATUS 9: the schedule has this number, which is no actor of the job
abbrev pub IsBadTurn : Print → Call → Type 0
IsBadTurn print c = IsUntouched c
    × ((number : ℕ) × HasReadJob c (Err (fault.BadTurn number)) × Wrote c (bad_turn_text number))

-- STATUS 11: the numbers or the size of a file system are refused, or a name
abbrev pub LacksFile : List ℕ → List ℕ → Cause → Type 0
LacksFile w name cause = ((IsLegal name → ⊥) × (cause ≡ BadName))
    ⊎ (IsLegal name × ((d : Disk) → StandsFor w d → files d name ≡ None) × (cause ≡ NotFound))

abbrev pub RefusedBy : Print → Call → Cause → Command → Type 0
RefusedBy print c cause (Format pages inodes) =
    IsSame c.before c.after × IsCause pages inodes c.before.now cause
RefusedBy print c cause Apply = ⊥
RefusedBy print c cause Replay = ⊥
RefusedBy print c cause Check = ⊥
RefusedBy print c cause ListAll = ⊥
RefusedBy print c cause (Cat name) = LacksFile c.before.now name cause
    × OfSound print c.before (StaysOnCourse print c.before c.after)
RefusedBy print c cause (Work n) = ⊥
RefusedBy print c cause (Trial calls pick) = ⊥
RefusedBy print c cause Run = ⊥

abbrev pub IsRefused : Print → Call → Type 0
IsRefused print c =
    (cause : Cause) × Wrote c (refused_text cause) × AsksFor c (RefusedBy print c cause)

-- WHAT HOLDS AT A STATUS, AND WHEN IT COMES

-- what holds of a call that ended with a status
abbrev pub At : ℕ → (Print → Call → Type 0) → Type 0
At n P = (print : Print) (c : Call) → Ended print c → c.status ≡ n → P print c

-- a call of which this holds ends with one of two statuses
abbrev pub EndsAt : ℕ → ℕ → (Call → Type 0) → Type 0
EndsAt m n P =
    (print : Print) (c : Call) → Ended print c → P c → (c.status ≡ m) ⊎ (c.status ≡ n)

abbrev pub SourceIsWell : Call → Type 0
SourceIsWell c = Rose c.input.faults_before c.input.faults_after → ⊥

abbrev pub DeviceIsWell : Call → Type 0
DeviceIsWell c = Rose c.before.faults c.after.faults → ⊥

abbrev pub SinkIsWell : Call → Type 0
SinkIsWell c = Rose c.output.faults_before c.output.faults_after → ⊥

-- the source tells the text that it has left, and this is what the text is
abbrev pub TellsJob : JobForm → Call → (Result Job JobFault → Type 0) → Type 0
TellsJob form c P = (text : List ℕ) × (c.input.left ≡ Some text) × P (job_of form text)
    × SourceIsWell c

-- the words give a command with a job of this fault, and nothing failed
abbrev pub HasJobFault : JobFault → Call → Type 0
HasJobFault f c = (form : JobForm) × AsksFor c (λ command. form_of command ≡ Some form)
    × TellsJob form c (λ read. read ≡ Err f) × SinkIsWell c

-- a job without a fault
abbrev pub TellsGoodJob : JobForm → Call → Type 0
TellsGoodJob form c = TellsJob form c (λ read. (job : Job) × (read ≡ Ok job))

-- a command of an image, with a job without a fault if it has one
abbrev pub IsReadyFor : Call → Command → Type 0
IsReadyFor c (Format pages inodes) = ⊥
IsReadyFor c Apply = TellsGoodJob forms.Apply c
IsReadyFor c Replay = TellsGoodJob forms.Replay c
IsReadyFor c Check = Unit {0}
IsReadyFor c ListAll = Unit {0}
IsReadyFor c (Cat name) = Unit {0}
IsReadyFor c (Work n) = Unit {0}
IsReadyFor c (Trial calls pick) = TellsGoodJob forms.Replay c
IsReadyFor c Run = ⊥

-- such a command is asked for, and nothing failed
pub record IsReady (c : Call) : Type 0 where
  pub asks : AsksFor c (IsReadyFor c)
  pub device : DeviceIsWell c
  pub sink : SinkIsWell c

-- the contents of a file are asked for that some name, or none, leads to
abbrev pub AsksForFile : Call → Type 0
AsksForFile c = (name : List ℕ) × Asks c (Cat name) × IsLegal name
    × ((d : Disk) → StandsFor c.before.now d → IsSome (files d name))

abbrev pub IsNoFile : List ℕ → List ℕ → Type 0
IsNoFile w name =
    (IsLegal name → ⊥) ⊎ ((d : Disk) → StandsFor w d → files d name ≡ None)

abbrev pub AsksForNoFile : Call → Type 0
AsksForNoFile c = (name : List ℕ) × Asks c (Cat name) × IsNoFile c.before.now name

-- what is asked for was done, unless there is no such file or memory ran out
abbrev pub IsServed : Call → Type 0
IsServed c = (c.status ≡ 0) ⊎ ((c.status ≡ 7) ⊎ ((c.status ≡ 11) × AsksForNoFile c))

abbrev pub ServesReady : Type 0
ServesReady =
    (print : Print) (c : Call) → Ended print c → IsReady c → HasNoFault c.before.now → IsServed c

-- the image has no fault, and neither the device nor the sink fails
abbrev pub IsWell : Call → Type 0
IsWell c = HasNoFault c.before.now × DeviceIsWell c × SinkIsWell c

-- a file system of accepted numbers is asked for, in a device of its size, and nothing failed
abbrev pub IsMakable : Call → Type 0
IsMakable c = ((pages : ℕ) × (inodes : ℕ) × Asks c (Format pages inodes)
    × IsAccepted (geometry pages inodes) × (length c.before.now ≡ 512 * pages))
    × DeviceIsWell c × SinkIsWell c

-- a file system is asked for, there is a cause to refuse it, and the sink didn't fail
abbrev pub IsRefusable : Call → Type 0
IsRefusable c = ((pages : ℕ) × (inodes : ℕ) × Asks c (Format pages inodes)
    × ((cause : Cause) × IsCause pages inodes c.before.now cause))
    × SinkIsWell c
