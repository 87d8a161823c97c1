-- What each thread does with its pass, and what its pass knows then.
use Rattle.std.specs.Prelude.{◌≡◌, ◌⊎◌, ℕ, ◌+◌, ◌-◌, ◌<◌, ◌≤◌, ◌==◌, if◌then◌else◌, Bool, true, false}
use Rattle.std.specs.Prelude.{List, [], ◌∷◌, ◌++◌, length, get_or, slice_get, Option, Some, None, Result, Ok, Err, Vec}
use Rattle.std.specs.declared.alloc.Global.{Global}
use Rattle.dn_model.specs.declared.op.Op.{Op}
use Rattle.dn_script.specs.declared.job.Command.{Command}
use Rattle.dn_script.specs.declared.job.Line.{Line}
use Rattle.count_board.specs.declared.told.Hand.{Hand}
use Rattle.count_board.specs.declared.told.Hand.TheVariants.{Fly}
use Rattle.count_board.specs.declared.told.Mark.{Mark}
use Rattle.count_board.specs.declared.view.Account.{Account}
use Rattle.count_board.specs.declared.board.Board.{Board}
use Rattle.count_board.specs.declared.pass.Pass.{Pass}
use Rattle.count_board.specs.Boards.{IsPassOf}
use Rattle.count_board.specs.Passes.{known, account, IsAway, Leads}
use Rattle.count_board.specs.Reads.{counts_of}
use Rattle.count_board.specs.Kept.{new_account}
use Rattle.dn_core.specs.declared.event.Event.TheVariants.{Daemon, Reclaim}
use Rattle.dn_shared.specs.declared.call.CallFault.{CallFault}
use Rattle.dn_shared.specs.declared.call.CallFault.TheVariants as fault
use Rattle.dn_shared.specs.declared.site.Site.{Site}
use Rattle.dn_shared.specs.Ends.{flying}
use Rattle.dn_shared.specs.Marks.{SaysLast, SaysStopped}
use Rattle.dn_shared.specs.Turns.{IsOver}
use Rattle.job_runs.specs.declared.script.RunFault.{RunFault}
use Rattle.job_runs.specs.declared.script.RunFault.TheVariants as run_fault
use Rattle.job_runs.specs.Scripts.{ops_of}
use Rattle.job_texts.specs.Plan.{op_in, ops_in}
use Rattle.thread_runs.specs.declared.reading.Reading.{Reading}
use Rattle.thread_runs.specs.declared.reading.Readings.{Readings}
use Rattle.thread_runs.specs.declared.task.Task.{Task}
use Rattle.thread_runs.specs.Reading.{look_in, IsReading, Pairs, ReadsLines, seen_of, seen_in}

-- the pass is away again, with the number and the lead that it had
abbrev pub IsBack : {H : Type 0} → Board H → Pass H → Pass H → Type 0
IsBack b p q = IsPassOf b q × IsAway q × ((known q).lead ≡ (known p).lead)
    × ((account q).number ≡ (account p).number)

-- a look at one slot
pub record Looks (slots line slot : ℕ) (a b : Account) (r : Reading) : Type 0 where
  pub calls : b.calls ≡ a.calls
  pub hand : b.hand ≡ a.hand
  pub reading : IsReading slots (line, slot) r
  pub seen : counts_of b.seen ≡ counts_of a.seen ++ seen_of r.slot r.count

-- the first of these operations is in flight, or none is
abbrev pub FliesFirst : List Op → Option Hand → Type 0
FliesFirst ops hand = (hand ≡ None)
    ⊎ ((op : Op) × (rest : List Op) × (ops ≡ op ∷ rest) × (hand ≡ Some (Fly op)))

-- one operation
abbrev pub RanOp : Op → Account → Account → Result (Unit {0}) CallFault → Type 0
RanOp op a b (Ok done) = (ops_of b.calls ≡ ops_of a.calls ++ op ∷ []) × (b.hand ≡ None)
RanOp op a b (Err fault.NoMemory) = (b.calls ≡ a.calls) × (b.hand ≡ None)
RanOp op a b (Err fault.Stopped) =
    (b.calls ≡ a.calls) × SaysStopped b × FliesFirst (op ∷ []) b.hand

-- readings came to those that there were
pub record AddsReadings (slots : ℕ) (looks : List (ℕ × ℕ)) (a b : Account)
    (old new : List Reading) : Type 0 where
  pub more : List Reading
  pub added : new ≡ old ++ more
  pub reads : Pairs (IsReading slots) looks more
  pub seen : counts_of b.seen ≡ counts_of a.seen ++ seen_in more

-- a line that reads a count
abbrev pub RanLook : ℕ → ℕ → ℕ → Account → Account → List Reading → List Reading
    → Result (Unit {0}) CallFault → Type 0
RanLook slots number slot a b old new (Ok done) =
    (b.calls ≡ a.calls) × (b.hand ≡ None)
    × AddsReadings slots ((number, slot) ∷ []) a b old new
RanLook slots number slot a b old new (Err fault.NoMemory) =
    (b.calls ≡ a.calls) × (b.hand ≡ None)
RanLook slots number slot a b old new (Err fault.Stopped) = ⊥

-- a line of this number and command
abbrev pub RanCommand : ℕ → ℕ → Command → Account → Account → List Reading → List Reading
    → Result (Unit {0}) CallFault → Type 0
RanCommand slots number command a b old new (Ok done) =
    (ops_of b.calls ≡ ops_of a.calls ++ op_in command) × (b.hand ≡ None)
    × AddsReadings slots (look_in number command) a b old new
RanCommand slots number command a b old new (Err fault.NoMemory) =
    (b.calls ≡ a.calls) × (b.hand ≡ None)
RanCommand slots number command a b old new (Err fault.Stopped) =
    (b.calls ≡ a.calls) × SaysStopped b × FliesFirst (op_in command) b.hand

abbrev pub RanLine : ℕ → Line → Account → Account → List Reading → List Reading
    → Result (Unit {0}) CallFault → Type 0
RanLine slots line a b old new result =
    RanCommand slots line.number line.command a b old new result

-- of these operations, which are all that the number was to make, so many were answered
abbrev pub RanOps : List Op → Option Hand → Account → Result (Unit {0}) CallFault → Type 0
RanOps ops end b (Ok done) = (ops_of b.calls ≡ ops) × (b.hand ≡ end)
RanOps ops end b (Err fault.NoMemory) =
    (rest : List Op) × (ops ≡ ops_of b.calls ++ rest) × (b.hand ≡ end)
RanOps ops end b (Err fault.Stopped) =
    (rest : List Op) × (ops ≡ ops_of b.calls ++ rest) × SaysStopped b × FliesFirst rest b.hand

-- what a client read, where it came to its end
abbrev pub ReadAll : ℕ → List Line → Account → List Reading → Result (Unit {0}) CallFault → Type 0
ReadAll slots lines b readings (Ok done) =
    ReadsLines slots lines readings × (counts_of b.seen ≡ seen_in readings)
ReadAll slots lines b readings (Err fault) = Unit {0}

-- what the last mark says, where a loop came to its end
abbrev pub SaysOver : (Mark → Type 0) → Account → Result (Unit {0}) CallFault → Type 0
SaysOver Over b (Ok done) = SaysLast b Over
SaysOver Over b (Err fault) = Unit {0}

-- the lines of a client, none of a number that is no client
abbrev pub lines_by : ℕ → List (ℕ × List Line) → List Line
lines_by who [] = []
lines_by who (c ∷ cs) = if c.0 == who then c.1 else lines_by who cs

-- the numbers of clients rise, from above one number to at most another
abbrev pub RisesTo : ℕ → ℕ → List (ℕ × List Line) → Type 0
RisesTo last low [] = Unit {0}
RisesTo last low (c ∷ cs) = (low < c.0) × (c.0 ≤ last) × RisesTo last c.0 cs

-- What the pass of number k knows once its thread has ended. The clients' numbers go up to last;
-- then come the daemon and reclaim.
pub record Ran (slots last : ℕ) (clients : List (ℕ × List Line)) (k : ℕ) (b : Account)
    (readings : List Reading) (result : Result (Unit {0}) CallFault) : Type 0 where
  pub hand : Option Hand
  pub lands : flying hand ≡ None
  pub ops : RanOps (ops_in (lines_by k clients)) hand b result
  pub reads : k ≤ last → ReadAll slots (lines_by k clients) b readings result
  pub daemon : k ≡ last + 1 → SaysOver (IsOver Daemon) b result
  pub reclaim : k ≡ last + 2 → SaysOver (IsOver Reclaim) b result

-- it is so of each member of a list and its place
abbrev pub Each : {A : Type 0} → (ℕ → A → Type 0) → List A → Type 0
Each {A} P xs = (i : ℕ) (d : A) → i < length xs → P i (get_or xs i d)

module _ {D F : Type 0} where
  -- pass number k, of n, which has seen nothing yet
  pub record IsNewPass (b : Board (Site D F)) (n k : ℕ) (p : Pass (Site D F)) : Type 0 where
    pub own : IsPassOf b p
    pub away : IsAway p
    pub leads : Leads n p
    pub account_is : account p ≡ new_account k

  -- task number k, of n, before it runs
  pub record IsStart (b : Board (Site D F)) (n k : ℕ) (t : Task D F) : Type 0 where
    pub pass : IsNewPass b n k t.pass
    pub readings : t.readings.items ≡ []
    pub ok : t.result ≡ Ok tt

  -- its pass has the number that is so far from n
  abbrev pub IsNumbered : ℕ → ℕ → Task D F → Type 0
  IsNumbered n i t = (account t.pass).number ≡ n - i

  -- and after it has run
  pub record IsRun (b : Board (Site D F)) (slots last : ℕ) (clients : List (ℕ × List Line))
      (k : ℕ) (t : Task D F) : Type 0 where
    pub own : IsPassOf b t.pass
    pub away : IsAway t.pass
    pub leads : Leads (last + 2) t.pass
    pub number : (account t.pass).number ≡ k
    pub ran : Ran slots last clients k (account t.pass) t.readings.items t.result

  -- the readings of a client are those of the task of its number, of n tasks from the last number on
  pub record IsReadIn (n : ℕ) (tasks : List (Task D F)) (c : ℕ × List Line) (r : Readings) : Type 0
    where
      pub who : r.who ≡ c.0
      pub own : (d : Task D F) → r.readings.items ≡ (get_or tasks (n - c.0) d).readings.items

  -- the passes of tasks, by number
  abbrev pub ArePassesOf : ℕ → List (Task D F) → List (Pass (Site D F)) → Type 0
  ArePassesOf n tasks passes =
      Each (λ i p. (d : Task D F) → p ≡ (get_or tasks (n - 1 - i) d).pass) passes

  -- whole: no task from the i-th on has a fault
  abbrev pub NoneFails : ℕ → List (Task D F) → Type 0
  NoneFails i tasks = (j : ℕ) (d : Task D F) → i ≤ j → j < length tasks
      → (get_or tasks j d).result ≡ Ok tt

-- the readings of a number are put to those that there are, where the client that follows has it
abbrev pub noted_if : Option (ℕ × List Line) → List Readings → ℕ → Vec Reading Global → List Readings
noted_if None old who own = old
noted_if (Some c) old who own =
    if c.0 == who then old ++ record { who = who; readings = own } ∷ [] else old

abbrev pub noted_in : List (ℕ × List Line) → List Readings → ℕ → Vec Reading Global → List Readings
noted_in clients old who own = noted_if (slice_get clients (length old)) old who own

-- how a run ends: by whether its volume stopped, and whether no thread had a fault
abbrev pub end_from : {A : Type 0} → Bool → Bool → A → Result A RunFault
end_from true whole told = Err run_fault.Stopped
end_from false true told = Ok told
end_from false false told = Err run_fault.NoMemory
