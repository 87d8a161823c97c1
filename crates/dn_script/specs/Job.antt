-- The job that a text is.
use Rattle.std.specs.Prelude.{
  ◌≡◌,
  ℕ,
  zero,
  suc,
  ◌+◌,
  Bool,
  true,
  false,
  not,
  ◌||◌,
  ◌==◌,
  nat_lt,
  if◌then◌else◌,
  List,
  [],
  ◌∷◌,
  ◌++◌,
  length,
  find,
  Option,
  Some,
  None,
  Result,
  Ok,
  Err,
}
use Rattle.std.specs.List.{list_any}
use Rattle.std.specs.Option.{option_to_list}
use Rattle.dn_script.specs.declared.job.Command.{Command}
use Rattle.dn_script.specs.declared.job.Command.TheVariants as command
use Rattle.dn_script.specs.declared.job.Line.{Line}
use Rattle.dn_script.specs.declared.job.Job.{Job}
use Rattle.dn_script.specs.declared.job.JobFault.{JobFault}
use Rattle.dn_script.specs.declared.job.JobFault.TheVariants as fault
use Rattle.dn_script.specs.declared.draft.Owned.{Owned}
use Rattle.dn_script.specs.declared.line.JobForm.{JobForm}
use Rattle.dn_script.specs.declared.line.LineMeaning.{LineMeaning}
use Rattle.dn_script.specs.declared.line.LineMeaning.TheVariants.{
  Skip,
  Do,
  Count,
  Client,
  Turns,
  Bad,
}
use Rattle.dn_script.specs.declared.stream.ReadFault.{ReadFault}
use Rattle.dn_script.specs.declared.stream.ReadFault.TheVariants as reading
use Rattle.dn_script.specs.Text.{lines}
use Rattle.dn_script.specs.Line.{meaning_of}

infixl 10 ◌>>=◌
abbrev pub ◌>>=◌ : {A B : Type 0} → Result A JobFault → (A → Result B JobFault) → Result B JobFault
(Ok x) >>= f = f x
(Err e) >>= f = Err e

-- what lines say so far: the client that commands now belong to, the clients of `client` lines, the
-- commands
-- with the clients that they belong to, the schedule, and the sum of the weights
pub record Draft : Type 0 where
  pub current : ℕ
  pub named : List ℕ
  pub owned : List Owned
  pub turns : List ℕ
  pub weight : ℕ

-- before any line commands belong to client 1
abbrev pub start : Draft
start = record { current = 1; named = []; owned = []; turns = []; weight = 0 }

-- one command more, in the line with this number
abbrev pub with_command : ℕ → Command → Draft → Draft
with_command number said d = record d {
  owned = d.owned ++ record {
    who = d.current;
    line = record { number = number; command = said };
  } ∷ [];
}

-- one line more
abbrev pub after_line : ℕ → LineMeaning → Draft → Result Draft JobFault
after_line number Skip d = Ok d
after_line number (Do op weight) d =
    if nat_lt 268435456 (d.weight + weight) then Err fault.TooLong else Ok
    (record (with_command number (command.Do op) d) { weight = d.weight + weight })
after_line number (Count slot) d = Ok (with_command number (command.Count slot) d)
after_line number (Client n) d = Ok (record d { current = n; named = d.named ++ n ∷ [] })
after_line number (Turns ns) d = Ok (record d { turns = d.turns ++ ns })
after_line number Bad d = Err (fault.BadLine number)

-- more lines, of which the first has this number
unfoldable pub after_lines : JobForm → ℕ → List (List ℕ) → Draft → Result Draft JobFault
after_lines form number [] d = Ok d
after_lines form number (line ∷ more) d = after_line number (meaning_of form line) d >>= after_lines
    form (number + 1) more

-- the lines of a client
abbrev pub lines_of : ℕ → List Owned → List Line
lines_of n [] = []
lines_of n (o ∷ os) = if o.who == n then o.line ∷ lines_of n os else lines_of n os

-- the commands of the other clients
abbrev pub others_of : ℕ → List Owned → List Owned
others_of n [] = []
others_of n (o ∷ os) = if o.who == n then others_of n os else o ∷ others_of n os

abbrev pub has_lines : List Line → Bool
has_lines [] = false
has_lines (line ∷ more) = true

-- a client with these lines, where it is named or has any
abbrev pub client_with : List ℕ → ℕ → List Line → Option (ℕ × List Line)
client_with named n own = if list_any (λ m. m == n) named || has_lines own then Some (n, own) else
    None

-- the clients from 1 to this number, with their lines
unfoldable pub clients_to : ℕ → List ℕ → List Owned → List (ℕ × List Line)
clients_to zero named owned = []
clients_to (suc n) named owned = clients_to n named owned ++ option_to_list
    (client_with named (suc n) (lines_of (suc n) owned))

-- whether a number is an actor of a job with these clients: 15 is the daemon, 16 is reclaim
abbrev pub is_actor : List (ℕ × List Line) → ℕ → Bool
is_actor clients n = n == 15 || (n == 16 || list_any (λ c. c.0 == n) clients)

-- a schedule, or its first turn that is no actor's
abbrev pub checked : Option ℕ → List ℕ → Result (List ℕ) JobFault
checked None turns = Ok turns
checked (Some n) turns = Err (fault.BadTurn n)

abbrev pub stranger_of : List (ℕ × List Line) → List ℕ → Option ℕ
stranger_of clients turns = find (λ n. not (is_actor clients n)) turns

abbrev pub schedule_of : List (ℕ × List Line) → List ℕ → Result (List ℕ) JobFault
schedule_of clients turns = checked (stranger_of clients turns) turns

-- the job of all lines
abbrev pub job_of_draft : Draft → Result Job JobFault
job_of_draft d = do
  turns ← schedule_of (clients_to 14 d.named d.owned) d.turns
  Ok (record { clients = clients_to 14 d.named d.owned; turns = turns })

-- the job of a text, or its first fault
abbrev pub job_of : JobForm → List ℕ → Result Job JobFault
job_of form text =
    if nat_lt 16777216 (length text) then Err fault.TooLong
    else if nat_lt 100000 (length (lines text)) then Err fault.TooLong
    else after_lines form 1 (lines text) start >>= job_of_draft

-- what was returned, seen by view, is the answer, unless memory ran out
abbrev pub FailsBy : {A : Type 0} → JobFault → Result A JobFault → Type 0
FailsBy fault.ReadFault answer = ⊥
FailsBy fault.NoMemory answer = Unit {0}
FailsBy fault.TooLong answer = answer ≡ Err fault.TooLong
FailsBy (fault.BadLine n) answer = answer ≡ Err (fault.BadLine n)
FailsBy (fault.BadTurn n) answer = answer ≡ Err (fault.BadTurn n)

abbrev pub AnswersBy : {X A : Type 0} → (X → A) → Result X JobFault → Result A JobFault → Type 0
AnswersBy view (Ok x) answer = answer ≡ Ok (view x)
AnswersBy view (Err e) answer = FailsBy e answer

abbrev pub Answers : {A : Type 0} → Result A JobFault → Result A JobFault → Type 0
Answers result answer = AnswersBy (λ x. x) result answer

-- a fault of reading, as one of the job
abbrev pub job_fault_of : ReadFault → JobFault
job_fault_of reading.Failed = fault.ReadFault
job_fault_of reading.TooLong = fault.TooLong
job_fault_of reading.NoMemory = fault.NoMemory
