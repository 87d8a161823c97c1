-- A call of the program, what it comes to, and how that is told.
use Rattle.std.specs.Prelude.{◌≡◌, ◌⊎◌, ℕ, ◌≤◌, List, length, take, Option}
use Rattle.pm_device.specs.State.{State, Rose}
use Rattle.dn_script.specs.Streams.{with_back}
use Rattle.dn_report.specs.Report.{
  usage_text,
  stopped_text,
  read_fault_text,
  no_memory_text,
  too_long_text,
}
use Rattle.call_endings.specs.declared.ending.Ending.{Ending}
use Rattle.call_endings.specs.declared.ending.Ending.TheVariants.{
  Done,
  Usage,
  BadLine,
  BadTurn,
  Faulty,
  Stopped,
  Failed,
  Unread,
  NoMemory,
  TooLong,
  Refused,
}

-- a source: what it had left, where it tells that, and its counts of faults
pub record Input : Type 0 where
  pub left : Option (List ℕ)
  pub faults_before : ℕ
  pub faults_after : ℕ

-- a sink: what it had taken and has taken, where it tells that, and its counts of faults
pub record Output : Type 0 where
  pub had : Option (List ℕ)
  pub has : Option (List ℕ)
  pub faults_before : ℕ
  pub faults_after : ℕ

-- a call: the words, the source, the device's states, the sink and the status
pub record Call : Type 0 where
  pub words : List (List ℕ)
  pub input : Input
  pub before : State
  pub after : State
  pub output : Output
  pub status : ℕ

abbrev pub input_of : {S : Type 0} → (S → Option (List ℕ)) → (S → ℕ) → S → S → Input
input_of left faults old new = record {
  left = left old;
  faults_before = faults old;
  faults_after = faults new;
}

abbrev pub output_of : {K : Type 0} → (K → Option (List ℕ)) → (K → ℕ) → K → K → Output
output_of taken faults old new = record {
  had = taken old;
  has = taken new;
  faults_before = faults old;
  faults_after = faults new;
}

-- the status of an ending, and its text
abbrev pub status_of : Ending → ℕ
status_of (Done text) = 0
status_of Usage = 1
status_of (BadLine text) = 2
status_of (Faulty text) = 3
status_of (Stopped text) = 4
status_of Failed = 4
status_of Unread = 5
status_of NoMemory = 7
status_of TooLong = 8
status_of (BadTurn text) = 9
status_of (Refused text) = 11

abbrev pub text_of : Ending → List ℕ
text_of (Done text) = text.items
text_of Usage = usage_text
text_of (BadLine text) = text.items
text_of (Faulty text) = text.items
text_of (Stopped text) = text.items
text_of Failed = stopped_text
text_of Unread = read_fault_text
text_of NoMemory = no_memory_text
text_of TooLong = too_long_text
text_of (BadTurn text) = text.items
text_of (Refused text) = text.items

-- a sink has taken a front of a text behind what it had
abbrev pub TookFront : List ℕ → Output → Type 0
TookFront text out = (n : ℕ) × (n ≤ length text) × (out.has ≡ with_back out.had (take n text))

-- A sink has taken the text of an ending, whose status this is; or a write failed, the status is 6,
-- and the sink has taken a front of the text.
abbrev pub IsTold : Output → ℕ → Ending → Type 0
IsTold out status e =
    ((status ≡ status_of e) × (out.has ≡ with_back out.had (text_of e)))
    ⊎ ((status ≡ 6) × Rose out.faults_before out.faults_after × TookFront (text_of e) out)
