-- What an event of a machine promises. It leads from the disk of before to a disk of after; the
-- images on the way hold
-- the files of the one or of the other.
use Rattle.std.specs.Prelude.{
  ◌≡◌,
  ◌⊎◌,
  ℕ,
  ◌+◌,
  ◌-◌,
  ◌≤◌,
  if◌then◌else◌,
  ◌==◌,
  List,
  [],
  ◌∷◌,
  ◌++◌,
  Option,
  Some,
  None,
}
use Rattle.pm_device.specs.State.{State, Rose}
use Rattle.pm_device.specs.Settled.{LeavesOnly}
use Rattle.fingerprint.specs.Count.{count_word}
use Rattle.dn_model.specs.Table.{Row}
use Rattle.dn_model.specs.Disk.{Disk, rows}
use Rattle.dn_model.specs.Files.{files, IsSameFiles}
use Rattle.dn_model.specs.Image.{StandsFor}
use Rattle.dn_model.specs.Own.{Print, IsOwn}
use Rattle.dn_model.specs.Apply.{IsGranted, Grants, after_op}
use Rattle.dn_model.specs.declared.op.Op.{Op}
use Rattle.dn_model.specs.declared.op.Reply.{Reply}
use Rattle.dn_model.specs.declared.op.Reply.TheVariants.{Done as IsDone}
use Rattle.dn_model.specs.declared.op.Entry.{Entry}
use Rattle.dn_volume.specs.declared.flight.Flight.{Flight}
use Rattle.dn_model.specs.declared.op.CountChange.{CountChange}
use Rattle.dn_volume.specs.declared.outcome.Outcome.{Outcome}
use Rattle.dn_volume.specs.declared.outcome.Outcome.TheVariants.{
  Running,
  Done,
  Busy,
  Released,
  Idle,
  NotYours,
  NoMemory,
  Stopped,
}
use Rattle.dn_volume.specs.declared.volume.Parts.{Parts}
use Rattle.dn_volume.specs.declared.volume.Volume.{Volume}
use Rattle.dn_volume.specs.Parties.{Flies, SameOthers, KeepsOps}
use Rattle.dn_volume.specs.Accounts.{AccountsFor, KeepsAlone}
use Rattle.dn_volume.specs.Flights.{left_of}
use Rattle.dn_volume.specs.Replaces.{Replaces}
use Rattle.dn_volume.specs.Agrees.{IsVolume, IsStopped}

-- an image without a fault, with the files of the one disk or of the other; it is this program's
-- where the first is
pub record IsBetween (print : Print) (d e : Disk) (c : List ℕ) : Type 0 where
  pub disk : Disk
  pub stands_for : StandsFor c disk
  pub own : IsOwn print d → IsOwn print disk
  pub same : IsSameFiles (files disk) (files d) ⊎ IsSameFiles (files disk) (files e)

-- the count word of the row at a slot, 0 without one
abbrev pub word_in : List Row → ℕ → ℕ
word_in [] slot = 0
word_in (row ∷ rs) slot = if row.slot == slot then count_word row.rfc row.uc else word_in rs slot

abbrev pub word_at : Disk → ℕ → ℕ
word_at d slot = word_in (rows d) slot

-- and after changes
abbrev pub word_after : List CountChange → ℕ → ℕ → ℕ
word_after [] slot word = word
word_after (change ∷ changes) slot word = word_after changes slot
    (if change.slot == slot then change.word else word)

-- the trace gets these changes more, which lead from the counts of the one disk to those of the
-- other
pub record Traces (d e : Disk) (b b' : Parts) : Type 0 where
  pub more : List CountChange
  pub trace : b'.trace.items ≡ b.trace.items ++ more
  pub words : (slot : ℕ) → word_at e slot ≡ word_after more slot (word_at d slot)

-- the trace of before is how that of after begins
pub record Lengthens (b b' : Parts) : Type 0 where
  pub more : List CountChange
  pub trace : b'.trace.items ≡ b.trace.items ++ more

-- one call more got on, unless there is no greater number
abbrev pub Counts : Parts → Parts → Type 0
Counts b b' = (b'.made ≡ b.made + 1) ⊎ ((b.made ≡ 18446744073709551615) × (b'.made ≡ b.made))

-- The volume agrees with the disk of after; other actors have what they had.
pub record Moves {D F : Type 0} (state : D → State) (print : Print) (who : ℕ) (v v' : Volume D F)
    (d e : Disk) : Type 0 where
  pub volume : IsVolume e v'.parts (state v'.device)
  pub images : LeavesOnly (state v.device) (state v'.device) (IsBetween print d e)
  pub own : IsOwn print d → IsOwn print e
  pub accounts : IsOwn print d → AccountsFor print d e
  pub alone : who ≡ 16 → KeepsAlone d e
  pub traces : Traces d e v.parts v'.parts
  pub others : SameOthers who v.parts v'.parts
  pub counts : Counts v.parts v'.parts
  pub geometry : v'.parts.geometry ≡ v.parts.geometry
  pub faults : (state v.device).faults ≤ (state v'.device).faults

-- It changes no file and answers nothing: the same operations are in flight.
pub record MovesOn {D F : Type 0} (state : D → State) (print : Print) (who : ℕ) (v v' : Volume D F)
    (d : Disk) : Type 0 where
  pub after : Disk
  pub moves : Moves state print who v v' d after
  pub quiet : IsSameFiles (files after) (files d)
  pub ops : KeepsOps v.parts v'.parts
  pub history : v'.parts.history.items ≡ v.parts.history.items

-- an operation is in flight, and so many events answer it
pub record InFlight (b : Parts) (who : ℕ) (op : Op) (left : ℕ) : Type 0 where
  pub flight : Flight
  pub flies : Flies b who flight
  pub op_is : flight.op ≡ op
  pub left_is : left ≡ left_of flight

-- The operation in flight is answered: it goes over into the history, so that its client has none in
-- flight, and the files are those after it.
pub record Answers {D F : Type 0} (state : D → State) (print : Print) (who : ℕ) (op : Op)
    (reply : Reply) (v v' : Volume D F) (d : Disk) : Type 0 where
  pub after : Disk
  pub moves : Moves state print who v v' d after
  pub entry : Entry
  pub history : v'.parts.history.items ≡ v.parts.history.items ++ entry ∷ []
  pub who_is : entry.who ≡ who
  pub op_is : entry.op ≡ op
  pub reply_is : entry.reply ≡ reply
  pub done : reply ≡ IsDone
  pub granted : IsGranted (files d) op
  pub grants : Grants (files d) op reply
  pub files_after : IsOwn print d → IsSameFiles (files after) (after_op (files d) op)
  pub flew : InFlight v.parts who op 1
  pub replaces : Replaces (who - 1) (Some flew.flight) None v.parts v'.parts

-- A fence failed: the images on the way hold the files of before, or those after the operation if
-- this event was to
-- answer one. That operation is in flight still, with this event left; other actors have what they
-- had.
pub record Breaks {D F : Type 0} (state : D → State) (print : Print) (who : ℕ) (answers : Option Op)
    (v v' : Volume D F) (d : Disk) : Type 0 where
  pub stopped : IsStopped v'.parts (state v'.device)
  pub after : Disk
  pub images : LeavesOnly (state v.device) (state v'.device) (IsBetween print d after)
  pub rose : Rose (state v.device).faults (state v'.device).faults
  pub quiet : answers ≡ None → IsSameFiles (files after) (files d)
  pub ops : KeepsOps v.parts v'.parts
  pub answering : (op : Op) → answers ≡ Some op → IsOwn print d
      → IsGranted (files d) op × IsSameFiles (files after) (after_op (files d) op)
  pub answered : (op : Op) → answers ≡ Some op → InFlight v'.parts who op 1
  pub others : SameOthers who v.parts v'.parts
  pub trace : Lengthens v.parts v'.parts
  pub history : v'.parts.history.items ≡ v.parts.history.items
  pub geometry : v'.parts.geometry ≡ v.parts.geometry
  pub counts : Counts v.parts v'.parts
  pub faults : (state v.device).faults ≤ (state v'.device).faults

-- the operation that an event answers if one event is left
abbrev pub answered_by : ℕ → Op → Option Op
answered_by left op = if left == 1 then Some op else None

-- an advance of an operation of which so many events were left
abbrev pub Advances : {D F : Type 0} → (D → State) → Print → ℕ → Op → ℕ → Volume D F → Volume D F
    → Disk → Outcome → Type 0
Advances state print who op left v v' d (Running n) = MovesOn state print who v v' d × InFlight
    v'.parts who op n × (left ≡ n + 1) × (1 ≤ n)
Advances state print who op left v v' d (Done reply) = Answers state print who op reply v v'
    d × (left ≡ 1)
Advances state print who op left v v' d (Busy holder) = ⊥
Advances state print who op left v v' d (Released waiting) = ⊥
Advances state print who op left v v' d Idle = ⊥
Advances state print who op left v v' d NotYours = ⊥
Advances state print who op left v v' d NoMemory = ⊥
Advances state print who op left v v' d Stopped = Breaks state print who (answered_by left op) v v'
    d
