-- That scripts were played: each event is the one that the scripts, the schedule and the earlier
-- outcomes determine, and each outcome is one that may come there.
use Rattle.std.specs.Prelude.{
  ◌≡◌,
  ◌≢◌,
  ◌⊎◌,
  ℕ,
  zero,
  suc,
  ◌+◌,
  ◌-◌,
  ◌/◌,
  ◌<◌,
  ◌≤◌,
  Bool,
  true,
  false,
  if◌then◌else◌,
  is_some,
  List,
  [],
  ◌∷◌,
  ◌++◌,
  length,
  Option,
  Some,
  None,
  Contains,
}
use Rattle.log_entry.specs.Spelling.{pages_of}
use Rattle.log_entry.specs.Name.{same_name}
use Rattle.dn_model.specs.Disk.{Disk, maps}
use Rattle.dn_model.specs.Valid.{IsValid}
use Rattle.dn_model.specs.Files.{Files, files, named, IsSameFiles}
use Rattle.dn_model.specs.History.{Legal, touched, refilled, inode_of}
use Rattle.dn_model.specs.declared.op.Op.{Op}
use Rattle.dn_model.specs.declared.op.Op.TheVariants.{
  Create,
  Write,
  Read,
  Cut,
  Remove,
  Rename,
  Size,
  List as ListAll,
}
use Rattle.dn_model.specs.declared.op.Reply.TheVariants as answer
use Rattle.dn_volume.specs.declared.outcome.Outcome.{Outcome}
use Rattle.dn_volume.specs.declared.outcome.Outcome.TheVariants as told
use Rattle.dn_core.specs.declared.event.Event.{Event}
use Rattle.dn_core.specs.declared.event.Event.TheVariants.{Begin, Advance, Daemon, Reclaim}
use Rattle.dn_core.specs.Steps.{actor_of}
use Rattle.job_runs.specs.declared.plan.Order.{Order}
use Rattle.job_runs.specs.Turns.{Played, Upcoming, next_op, upcoming, at_start, after}

-- whether an operation has to hold the root, and the files that it has to hold, by name
abbrev pub other_name : List ℕ → Option (List ℕ) → List (List ℕ)
other_name to None = []
other_name to (Some bytes) = to ∷ []

abbrev pub holds_root : Op → Bool
holds_root (Create name) = true
holds_root (Write name at bytes) = false
holds_root (Read name at count) = false
holds_root (Cut name to) = false
holds_root (Remove name) = true
holds_root (Rename from to) = if same_name from to then false else true
holds_root (Size name) = false
holds_root ListAll = false

abbrev pub held_names : Files → Op → List (List ℕ)
held_names f (Create name) = []
held_names f (Write name at []) = []
held_names f (Write name at (b ∷ bytes)) = name ∷ []
held_names f (Read name at count) = []
held_names f (Cut name to) = name ∷ []
held_names f (Remove name) = name ∷ []
held_names f (Rename from to) =
    if same_name from to then [] else from ∷ other_name to (f to)
held_names f (Size name) = []
held_names f ListAll = []

abbrev pub HoldsAny : Files → Op → Type 0
HoldsAny f op =
    (holds_root op ≡ true) ⊎ ((name : List ℕ) × Contains (held_names f op) name)

-- two operations have to hold the root both, or one file
abbrev pub Meet : Files → Op → Op → Type 0
Meet f a b = ((holds_root a ≡ true) × (holds_root b ≡ true))
    ⊎ ((name : List ℕ) × Contains (held_names f a) name × Contains (held_names f b) name)

-- how many of n places of a file are mapped
abbrev pub mapped_from : Disk → (ino from n : ℕ) → ℕ
mapped_from d ino from zero = 0
mapped_from d ino from (suc n) =
    (if is_some (maps d ino from) then 1 else 0) + mapped_from d ino (from + 1) n

-- the data pages that an operation fills, and the places that it overwrites or cuts away, on a disk
abbrev pub filled : Disk → Op → ℕ
filled d (Create name) = 0
filled d (Write name at bytes) = touched at (length bytes)
filled d (Read name at count) = 0
filled d (Cut name to) = refilled d name to
filled d (Remove name) = 0
filled d (Rename from to) = 0
filled d (Size name) = 0
filled d ListAll = 0

abbrev pub replaced : Disk → Op → ℕ
replaced d (Create name) = 0
replaced d (Write name at bytes) =
    mapped_from d (inode_of (named d name)) (at / 4096) (touched at (length bytes))
replaced d (Read name at count) = 0
replaced d (Cut name to) =
    mapped_from d (inode_of (named d name)) (pages_of to - refilled d name to)
    (4096 - (pages_of to - refilled d name to))
replaced d (Remove name) = 0
replaced d (Rename from to) = 0
replaced d (Size name) = 0
replaced d ListAll = 0

-- how many events an operation may have left as it is begun on a disk: two for one on names
abbrev pub FillsAndRaises : Disk → Op → ℕ → Type 0
FillsAndRaises d op left =
    (filled d op + 1 ≤ left) × (left ≤ filled d op + 1 + replaced d op)

abbrev pub MayLeave : Disk → Op → ℕ → Type 0
MayLeave d (Create name) left = left ≡ 2
MayLeave d (Write name at bytes) left = FillsAndRaises d (Write name at bytes) left
MayLeave d (Read name at count) left = ⊥
MayLeave d (Cut name to) left = FillsAndRaises d (Cut name to) left
MayLeave d (Remove name) left = left ≡ 2
MayLeave d (Rename from to) left = left ≡ 2
MayLeave d (Size name) left = ⊥
MayLeave d ListAll left = ⊥

-- on some disk with these files
pub record IsLeft (f : Files) (op : Op) (left : ℕ) : Type 0 where
  pub disk : Disk
  pub valid : IsValid disk
  pub same : IsSameFiles (files disk) f
  pub may : MayLeave disk op left

-- who holds what a begin has to hold: a client in flight that meets it, or the daemon or reclaim,
-- which have work begun
pub data IsHolder (scripts : List (ℕ × List Op)) (p : Played) (f : Files) (op : Op) (holder : ℕ)
    : Type 0 where
  client : (other : Op) → 0 < p.left holder → next_op scripts p.entries holder ≡ Some other
      → Meet f op other → IsHolder scripts p f op holder
  daemon : holder ≡ 15 → 0 < p.left 15 → HoldsAny f op → IsHolder scripts p f op holder
  reclaim : holder ≡ 16 → 0 < p.left 16 → HoldsAny f op → IsHolder scripts p f op holder

-- a Released right behind another names less
abbrev pub IsLess : Option ℕ → ℕ → Type 0
IsLess None waiting = Unit {0}
IsLess (Some before) waiting = waiting < before

-- what may be answered in a begin, with the files f that the entries so far left
abbrev pub MayOpen : List (ℕ × List Op) → Played → Files → Op → Outcome → Type 0
MayOpen scripts p f op (told.Running left) = IsLeft f op left
MayOpen scripts p f op (told.Done reply) = HoldsAny f op → reply ≢ answer.Done
MayOpen scripts p f op (told.Busy holder) = IsHolder scripts p f op holder
MayOpen scripts p f op (told.Released waiting) = IsLess p.released waiting
MayOpen scripts p f op told.Idle = ⊥
MayOpen scripts p f op told.NotYours = ⊥
MayOpen scripts p f op told.NoMemory = ⊥
MayOpen scripts p f op told.Stopped = ⊥

-- in an advance
abbrev pub MayGoOn : Played → ℕ → Outcome → Type 0
MayGoOn p who (told.Running left) = (p.left who ≡ left + 1) × (1 ≤ left)
MayGoOn p who (told.Done reply) = p.left who ≡ 1
MayGoOn p who (told.Busy holder) = ⊥
MayGoOn p who (told.Released waiting) = ⊥
MayGoOn p who told.Idle = ⊥
MayGoOn p who told.NotYours = ⊥
MayGoOn p who told.NoMemory = ⊥
MayGoOn p who told.Stopped = ⊥

-- in an event of the daemon or of reclaim
abbrev pub MayShare : Played → Outcome → Type 0
MayShare p (told.Running left) = Unit {0}
MayShare p (told.Done reply) = ⊥
MayShare p (told.Busy holder) = (0 < p.left holder) × (holder ≢ 15)
MayShare p (told.Released waiting) = ⊥
MayShare p told.Idle = Unit {0}
MayShare p told.NotYours = ⊥
MayShare p told.NoMemory = ⊥
MayShare p told.Stopped = ⊥

abbrev pub MayRelease : Outcome → Type 0
MayRelease (told.Running left) = Unit {0}
MayRelease (told.Done reply) = ⊥
MayRelease (told.Busy holder) = ⊥
MayRelease (told.Released waiting) = ⊥
MayRelease told.Idle = Unit {0}
MayRelease told.NotYours = ⊥
MayRelease told.NoMemory = ⊥
MayRelease told.Stopped = ⊥

abbrev pub MayAnswer : List (ℕ × List Op) → Played → Files → Event → Outcome → Type 0
MayAnswer scripts p f (Begin who op) outcome = MayOpen scripts p f op outcome
MayAnswer scripts p f (Advance who) outcome = MayGoOn p who outcome
MayAnswer scripts p f Daemon outcome = MayShare p outcome
MayAnswer scripts p f Reclaim outcome = MayRelease outcome

pub record Move : Type 0 where
  pub event : Event
  pub outcome : Outcome

-- one move more: the next event, with an outcome that may come
pub record MovesTo (order : Order) (scripts : List (ℕ × List Op)) (old : Files) (p : Played)
    (move : Move) (q : Played) : Type 0 where
  pub next : Upcoming
  pub is_next : upcoming order scripts p ≡ Some next
  pub event_is : move.event ≡ next.event
  pub f : Files
  pub files_are : Legal old p.entries f
  pub may : MayAnswer scripts p f move.event move.outcome
  pub then_is : q ≡ after order scripts p next (actor_of move.event) move.outcome

-- Scripts were played so far, from these files: nothing yet, or one move more than was.
pub data Plays (order : Order) (scripts : List (ℕ × List Op)) (turns : List ℕ) (old : Files)
    : List Move → Played → Type 0 where
  at_first : Plays order scripts turns old [] (at_start turns)
  then_next : {moves : List Move} {p q : Played} → (move : Move)
      → Plays order scripts turns old moves p → MovesTo order scripts old p move q
      → Plays order scripts turns old (moves ++ move ∷ []) q

-- and all of it
pub record PlayedAll (order : Order) (scripts : List (ℕ × List Op)) (turns : List ℕ) (old : Files)
    (moves : List Move) (p : Played) : Type 0 where
  pub plays : Plays order scripts turns old moves p
  pub over : upcoming order scripts p ≡ None
