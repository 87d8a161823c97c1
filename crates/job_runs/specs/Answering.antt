-- What an event answers that comes next in a run, and what it makes of the run.
use Rattle.std.specs.Prelude.{◌≡◌, ℕ, ◌≤◌, false, List, Some}
use Rattle.pm_device.specs.State.{State, Rose}
use Rattle.dn_model.specs.Disk.{Disk}
use Rattle.dn_model.specs.Files.{files}
use Rattle.dn_model.specs.Own.{Print}
use Rattle.dn_model.specs.declared.op.Op.{Op}
use Rattle.dn_volume.specs.declared.outcome.Outcome.{Outcome}
use Rattle.dn_volume.specs.declared.outcome.Outcome.TheVariants as told
use Rattle.dn_volume.specs.declared.volume.Volume.{Volume}
use Rattle.dn_volume.specs.Agrees.{IsVolume}
use Rattle.dn_core.specs.Steps.{Steps, actor_of}
use Rattle.job_runs.specs.declared.plan.Order.{Order}
use Rattle.job_runs.specs.Turns.{Played, Upcoming, upcoming, after}
use Rattle.job_runs.specs.Plays.{MayAnswer}
use Rattle.job_runs.specs.Scripts.{Rises}
use Rattle.job_runs.specs.Playing.{Fits, FlyNext}

-- The outcome may come there, and the run after it is as far as the volume says. It isn't stopped,
-- and faults haven't fallen.
pub record GoesWell {D F : Type 0} (state : D → State) (order : Order)
    (scripts : List (ℕ × List Op)) (p : Played) (next : Upcoming) (v v' : Volume D F) (d : Disk)
    (outcome : Outcome) : Type 0 where
  pub may : MayAnswer scripts p (files d) next.event outcome
  pub fits : Fits scripts (after order scripts p next (actor_of next.event) outcome) v'.parts
  pub running : v'.parts.stopped ≡ false
  pub faults : (state v.device).faults ≤ (state v'.device).faults

-- Nothing is answered, the same operations are in flight, and faults haven't fallen.
pub record BreaksOff {D F : Type 0} (state : D → State) (scripts : List (ℕ × List Op))
    (v v' : Volume D F) : Type 0 where
  pub history : v'.parts.history.items ≡ v.parts.history.items
  pub flying : FlyNext scripts v'.parts
  pub faults : (state v.device).faults ≤ (state v'.device).faults

abbrev pub AnswersNext : {D F : Type 0} → (D → State) → Order → List (ℕ × List Op) → Played
    → Upcoming → Volume D F → Volume D F → Disk → Outcome → Type 0
AnswersNext state order scripts p next v v' d (told.Running left) =
    GoesWell state order scripts p next v v' d (told.Running left)
AnswersNext state order scripts p next v v' d (told.Done reply) =
    GoesWell state order scripts p next v v' d (told.Done reply)
AnswersNext state order scripts p next v v' d (told.Busy holder) =
    GoesWell state order scripts p next v v' d (told.Busy holder)
AnswersNext state order scripts p next v v' d (told.Released waiting) =
    GoesWell state order scripts p next v v' d (told.Released waiting)
AnswersNext state order scripts p next v v' d told.Idle =
    GoesWell state order scripts p next v v' d told.Idle
AnswersNext state order scripts p next v v' d told.NotYours = ⊥
AnswersNext state order scripts p next v v' d told.NoMemory = BreaksOff state scripts v v'
AnswersNext state order scripts p next v v' d told.Stopped =
    BreaksOff state scripts v v' × Rose (state v.device).faults (state v'.device).faults

-- the next event of a run that is as far as a volume says, on a volume that isn't stopped
abbrev pub EventsMayAnswer : (D F : Type 0) → (D → State) → Type 0
EventsMayAnswer D F state = (print : Print) (order : Order) (scripts : List (ℕ × List Op))
    (p : Played) (next : Upcoming) (v v' : Volume D F) (d : Disk) (outcome : Outcome)
    → Rises 0 scripts → upcoming order scripts p ≡ Some next → Fits scripts p v.parts
    → IsVolume d v.parts (state v.device) → Steps state print next.event v v' outcome
    → AnswersNext state order scripts p next v v' d outcome
