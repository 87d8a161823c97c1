-- What a begin and an advance of one client tell while nobody else has anything in flight.
use Rattle.std.specs.Prelude.{◌≡◌, ℕ, ◌<◌, ◌≤◌, false, Option, Some, None}
use Rattle.pm_device.specs.State.{State}
use Rattle.dn_model.specs.declared.op.Op.{Op}
use Rattle.dn_volume.specs.declared.flight.Flight.{Flight}
use Rattle.dn_volume.specs.declared.outcome.Outcome.{Outcome}
use Rattle.dn_volume.specs.declared.outcome.Outcome.TheVariants as told
use Rattle.dn_volume.specs.declared.volume.Volume.{Volume}
use Rattle.dn_volume.specs.Parties.{flight_of}
use Rattle.dn_volume.specs.Flights.{left_of}
use Rattle.job_runs.specs.Reaching.{IsLoose, FliesAlone, WasStopped, AddsEntry, IsSteady}

-- the history stays, the volume isn't stopped, and faults haven't fallen
pub record GoesQuietly {D F : Type 0} (state : D → State) (v v' : Volume D F) : Type 0 where
  pub history : v'.parts.history.items ≡ v.parts.history.items
  pub running : v'.parts.stopped ≡ false
  pub faults : (state v.device).faults ≤ (state v'.device).faults

abbrev pub flight_left : Option Flight → ℕ
flight_left None = 0
flight_left (Some f) = left_of f

abbrev pub BeginTells : {D F : Type 0} → (D → State) → ℕ → Op → Volume D F → Volume D F → Outcome
    → Type 0
BeginTells state who op v v' (told.Running left) =
    FliesAlone v'.parts who op × GoesQuietly state v v'
BeginTells state who op v v' (told.Done reply) = IsLoose v'.parts
    × AddsEntry who op v.parts.history.items v'.parts.history.items × IsSteady state v v'
BeginTells state who op v v' (told.Busy holder) = ⊥
BeginTells state who op v v' (told.Released waiting) = IsLoose v'.parts × GoesQuietly state v v'
    × (v'.parts.reclaiming.waiting < v.parts.reclaiming.waiting)
BeginTells state who op v v' told.Idle = ⊥
BeginTells state who op v v' told.NotYours = ⊥
BeginTells state who op v v' told.NoMemory =
    IsLoose v'.parts × (v'.parts.history.items ≡ v.parts.history.items)
BeginTells state who op v v' told.Stopped =
    WasStopped state v v' × (v'.parts.history.items ≡ v.parts.history.items)

abbrev pub AdvanceTells : {D F : Type 0} → (D → State) → ℕ → Op → Volume D F → Volume D F
    → Outcome → Type 0
AdvanceTells state who op v v' (told.Running left) =
    FliesAlone v'.parts who op × GoesQuietly state v v'
    × (flight_left (flight_of v'.parts who) < flight_left (flight_of v.parts who))
AdvanceTells state who op v v' (told.Done reply) = IsLoose v'.parts
    × AddsEntry who op v.parts.history.items v'.parts.history.items × IsSteady state v v'
AdvanceTells state who op v v' (told.Busy holder) = ⊥
AdvanceTells state who op v v' (told.Released waiting) = ⊥
AdvanceTells state who op v v' told.Idle = ⊥
AdvanceTells state who op v v' told.NotYours = ⊥
AdvanceTells state who op v v' told.NoMemory = ⊥
AdvanceTells state who op v v' told.Stopped =
    WasStopped state v v' × (v'.parts.history.items ≡ v.parts.history.items)

-- so far in an operation: nothing is answered yet
pub record SoFar {D F : Type 0} (state : D → State) (u v : Volume D F) : Type 0 where
  pub history : v.parts.history.items ≡ u.parts.history.items
  pub steady : IsSteady state u v
