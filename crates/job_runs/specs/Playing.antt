-- What a run of scripts on a volume promises.
use Rattle.std.specs.Prelude.{◌≡◌, ◌≢◌, ℕ, ◌+◌, ◌<◌, false, IsSome, List, [], Option, Some, None, Result, Ok, Err}
use Rattle.pm_device.specs.State.{State}
use Rattle.dn_model.specs.Course.{Base, base_files}
use Rattle.dn_model.specs.declared.op.Op.{Op}
use Rattle.dn_volume.specs.declared.flight.Flight.{Flight}
use Rattle.dn_volume.specs.declared.volume.Parts.{Parts}
use Rattle.dn_volume.specs.declared.volume.Volume.{Volume}
use Rattle.dn_volume.specs.Parties.{Flies, flight_of}
use Rattle.dn_volume.specs.Flights.{left_of}
use Rattle.dn_volume.specs.Works.{sharing_events, cleaning_events}
use Rattle.dn_volume.specs.Resting.{AllLanded}
use Rattle.job_runs.specs.Reaching.{WasStopped}
use Rattle.job_runs.specs.declared.script.RunFault.{RunFault}
use Rattle.job_runs.specs.declared.script.RunFault.TheVariants as fault
use Rattle.job_runs.specs.declared.plan.Order.{Order}
use Rattle.job_runs.specs.Turns.{Played, next_op}
use Rattle.job_runs.specs.Plays.{Move, Plays, PlayedAll}

-- a volume on which nothing was answered and nothing is under way, as a mount makes it
pub record IsNew (b : Parts) : Type 0 where
  pub running : b.stopped ≡ false
  pub history : b.history.items ≡ []
  pub landed : AllLanded b
  pub none_begun : b.sharing ≡ None
  pub none_cleaned : b.reclaiming.cleaning ≡ None

abbrev pub flight_left : Option Flight → ℕ
flight_left None = 0
flight_left (Some f) = left_of f

-- what each client has in flight is the next operation of its script
pub record FlyNext (scripts : List (ℕ × List Op)) (b : Parts) : Type 0 where
  pub next : (who : ℕ) (f : Flight) → Flies b who f
      → next_op scripts b.history.items who ≡ Some f.op

-- A run is as far as a volume says. Who is no client has nothing left; a Released tells what waits
-- for reclaim still.
pub record Fits (scripts : List (ℕ × List Op)) (p : Played) (b : Parts) : Type 0 where
  pub entries : p.entries ≡ b.history.items
  pub clients : (who : ℕ) → who ≢ 15 → who ≢ 16 → p.left who ≡ flight_left (flight_of b who)
  pub daemon : p.left 15 ≡ sharing_events b.sharing
  pub waiting : (n : ℕ) → p.released ≡ Some n
      → b.reclaiming.waiting + cleaning_events b.reclaiming.cleaning ≡ n
  pub cleaning : IsSome b.reclaiming.cleaning → 0 < p.left 16
  pub flying : FlyNext scripts b

-- scripts were played so far
pub record PlaysSo (order : Order) (scripts : List (ℕ × List Op)) (turns : List ℕ) (base : Base)
    (b : Parts) : Type 0 where
  pub moves : List Move
  pub so_far : Played
  pub plays : Plays order scripts turns (base_files base) moves so_far
  pub entries : so_far.entries ≡ b.history.items
  pub flying : FlyNext scripts b

-- and all of them
pub record PlaysWhole (order : Order) (scripts : List (ℕ × List Op)) (turns : List ℕ) (base : Base)
    (b : Parts) : Type 0 where
  pub moves : List Move
  pub end : Played
  pub played : PlayedAll order scripts turns (base_files base) moves end
  pub entries : end.entries ≡ b.history.items
  pub landed : AllLanded b

-- from a volume that is sound for a base
abbrev pub RunsJob : {D F : Type 0} → (D → State) → Order → List (ℕ × List Op) → List ℕ → Base
    → Volume D F → Volume D F → Result (Unit {0}) RunFault → Type 0
RunsJob state order scripts turns base u v (Ok done) =
    PlaysWhole order scripts turns base v.parts
RunsJob state order scripts turns base u v (Err fault.NoMemory) =
    PlaysSo order scripts turns base v.parts
RunsJob state order scripts turns base u v (Err fault.Stopped) =
    PlaysSo order scripts turns base v.parts × WasStopped state u v

-- what the end says of every volume: at a run's whole end nothing is in flight
abbrev pub EndsJob : {D F : Type 0} → (D → State) → Volume D F → Volume D F
    → Result (Unit {0}) RunFault → Type 0
EndsJob state u v (Ok done) = AllLanded v.parts × (v.parts.stopped ≡ false)
EndsJob state u v (Err fault.NoMemory) = Unit {0}
EndsJob state u v (Err fault.Stopped) = WasStopped state u v
