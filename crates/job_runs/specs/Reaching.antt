-- What a script makes of a volume: events of one client, and of reclaim where a begin waits.
use Rattle.std.specs.Prelude.{◌≡◌, ◌⊎◌, ℕ, ◌≤◌, true, false, List, [], ◌∷◌, ◌++◌, map, None, Result, Ok, Err, Bool}
use Rattle.pm_device.specs.State.{State, Rose}
use Rattle.dn_model.specs.Own.{Print}
use Rattle.dn_model.specs.declared.op.Op.{Op}
use Rattle.dn_model.specs.declared.op.Reply.{Reply}
use Rattle.dn_model.specs.declared.op.Entry.{Entry}
use Rattle.dn_volume.specs.declared.flight.Flight.{Flight}
use Rattle.dn_volume.specs.declared.outcome.Outcome.{Outcome}
use Rattle.dn_volume.specs.declared.volume.Parts.{Parts}
use Rattle.dn_volume.specs.declared.volume.Volume.{Volume}
use Rattle.dn_volume.specs.Parties.{Flies}
use Rattle.dn_volume.specs.Resting.{AllLanded}
use Rattle.dn_core.specs.declared.event.Event.{Event}
use Rattle.dn_core.specs.Run.{Run}
use Rattle.job_runs.specs.declared.script.RunFault.{RunFault}
use Rattle.job_runs.specs.declared.script.RunFault.TheVariants as fault

-- some events lead from the one volume to the other
pub record Reaches {D F : Type 0} (state : D → State) (print : Print) (u v : Volume D F) : Type 0
  where
    pub events : List Event
    pub outcomes : List Outcome
    pub run : Run state print u events outcomes v

-- no operation is in flight, and the daemon and a cleaning have begun nothing: so nothing is held
pub record IsLoose (b : Parts) : Type 0 where
  pub landed : AllLanded b
  pub none_begun : b.sharing ≡ None
  pub none_cleaned : b.reclaiming.cleaning ≡ None

-- this client alone has this operation in flight, and the daemon and a cleaning have begun nothing
pub record FliesAlone (b : Parts) (who : ℕ) (op : Op) : Type 0 where
  pub flight : Flight
  pub flies : Flies b who flight
  pub op_is : flight.op ≡ op
  pub only : (q : ℕ) (f : Flight) → Flies b q f → q ≡ who
  pub none_begun : b.sharing ≡ None
  pub none_cleaned : b.reclaiming.cleaning ≡ None

-- the volume stopped, since a fence failed on the way or before
abbrev pub WasStopped : {D F : Type 0} → (D → State) → Volume D F → Volume D F → Type 0
WasStopped state u v = (u.parts.stopped ≡ true)
    ⊎ Rose (state u.device).faults (state v.device).faults

-- it isn't stopped unless it was, and faults haven't fallen
pub record IsSteady {D F : Type 0} (state : D → State) (u v : Volume D F) : Type 0 where
  pub stopped : v.parts.stopped ≡ true → u.parts.stopped ≡ true
  pub faults : (state u.device).faults ≤ (state v.device).faults

-- one entry more, of this client's operation
pub record AddsEntry (who : ℕ) (op : Op) (old new : List Entry) : Type 0 where
  pub reply : Reply
  pub history : new ≡ old ++ record { who = who; op = op; reply = reply } ∷ []

-- a begin: the operation is in flight or answered, or nothing of it was done
abbrev pub BeginsOp : {D F : Type 0} → (D → State) → ℕ → Op → Volume D F → Volume D F
    → Result Bool RunFault → Type 0
BeginsOp state who op u v (Ok true) =
    FliesAlone v.parts who op × (v.parts.history.items ≡ u.parts.history.items)
    × IsSteady state u v
BeginsOp state who op u v (Ok false) = IsLoose v.parts
    × AddsEntry who op u.parts.history.items v.parts.history.items × IsSteady state u v
BeginsOp state who op u v (Err fault.NoMemory) =
    IsLoose v.parts × (v.parts.history.items ≡ u.parts.history.items)
BeginsOp state who op u v (Err fault.Stopped) =
    WasStopped state u v × (v.parts.history.items ≡ u.parts.history.items)

-- an operation to its reply
abbrev pub RunsOp : {D F : Type 0} → (D → State) → ℕ → Op → Volume D F → Volume D F
    → Result (Unit {0}) RunFault → Type 0
RunsOp state who op u v (Ok done) = IsLoose v.parts
    × AddsEntry who op u.parts.history.items v.parts.history.items × IsSteady state u v
RunsOp state who op u v (Err fault.NoMemory) =
    IsLoose v.parts × (v.parts.history.items ≡ u.parts.history.items)
RunsOp state who op u v (Err fault.Stopped) =
    WasStopped state u v × (v.parts.history.items ≡ u.parts.history.items)

-- the entries of a client for these operations, in order
abbrev pub ops_of : List Entry → List Op
ops_of entries = map (λ (entry : Entry). entry.op) entries

pub record AreEntriesOf (who : ℕ) (ops : List Op) (entries : List Entry) : Type 0 where
  pub ops_are : ops_of entries ≡ ops
  pub who_are : map (λ (entry : Entry). entry.who) entries ≡ map (λ (op : Op). who) ops

-- the history has entries more for the first of these operations
pub record RunsFront (who : ℕ) (ops : List Op) (old new : List Entry) : Type 0 where
  pub first : List Op
  pub rest : List Op
  pub split : ops ≡ first ++ rest
  pub entries : List Entry
  pub are : AreEntriesOf who first entries
  pub history : new ≡ old ++ entries

-- and for all of them
pub record RunsAll (who : ℕ) (ops : List Op) (old new : List Entry) : Type 0 where
  pub entries : List Entry
  pub are : AreEntriesOf who ops entries
  pub history : new ≡ old ++ entries

-- a script
abbrev pub RunsScript : {D F : Type 0} → (D → State) → ℕ → List Op → Volume D F → Volume D F
    → Result (Unit {0}) RunFault → Type 0
RunsScript state who ops u v (Ok done) =
    IsLoose v.parts × RunsAll who ops u.parts.history.items v.parts.history.items
RunsScript state who ops u v (Err fault.NoMemory) =
    IsLoose v.parts × RunsFront who ops u.parts.history.items v.parts.history.items
RunsScript state who ops u v (Err fault.Stopped) =
    WasStopped state u v × RunsFront who ops u.parts.history.items v.parts.history.items
