-- What one event promises, by what it answers. It stands on what the machines promise; here are the
-- causes that come before theirs, and the one event of reclaim that is made in place of a begin.
use Rattle.std.specs.Prelude.{◌≡◌, ◌⊎◌, ℕ, true, false, None}
use Rattle.pm_device.specs.State.{State}
use Rattle.dn_model.specs.Disk.{Disk}
use Rattle.dn_model.specs.Own.{Print}
use Rattle.dn_model.specs.declared.op.Op.{Op}
use Rattle.dn_volume.specs.declared.outcome.Outcome.{Outcome}
use Rattle.dn_volume.specs.declared.outcome.Outcome.TheVariants as told
use Rattle.dn_volume.specs.declared.flight.Flight.{Flight}
use Rattle.dn_volume.specs.declared.volume.Parts.{Parts}
use Rattle.dn_volume.specs.declared.volume.Volume.{Volume}
use Rattle.dn_volume.specs.Parties.{Flies}
use Rattle.dn_volume.specs.Flights.{left_of}
use Rattle.dn_volume.specs.Agrees.{IsVolume}
use Rattle.dn_volume.specs.Events.{Advances, MovesOn, Breaks}
use Rattle.dn_volume.specs.Begins.{MayBegin, Begins, WaitsForRelease, IsUntouched, IsLast}
use Rattle.dn_volume.specs.Works.{DaemonWorks, ReclaimWorks, ReleaseLowers}
use Rattle.dn_core.specs.declared.event.Event.{Event}
use Rattle.dn_core.specs.declared.event.Event.TheVariants.{Begin, Advance, Daemon, Reclaim}

-- the actor of an event
abbrev pub actor_of : Event → ℕ
actor_of (Begin who op) = who
actor_of (Advance who) = who
actor_of Daemon = 15
actor_of Reclaim = 16

-- the actor of a begin is no client or has an operation in flight, and that of an advance has none
abbrev pub IsNotYours : Parts → Event → Type 0
IsNotYours b (Begin who op) = MayBegin b who → ⊥
IsNotYours b (Advance who) = (f : Flight) → Flies b who f → ⊥
IsNotYours b Daemon = ⊥
IsNotYours b Reclaim = ⊥

-- In place of a begin that waits for releases, reclaim made one event, after which less waits.
pub record Releases {D F : Type 0} (state : D → State) (print : Print) (op : Op) (left : ℕ)
    (v v' : Volume D F) (d : Disk) : Type 0 where
  pub waits : WaitsForRelease d v.parts op v.parts.reclaiming.waiting
  pub moves : MovesOn state print 16 v v' d
  pub lowers : ReleaseLowers v.parts v'.parts left

-- that event found no memory, or its fence failed; else the begin found no memory itself
pub record ReleaseFails {D F : Type 0} (state : D → State) (print : Print) (op : Op)
    (v v' : Volume D F) (d : Disk) : Type 0 where
  pub waits : WaitsForRelease d v.parts op v.parts.reclaiming.waiting
  pub breaks : Breaks state print 16 None v v' d

abbrev pub LacksMemory : {D F : Type 0} → (D → State) → Op → Volume D F → Volume D F → Disk
    → Type 0
LacksMemory state op v v' d = IsUntouched state v v' d
    × (IsLast d v.parts op ⊎ WaitsForRelease d v.parts op v.parts.reclaiming.waiting)

-- a begin by a client that may
abbrev pub Opens : {D F : Type 0} → (D → State) → Print → ℕ → Op → Volume D F → Volume D F → Disk
    → Outcome → Type 0
Opens state print who op v v' d (told.Released left) = Releases state print op left v v' d
Opens state print who op v v' d told.Stopped = ReleaseFails state print op v v' d
Opens state print who op v v' d told.NoMemory = LacksMemory state op v v' d
Opens state print who op v v' d (told.Running left) = Begins state who op v v' d (told.Running left)
Opens state print who op v v' d (told.Done reply) = Begins state who op v v' d (told.Done reply)
Opens state print who op v v' d (told.Busy holder) = Begins state who op v v' d (told.Busy holder)
Opens state print who op v v' d told.Idle = ⊥
Opens state print who op v v' d told.NotYours = ⊥

-- an advance of what is in flight
pub record GoesOn {D F : Type 0} (state : D → State) (print : Print) (who : ℕ) (v v' : Volume D F)
    (d : Disk) (outcome : Outcome) : Type 0 where
  pub flight : Flight
  pub flies : Flies v.parts who flight
  pub advances : Advances state print who flight.op (left_of flight) v v' d outcome

-- the event on a volume that isn't stopped, if it is one for its actor
abbrev pub Serves : {D F : Type 0} → (D → State) → Print → Event → Volume D F → Volume D F → Disk
    → Outcome → Type 0
Serves state print (Begin who op) v v' d outcome =
    MayBegin v.parts who × Opens state print who op v v' d outcome
Serves state print (Advance who) v v' d outcome = GoesOn state print who v v' d outcome
Serves state print Daemon v v' d outcome = DaemonWorks state print v v' d outcome
Serves state print Reclaim v v' d outcome = ReclaimWorks state print v v' d outcome

-- What `step` promises. A stopped volume answers so, and one that isn't for the actor is told so:
-- nothing changes then. Else a machine serves it.
pub record Steps {D F : Type 0} (state : D → State) (print : Print) (event : Event)
    (v v' : Volume D F) (outcome : Outcome) : Type 0 where
  pub stopped : v.parts.stopped ≡ true → (outcome ≡ told.Stopped) × (v' ≡ v)
  pub not_yours : v.parts.stopped ≡ false → IsNotYours v.parts event
      → (outcome ≡ told.NotYours) × (v' ≡ v)
  pub serves : (d : Disk) → IsVolume d v.parts (state v.device)
      → (IsNotYours v.parts event → ⊥) → Serves state print event v v' d outcome

-- what the event of reclaim does that is made in place of a begin that waits
abbrev pub ReleasesInstead : {D F : Type 0} → (D → State) → Print → Volume D F → Volume D F → Disk
    → Outcome → Type 0
ReleasesInstead state print v v' d (told.Running left) = ⊥
ReleasesInstead state print v v' d (told.Done reply) = ⊥
ReleasesInstead state print v v' d (told.Busy holder) = ⊥
ReleasesInstead state print v v' d (told.Released left) =
    MovesOn state print 16 v v' d × ReleaseLowers v.parts v'.parts left
ReleasesInstead state print v v' d told.Idle = ⊥
ReleasesInstead state print v v' d told.NotYours = ⊥
ReleasesInstead state print v v' d told.NoMemory = IsUntouched state v v' d
ReleasesInstead state print v v' d told.Stopped = Breaks state print 16 None v v' d
