-- Events of the daemon and of reclaim while no operation is in flight.
use Rattle.std.specs.Prelude.{◌≡◌, ◌⊎◌, ◌<◌, ◌≤◌, true, false, List, Result, Ok, Err, Bool, IsSome}
use Rattle.pm_device.specs.State.{State, Rose}
use Rattle.dn_model.specs.Disk.{Disk}
use Rattle.dn_model.specs.Own.{Print}
use Rattle.dn_volume.specs.declared.outcome.Outcome.{Outcome}
use Rattle.dn_volume.specs.declared.volume.Parts.{Parts}
use Rattle.dn_volume.specs.declared.volume.Volume.{Volume}
use Rattle.dn_volume.specs.Agrees.{IsVolume}
use Rattle.dn_volume.specs.Cleans.{none_may_clean}
use Rattle.dn_volume.specs.Works.{work_left}
use Rattle.dn_core.specs.declared.event.Event.{Event}
use Rattle.dn_core.specs.declared.event.Event.TheVariants.{Begin, Advance, Daemon, Reclaim}
use Rattle.dn_core.specs.declared.event.DrainFault.{DrainFault}
use Rattle.dn_core.specs.declared.event.DrainFault.TheVariants as fault
use Rattle.dn_core.specs.Steps.{Steps}
use Rattle.dn_core.specs.Run.{Run}
use Rattle.dn_volume.specs.Resting.{AllLanded}
use Rattle.dn_core.specs.Rest.{AllRest, KeepsCounts, Rests}

-- what waits for the daemon and for reclaim is what it was, whichever logs may be cleaned, and so is
-- the trace
pub record SameTasks (b b' : Parts) : Type 0 where
  pub waiting : b'.reclaiming.waiting ≡ b.reclaiming.waiting
  pub queue : b'.queue.items ≡ b.queue.items
  pub sharing : b'.sharing ≡ b.sharing
  pub cleaning : b'.reclaiming.cleaning ≡ b.reclaiming.cleaning
  pub may : none_may_clean b' ≡ none_may_clean b
  pub left : work_left b' ≡ work_left b
  pub trace : b'.trace.items ≡ b.trace.items

-- the daemon is held up by a cleaning, with which reclaim goes on
pub record WaitsForCleaning (b b' : Parts) : Type 0 where
  pub begun : IsSome b.reclaiming.cleaning
  pub same : SameTasks b b'

-- less is left, or the daemon is held up so
abbrev pub GetsOn : Event → Parts → Parts → Type 0
GetsOn (Begin who op) b b' = ⊥
GetsOn (Advance who) b b' = ⊥
GetsOn Daemon b b' = (work_left b' < work_left b) ⊎ WaitsForCleaning b b'
GetsOn Reclaim b b' = work_left b' < work_left b

-- it had nothing to do, or it got on
abbrev pub WorksOn : Event → Parts → Parts → Bool → Type 0
WorksOn event b b' true = Rests event b × SameTasks b b'
WorksOn event b b' false = (Rests event b → ⊥) × GetsOn event b b'

-- such an event
abbrev pub EndsOnce : {D F : Type 0} → (D → State) → Event → Volume D F → Volume D F
    → Result Bool DrainFault → Type 0
EndsOnce state event v v' (Ok idle) =
    WorksOn event v.parts v'.parts idle × ((d : Disk) × IsVolume d v'.parts (state v'.device))
    × KeepsCounts v.parts v'.parts
EndsOnce state event v v' (Err fault.NoMemory) = SameTasks v.parts v'.parts
EndsOnce state event v v' (Err fault.Stopped) = ((v.parts.stopped ≡ true) × (v' ≡ v))
    ⊎ ((Rests event v.parts → ⊥) × Rose (state v.device).faults (state v'.device).faults)

pub record WorksOnce {D F : Type 0} (state : D → State) (print : Print) (event : Event)
    (v v' : Volume D F) (result : Result Bool DrainFault) : Type 0 where
  pub outcome : Outcome
  pub steps : Steps state print event v v' outcome
  pub landed : AllLanded v'.parts
  pub history : v'.parts.history.items ≡ v.parts.history.items
  pub faults : (state v.device).faults ≤ (state v'.device).faults
  pub ends : EndsOnce state event v v' result

-- so far
pub record Draining {D F : Type 0} (state : D → State) (print : Print) (u v : Volume D F)
    (events : List Event) : Type 0 where
  pub outcomes : List Outcome
  pub run : Run state print u events outcomes v
  pub landed : AllLanded v.parts
  pub history : v.parts.history.items ≡ u.parts.history.items
  pub quiet : AllRest u.parts → AllRest v.parts × (v.parts.trace.items ≡ u.parts.trace.items)
  pub keeps : KeepsCounts u.parts v.parts
  pub faults : (state u.device).faults ≤ (state v.device).faults
  pub stopped : v.parts.stopped ≡ true → u.parts.stopped ≡ true
