-- A volume on which all work is done.
use Rattle.std.specs.Prelude.{◌≡◌, ◌⊎◌, ◌↔◌, ℕ, List, [], ◌∷◌, ◌++◌, Contains}
use Rattle.std.specs.Prelude.{true, false}
use Rattle.pm_device.specs.State.{State, Rose}
use Rattle.dn_model.specs.Disk.{Disk}
use Rattle.dn_model.specs.Counts.{IsFree}
use Rattle.dn_model.specs.Own.{Print, IsOwn, Settled}
use Rattle.dn_volume.specs.declared.outcome.Outcome.{Outcome}
use Rattle.dn_volume.specs.declared.volume.Parts.{Parts}
use Rattle.dn_volume.specs.declared.volume.Volume.{Volume}
use Rattle.dn_volume.specs.Agrees.{IsVolume}
use Rattle.dn_volume.specs.Works.{DaemonRests, ReclaimRests}
use Rattle.dn_volume.specs.Resting.{IsAtRest}
use Rattle.dn_core.specs.declared.event.Event.{Event}
use Rattle.dn_core.specs.declared.event.Event.TheVariants.{Begin, Advance, Daemon, Reclaim}
use Rattle.dn_core.specs.declared.event.DrainFault.{DrainFault}
use Rattle.dn_core.specs.declared.event.DrainFault.TheVariants as fault
use Rattle.dn_core.specs.Run.{Run}

-- the daemon and reclaim have nothing to do
pub record AllRest (b : Parts) : Type 0 where
  pub daemon : DaemonRests b
  pub reclaim : ReclaimRests b

-- The daemon has nothing to do, and nothing waits to be released: counts change no more.
pub record CountsRest (b : Parts) : Type 0 where
  pub daemon : DaemonRests b
  pub none_waits : b.reclaiming.waiting ≡ 0

-- where counts rest, they do so still, and no count has changed
abbrev pub KeepsCounts : Parts → Parts → Type 0
KeepsCounts b b' = CountsRest b → CountsRest b' × (b'.trace.items ≡ b.trace.items)

-- an event of the daemon or of reclaim, and that it has nothing to do
abbrev pub IsWork : Event → Type 0
IsWork (Begin who op) = ⊥
IsWork (Advance who) = ⊥
IsWork Daemon = Unit {0}
IsWork Reclaim = Unit {0}

abbrev pub Rests : Event → Parts → Type 0
Rests (Begin who op) b = ⊥
Rests (Advance who) b = ⊥
Rests Daemon b = DaemonRests b
Rests Reclaim b = ReclaimRests b

-- of this program's words also
pub record IsSettled (print : Print) (d : Disk) : Type 0 where
  pub own : IsOwn print d
  pub shared : Settled d

-- the volume that is left: the words are at rest, and the free set is that of the disk
pub record Drained {D F : Type 0} (state : D → State) (print : Print) (v : Volume D F) : Type 0
  where
    pub running : v.parts.stopped ≡ false
    pub rests : AllRest v.parts
    pub disk : Disk
    pub volume : IsVolume disk v.parts (state v.device)
    pub at_rest : IsAtRest disk (state v.device)
    pub free : (page : ℕ) → Contains v.parts.free.free page ↔ IsFree disk page
    pub settled : IsOwn print disk → IsSettled print disk

-- events of reclaim and of the daemon in turn, of which reclaim's comes first; the last of the
-- daemon's may be missing
pub data AreFullRounds : List Event → Type 0 where
  no_round : AreFullRounds []
  one_more : {events : List Event} → AreFullRounds events
      → AreFullRounds ((events ++ Reclaim ∷ []) ++ Daemon ∷ [])

pub data AreRounds : List Event → Type 0 where
  full : {events : List Event} → AreFullRounds events → AreRounds events
  half : {events : List Event} → AreFullRounds events → AreRounds (events ++ Reclaim ∷ [])

-- why it wasn't drained
abbrev pub DrainFails : {D F : Type 0} → (D → State) → Volume D F → Volume D F → DrainFault
    → Type 0
DrainFails state u v fault.NoMemory = Unit {0}
DrainFails state u v fault.Stopped = (u.parts.stopped ≡ true)
    ⊎ Rose (state u.device).faults (state v.device).faults

-- what is made on the way: a run of such events
pub record Rounds {D F : Type 0} (state : D → State) (print : Print) (u v : Volume D F) : Type 0
  where
    pub events : List Event
    pub outcomes : List Outcome
    pub rounds : AreRounds events
    pub run : Run state print u events outcomes v
