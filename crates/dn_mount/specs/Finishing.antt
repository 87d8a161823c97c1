-- Events of reclaim after which no file is dying.
use Rattle.std.specs.Prelude.{◌≡◌, ℕ, false, Result, Ok, Err, None}
use Rattle.pm_device.specs.State.{State}
use Rattle.dn_model.specs.Disk.{Disk}
use Rattle.dn_model.specs.Own.{Print}
use Rattle.dn_volume.specs.declared.outcome.Outcome.{Outcome}
use Rattle.dn_volume.specs.declared.outcome.Outcome.TheVariants as told
use Rattle.dn_volume.specs.declared.volume.Parts.{Parts}
use Rattle.dn_volume.specs.declared.volume.Volume.{Volume}
use Rattle.dn_volume.specs.Accounts.{KeepsAlone}
use Rattle.dn_volume.specs.Events.{MovesOn}
use Rattle.dn_volume.specs.Resting.{AllLanded}
use Rattle.dn_volume.specs.Works.{ReleaseLowers}
use Rattle.dn_mount.specs.declared.fault.MountFault.{MountFault}
use Rattle.dn_mount.specs.declared.fault.MountFault.TheVariants.{NoMemory, Failed}
use Rattle.dn_mount.specs.Kept.{StaysOn}

-- what the answer of an event of reclaim is to a mount
abbrev pub result_of : Outcome → Result (Unit {0}) MountFault
result_of (told.Running left) = Ok tt
result_of (told.Done reply) = Ok tt
result_of (told.Busy holder) = Ok tt
result_of (told.Released waiting) = Ok tt
result_of told.Idle = Ok tt
result_of told.NotYours = Ok tt
result_of told.NoMemory = Err NoMemory
result_of told.Stopped = Err Failed

-- no fence failed, and neither a client nor the daemon has begun anything
pub record IsIdle (b : Parts) : Type 0 where
  pub running : b.stopped ≡ false
  pub landed : AllLanded b
  pub sharing : b.sharing ≡ None

-- an event of reclaim got on, and less waits
pub record Lowers {D F : Type 0} (state : D → State) (print : Print) (v v' : Volume D F)
    (d : Disk) : Type 0 where
  pub on : MovesOn state print 16 v v' d
  pub left : ℕ
  pub lowers : ReleaseLowers v.parts v'.parts left

-- Any number of them: the files are those of before, no place is left alone that wasn't, and the
-- same items wait for the daemon.
pub record Finishes {D F : Type 0} (state : D → State) (print : Print) (v v' : Volume D F)
    (d : Disk) : Type 0 where
  pub stays : StaysOn state print v v' d
  pub alone : KeepsAlone d stays.after
  pub queue : v'.parts.queue.items ≡ v.parts.queue.items
