-- What a run begins on, and what its steps leave.
use Rattle.std.specs.Prelude.{◌≡◌, ℕ, ◌≤◌, List, Result, Ok, Err}
use Rattle.pm_device.specs.Past.{moment}
use Rattle.pm_device.specs.State.{State, Rose}
use Rattle.pm_device.specs.Settled.{Extends}
use Rattle.dn_model.specs.Disk.{Disk}
use Rattle.dn_model.specs.Counts.{Exact}
use Rattle.dn_model.specs.Files.{files, IsSameFiles}
use Rattle.dn_model.specs.Own.{Print}
use Rattle.dn_model.specs.Course.{Base}
use Rattle.dn_model.specs.declared.op.Op.{Op}
use Rattle.dn_volume.specs.declared.volume.Volume.{Volume}
use Rattle.dn_volume.specs.Accounts.{KeepsAlone}
use Rattle.dn_volume.specs.Agrees.{IsVolume}
use Rattle.dn_volume.specs.Sound.{Sound}
use Rattle.dn_mount.specs.declared.fault.MountFault.{MountFault}
use Rattle.dn_mount.specs.declared.fault.MountFault.TheVariants as why
use Rattle.job_runs.specs.declared.script.RunFault.{RunFault}
use Rattle.job_runs.specs.declared.script.RunFault.TheVariants as fault
use Rattle.job_runs.specs.declared.plan.Order.{Order}
use Rattle.denova_runs.specs.declared.run.RunEnd.{RunEnd}
use Rattle.denova_runs.specs.declared.run.RunEnd.TheVariants as end
use Rattle.denova_runs.specs.Runs.{OfOpening, HasRun, HasRunPart}
use Rattle.denova_runs.specs.Ran.{TellsOf}

-- how a run ends where its image isn't mounted
abbrev pub end_of_mount : MountFault → RunEnd
end_of_mount (why.Image fault) = end.Faulty fault
end_of_mount why.NoMemory = end.NoMemory
end_of_mount why.Failed = end.Failed

-- and where a run on a volume isn't finished, with the device that comes back
abbrev pub end_of_run : {D F : Type 0} → Volume D F → RunFault → RunEnd × D
end_of_run v fault.NoMemory = (end.NoMemory, v.device)
end_of_run v fault.Stopped = (end.Stopped v.parts.history, v.device)

-- a run that begins with this disk, when the device was so
abbrev pub base_at : State → Disk → Base
base_at s disk = record { disk = disk; start = moment s.past; faults = s.faults }

-- The volume is one of a disk that a mount made of d: it has the files of d, its counts are exact,
-- and no place is left alone that wasn't. Its run begins before the mount, when the device was so;
-- since then the device was only told more.
pub record HasBase {D F : Type 0} (state : D → State) (print : Print) (s : State) (v : Volume D F)
    (d : Disk) : Type 0 where
  pub disk : Disk
  pub volume : IsVolume disk v.parts (state v.device)
  pub same : IsSameFiles (files disk) (files d)
  pub exact : Exact disk
  pub alone : KeepsAlone d disk
  pub sound : Sound state print (base_at s disk) v
  pub extends : Extends s.past (state v.device).past

-- it was mounted from a device that was so
pub record IsBegun {D F : Type 0} (state : D → State) (print : Print) (s : State)
    (v : Volume D F) : Type 0 where
  pub faults : s.faults ≤ (state v.device).faults
  pub base : OfOpening print s (HasBase state print s v)

-- the volume that a run leaves, from a device that was so
abbrev pub EndsRun : {D F : Type 0} → (D → State) → Print → Order → List (ℕ × List Op) → List ℕ
    → State → Volume D F → Result (Unit {0}) RunFault → Type 0
EndsRun state print order scripts turns s v (Ok done) = OfOpening print s
    (λ d. HasRun print order scripts turns d s (state v.device) (TellsOf state v))
EndsRun state print order scripts turns s v (Err fault.NoMemory) = OfOpening print s
    (λ d. HasRunPart print scripts d s (state v.device) (λ h. Unit {0}))
EndsRun state print order scripts turns s v (Err fault.Stopped) =
    Rose s.faults (state v.device).faults × OfOpening print s
    (λ d. HasRunPart print scripts d s (state v.device) (λ h. h ≡ v.parts.history.items))
