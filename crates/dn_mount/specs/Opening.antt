-- The parts of a volume over a device that was repaired.
use Rattle.std.specs.Prelude.{Result, Ok, Err}
use Rattle.pm_device.specs.State.{State}
use Rattle.dn_model.specs.Disk.{Disk}
use Rattle.dn_model.specs.Own.{Print}
use Rattle.dn_volume.specs.declared.volume.Parts.{Parts}
use Rattle.dn_volume.specs.declared.volume.Volume.{Volume}
use Rattle.dn_volume.specs.Accounts.{KeepsAlone}
use Rattle.dn_mount.specs.declared.fault.MountFault.{MountFault}
use Rattle.dn_mount.specs.declared.parts.Scan.{Scan}
use Rattle.dn_mount.specs.Kept.{KeepsFiles}
use Rattle.dn_mount.specs.Scanned.{IsFreshOf}
use Rattle.dn_mount.specs.Mounted.{IsRepaired, HasNoDying}

-- the words stood for d and were repaired, and the parts are those of what was read of them
pub record IsOpened (d : Disk) (b : Parts) (u : State) : Type 0 where
  pub scan : Scan
  pub repaired : IsRepaired d scan u
  pub fresh : IsFreshOf scan b

-- so it is with a disk that has the files of d, and no dying file
pub record IsReopened (print : Print) (d : Disk) (b : Parts) (u : State) : Type 0 where
  pub between : Disk
  pub keeps : KeepsFiles print d between
  pub alone : KeepsAlone d between
  pub no_dying : HasNoDying between
  pub opened : IsOpened between b u

-- the device afterwards: that of the volume, or that which comes back with the fault
abbrev pub device_after : {D F : Type 0} → Result (Volume D F) (MountFault × D) → D
device_after (Ok v) = v.device
device_after (Err back) = back.1
