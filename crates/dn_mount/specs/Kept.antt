-- Events that change no file, one after another.
use Rattle.std.specs.Prelude.{◌≡◌, ◌≤◌}
use Rattle.pm_device.specs.State.{State}
use Rattle.pm_device.specs.Settled.{LeavesOnly}
use Rattle.dn_model.specs.Disk.{Disk}
use Rattle.dn_model.specs.Files.{files, IsSameFiles}
use Rattle.dn_model.specs.Own.{Print, IsOwn}
use Rattle.dn_volume.specs.declared.volume.Volume.{Volume}
use Rattle.dn_volume.specs.Agrees.{IsVolume}
use Rattle.table_repair.specs.Later.{HasLater}

-- the same files, and this program's if that was
pub record KeepsFiles (print : Print) (d e : Disk) : Type 0 where
  pub same : IsSameFiles (files e) (files d)
  pub own : IsOwn print d → IsOwn print e

-- any number of events: the volume agrees with a disk that has the files of before, as has each
-- image on the way
pub record StaysOn {D F : Type 0} (state : D → State) (print : Print) (v v' : Volume D F)
    (d : Disk) : Type 0 where
  pub after : Disk
  pub volume : IsVolume after v'.parts (state v'.device)
  pub keeps : KeepsFiles print d after
  pub images : LeavesOnly (state v.device) (state v'.device) (HasLater (KeepsFiles print) d)
  pub history : v'.parts.history.items ≡ v.parts.history.items
  pub faults : (state v.device).faults ≤ (state v'.device).faults
