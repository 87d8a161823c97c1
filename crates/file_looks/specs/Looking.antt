-- A file of a volume.
use Rattle.std.specs.Prelude.{ℕ}
use Rattle.pm_device.specs.State.{State}
use Rattle.dn_model.specs.Disk.{Disk}
use Rattle.dn_volume.specs.declared.volume.Volume.{Volume}
use Rattle.dn_volume.specs.Agrees.{IsVolume}
use Rattle.data_begins.specs.Asked.{IsLiveFile}

-- this inode is a file, whatever disk the volume stands for
abbrev pub IsFile : {D F : Type 0} → (D → State) → Volume D F → ℕ → Type 0
IsFile state v ino = (d : Disk) → IsVolume d v.parts (state v.device) → IsLiveFile d ino
