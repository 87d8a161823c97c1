-- Pages are fingerprinted and compared.
use Rattle.std.specs.Prelude.{ℕ}
use Rattle.pm_device.specs.State.{State}
use Rattle.dn_model.specs.Disk.{Disk}
use Rattle.law_write.specs.Events.{IsReadPage}
use Rattle.dn_volume.specs.declared.volume.Parts.{Parts}
use Rattle.dn_volume.specs.Agrees.{IsVolume}

-- the page is read on the disk that the volume stands for
abbrev pub IsRead : Parts → State → ℕ → Type 0
IsRead b s page = (d : Disk) → IsVolume d b s → IsReadPage d page
