use Rattle.dn_volume.proofs.SoundStays.{stands_left}
use Rattle.dn_volume.proofs.laws.fast_devices_leave.Goals as goal

pub returns : goal.returns
returns c = stands_left
