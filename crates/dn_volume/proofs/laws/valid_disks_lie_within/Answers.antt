use Rattle.dn_volume.proofs.Within.{valid_disks_lie_within}
use Rattle.dn_volume.proofs.laws.valid_disks_lie_within.Goals as goal

pub returns : goal.returns
returns c = valid_disks_lie_within
