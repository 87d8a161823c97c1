use Rattle.dn_volume.proofs.Wants.{inodes_are_short}
use Rattle.dn_volume.proofs.laws.inodes_are_short.Goals as goal

pub returns : goal.returns
returns c = inodes_are_short
