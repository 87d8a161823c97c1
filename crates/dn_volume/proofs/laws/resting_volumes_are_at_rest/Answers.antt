use Rattle.dn_volume.proofs.Resting.{resting}
use Rattle.dn_volume.proofs.laws.resting_volumes_are_at_rest.Goals as goal

pub returns : goal.returns
returns c = resting
