use Rattle.dn_volume.proofs.OthersStay.{others_stay}
use Rattle.dn_volume.proofs.laws.others_stay.Goals as goal

pub returns : goal.returns
returns c = others_stay
