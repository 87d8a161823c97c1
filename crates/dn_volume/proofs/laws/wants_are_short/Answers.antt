use Rattle.dn_volume.proofs.Lacks.{wants_are_short}
use Rattle.dn_volume.proofs.laws.wants_are_short.Goals as goal

pub returns : goal.returns
returns c = wants_are_short
