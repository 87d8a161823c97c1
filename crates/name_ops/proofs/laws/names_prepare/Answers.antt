use Rattle.name_ops.proofs.Prepared.{names_prepare}
use Rattle.name_ops.proofs.laws.names_prepare.Goals as goal

pub returns : goal.returns
returns g c = names_prepare g.D.Pm.state
