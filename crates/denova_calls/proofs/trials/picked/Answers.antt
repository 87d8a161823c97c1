use Rattle.denova_calls.proofs.Copies.{left_even}
use Rattle.denova_calls.proofs.trials.picked.Goals as goal

pub returns-clause-even : goal.returns-clause-even
returns-clause-even g c = left_even _ _ c.requires c.args.v.device.agrees _ _ c.in_ok-image.ensures.left
