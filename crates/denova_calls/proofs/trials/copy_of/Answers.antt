use Rattle.denova_calls.proofs.Copies.{new_still}
use Rattle.denova_calls.proofs.trials.copy_of.Goals as goal

pub returns-clause-still : goal.returns-clause-still
returns-clause-still c = new_still _ _ c.in_ok-device.ensures.state
