use Rattle.crash_tests.proofs.NewStill.{new_still}
use Rattle.crash_tests.proofs.opening.device_of.Goals as goal

pub returns : goal.returns
returns c = new_still _ _ c.in_ok-device.ensures.state
