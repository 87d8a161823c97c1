use Rattle.volume_tests.proofs.NewStill.{new_still}
use Rattle.volume_tests.proofs.harness.device_of.Goals as goal

pub returns : goal.returns
returns c = new_still _ _ c.in_ok-device.ensures.state
