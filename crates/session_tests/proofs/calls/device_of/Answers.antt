use Rattle.denova_calls.proofs.Copies.{new_still}
use Rattle.session_tests.proofs.calls.device_of.Goals as goal

pub returns : goal.returns
returns c = new_still _ _ c.in_ok-device.ensures.state
