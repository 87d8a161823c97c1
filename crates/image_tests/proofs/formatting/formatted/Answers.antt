use Rattle.pm_device.proofs.Layers.{settled_new}
use Rattle.image_tests.proofs.formatting.formatted.Goals as goal

pub format-answer-requires-clause-still : goal.format-answer-requires-clause-still
format-answer-requires-clause-still g c = λ a lt. settled_new _ _ a c.in_ok-device.ensures.state
