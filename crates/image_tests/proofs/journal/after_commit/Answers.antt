use Rattle.pm_device.specs.Settled.{Nowhere}
use Rattle.pm_device.proofs.Only.{stores_only-same}
use Rattle.pm_device.proofs.Layers.{settled_new, settled-stores}
use Rattle.pm_layout.specs.Geometry.{gate_word}
use Rattle.image_tests.proofs.journal.after_commit.Goals as goal

pub commit_all-done-requires-clause-settled : goal.commit_all-done-requires-clause-settled
commit_all-done-requires-clause-settled g c =
    settled-stores Nowhere _ _ gate_word (stores_only-same Nowhere _ _ c.in_ok-device.device.agrees c.in_ok-ready.ensures.same) (λ h. h)
    (settled_new _ _ gate_word c.in_ok-device.ensures.state)
