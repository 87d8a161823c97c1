use Rattle.law_share.proofs.Shared.{shared_valid, shared_images, shared_stands}
use Rattle.law_share.proofs.place_is_shared.Goals as goal

pub returns-clause-valid : goal.returns-clause-valid
returns-clause-valid c = shared_valid

pub returns-clause-images : goal.returns-clause-images
returns-clause-images c = shared_images

pub returns-clause-stands : goal.returns-clause-stands
returns-clause-stands c = shared_stands
