use Rattle.denova_calls.proofs.Completes.{images}
use Rattle.denova_calls.proofs.laws.faults_of_images_are_told.Goals as goal

pub returns : goal.returns
returns c = images
