use Rattle.denova_session.proofs.Completes.{images}
use Rattle.denova_session.proofs.laws.faults_of_images_are_told.Goals as goal

pub returns : goal.returns
returns c = images
