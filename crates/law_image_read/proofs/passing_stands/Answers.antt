use Rattle.law_image_read.proofs.Stands.{passing}
use Rattle.law_image_read.proofs.passing_stands.Goals as goal

pub returns : goal.returns
returns c = passing
