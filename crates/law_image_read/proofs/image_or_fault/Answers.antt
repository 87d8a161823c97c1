use Rattle.law_image_read.proofs.ImageRead.{read_to_links}
use Rattle.law_image_read.proofs.Stay.{stay}
use Rattle.law_image_read.proofs.image_or_fault.Goals as goal

pub returns-clause-read : goal.returns-clause-read
returns-clause-read c = read_to_links

pub returns-clause-stay : goal.returns-clause-stay
returns-clause-stay c = stay
