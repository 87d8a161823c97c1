use Rattle.law_image_read.proofs.Inodes.{read_disk, has_inodes}
use Rattle.image_head.proofs.Uses.{inodes_stay}
use Rattle.image_head.proofs.inodes.inodes_read.Goals as goal

pub returns-clause-read : goal.returns-clause-read
returns-clause-read c = λ words gate none. (read_disk words, has_inodes words gate none)

pub returns-clause-stay : goal.returns-clause-stay
returns-clause-stay c = inodes_stay
