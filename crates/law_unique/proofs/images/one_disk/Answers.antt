use Rattle.law_unique.proofs.OneImage.{disk_one}
use Rattle.law_unique.proofs.SameValid.{stands_same}
use Rattle.law_unique.proofs.images.one_disk.Goals as goal

pub returns-clause-one : goal.returns-clause-one
returns-clause-one c = disk_one

pub returns-clause-same : goal.returns-clause-same
returns-clause-same c = stands_same
