use Rattle.law_unique.proofs.SameMeaning.{means_the_same}
use Rattle.law_unique.proofs.OneImage.{map_one}
use Rattle.law_unique.proofs.SameValid.{same_both_ways, same_valid}
use Rattle.law_unique.proofs.images.one_meaning.Goals as goal

pub returns-clause-both_ways : goal.returns-clause-both_ways
returns-clause-both_ways c = same_both_ways

pub returns-clause-valid : goal.returns-clause-valid
returns-clause-valid c = same_valid

pub returns-clause-disks : goal.returns-clause-disks
returns-clause-disks c = means_the_same

pub returns-clause-files : goal.returns-clause-files
returns-clause-files c = map_one
