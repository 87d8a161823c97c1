use Rattle.law_dying.specs.Dying.{Ends}
use Rattle.law_dying.proofs.SteppedDiffers.{stepped_one_word}
use Rattle.law_dying.proofs.SteppedFiles.{living_kept, own_kept}
use Rattle.law_dying.proofs.Steps.{end_steps, end_drops}
use Rattle.law_dying.proofs.dying_inode_ends.Goals as goal

pub returns-clause-one_word : goal.returns-clause-one_word
returns-clause-one_word c = λ d ino may. stepped_one_word d ino Ends (end_steps d ino may)

pub returns-clause-living : goal.returns-clause-living
returns-clause-living c = λ d ino may. living_kept d ino Ends (end_steps d ino may)

pub returns-clause-own : goal.returns-clause-own
returns-clause-own c = λ print d ino may. own_kept d ino Ends (end_steps d ino may) print

pub returns-clause-log : goal.returns-clause-log
returns-clause-log c = end_drops
