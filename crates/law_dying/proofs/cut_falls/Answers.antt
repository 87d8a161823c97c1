use Rattle.law_dying.specs.Dying.{Falls}
use Rattle.law_dying.proofs.SteppedDiffers.{stepped_one_word}
use Rattle.law_dying.proofs.SteppedFiles.{living_kept, own_kept}
use Rattle.law_dying.proofs.Steps.{fall_lowers, fall_steps, fall_drops}
use Rattle.law_dying.proofs.cut_falls.Goals as goal

pub returns-clause-one_word : goal.returns-clause-one_word
returns-clause-one_word c = λ d ino cut may. stepped_one_word d ino (Falls cut) (fall_steps d ino cut may)

pub returns-clause-lower : goal.returns-clause-lower
returns-clause-lower c = fall_lowers

pub returns-clause-living : goal.returns-clause-living
returns-clause-living c = λ d ino cut may. living_kept d ino (Falls cut) (fall_steps d ino cut may)

pub returns-clause-own : goal.returns-clause-own
returns-clause-own c = λ print d ino cut may. own_kept d ino (Falls cut) (fall_steps d ino cut may) print

pub returns-clause-place : goal.returns-clause-place
returns-clause-place c = fall_drops
