use Rattle.dn_model.proofs.L1.{agreeing_stands_for}
use Rattle.law_unique.proofs.RolledSame.{known_rolled}
use Rattle.law_unique.proofs.images.known_by_words_read.Goals as goal

pub returns-clause-closed : goal.returns-clause-closed
returns-clause-closed c = λ w w' d stands closed long agrees. agreeing_stands_for w w' d stands closed long agrees

pub returns-clause-open : goal.returns-clause-open
returns-clause-open c = known_rolled
