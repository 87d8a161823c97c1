use Rattle.denova_session.proofs.Completes.{others}
use Rattle.denova_session.proofs.laws.other_words_are_told.Goals as goal

pub returns : goal.returns
returns c = others
