use Rattle.law_write.proofs.WriteEvent.{stored_ready}
use Rattle.law_write.proofs.writes.stored_words_suffice.Goals as goal

pub returns : goal.returns
returns c = stored_ready
