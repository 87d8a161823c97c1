use Rattle.law_write.proofs.Unread.{prepared_not_in}
use Rattle.law_write.proofs.data_pages.prepared_words_are_apart.Goals as goal

pub returns : goal.returns
returns c = prepared_not_in
