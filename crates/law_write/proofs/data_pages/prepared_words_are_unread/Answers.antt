use Rattle.law_write.proofs.Unread.{prepared_unsaid}
use Rattle.law_write.proofs.data_pages.prepared_words_are_unread.Goals as goal

pub returns : goal.returns
returns c = prepared_unsaid
