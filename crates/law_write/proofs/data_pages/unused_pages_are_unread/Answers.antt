use Rattle.law_write.proofs.Unread.{unused_unsaid}
use Rattle.law_write.proofs.data_pages.unused_pages_are_unread.Goals as goal

pub returns : goal.returns
returns c = unused_unsaid
