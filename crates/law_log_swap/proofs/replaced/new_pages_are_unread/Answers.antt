use Rattle.law_log_swap.proofs.ReplacedLog.{body_unsaid, body_stores}
use Rattle.law_log_swap.proofs.replaced.new_pages_are_unread.Goals as goal

pub returns-clause-unread : goal.returns-clause-unread
returns-clause-unread c = body_unsaid

pub returns-clause-stored : goal.returns-clause-stored
returns-clause-stored c = body_stores
