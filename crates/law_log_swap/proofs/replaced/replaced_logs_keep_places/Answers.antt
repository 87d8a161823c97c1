use Rattle.law_log_swap.proofs.ReplacedLog.{may_relog, two_pages_spared}
use Rattle.law_log_swap.proofs.replaced.replaced_logs_keep_places.Goals as goal

pub returns-clause-places : goal.returns-clause-places
returns-clause-places c = may_relog

pub returns-clause-left : goal.returns-clause-left
returns-clause-left c = two_pages_spared
