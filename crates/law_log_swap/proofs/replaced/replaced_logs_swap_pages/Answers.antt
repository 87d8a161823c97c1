use Rattle.law_log_swap.proofs.ReplacedLog.{swaps_log, replaced_own, replaced_settled}
use Rattle.law_log_swap.proofs.replaced.replaced_logs_swap_pages.Goals as goal

pub returns-clause-pages : goal.returns-clause-pages
returns-clause-pages c = swaps_log

pub returns-clause-own : goal.returns-clause-own
returns-clause-own c = λ print d ino log may own. replaced_own d ino log may print own

pub returns-clause-settled : goal.returns-clause-settled
returns-clause-settled c = replaced_settled
