use Rattle.law_log_swap.proofs.KeptPlaces.{own_kept, settled_kept}
use Rattle.law_log_swap.proofs.same_places.relogs_stay_own.Goals as goal

pub returns-clause-own : goal.returns-clause-own
returns-clause-own c = λ print d ino log may tells own. own_kept d ino log may print tells own

pub returns-clause-settled : goal.returns-clause-settled
returns-clause-settled c = settled_kept
