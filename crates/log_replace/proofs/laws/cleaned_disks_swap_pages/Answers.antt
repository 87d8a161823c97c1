use Rattle.log_replace.proofs.CleanedDisk.{cleaned_swaps, cleaned_own, cleaned_settled}
use Rattle.log_replace.proofs.laws.cleaned_disks_swap_pages.Goals as goal

pub returns-clause-pages : goal.returns-clause-pages
returns-clause-pages c = cleaned_swaps

pub returns-clause-own : goal.returns-clause-own
returns-clause-own c = cleaned_own

pub returns-clause-settled : goal.returns-clause-settled
returns-clause-settled c = cleaned_settled
