use Rattle.law_clean.proofs.Cleaning.{may_replace}
use Rattle.law_clean.proofs.cleaned_logs_may_replace.Goals as goal

pub returns : goal.returns
returns c = may_replace
