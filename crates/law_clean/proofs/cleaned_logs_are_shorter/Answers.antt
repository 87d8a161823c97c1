use Rattle.law_clean.proofs.Cleaning.{is_shorter, names_take_no_more, empty_has_no_page}
use Rattle.law_clean.proofs.cleaned_logs_are_shorter.Goals as goal

pub returns-clause-worth : goal.returns-clause-worth
returns-clause-worth c = is_shorter

pub returns-clause-names : goal.returns-clause-names
returns-clause-names c = names_take_no_more

pub returns-clause-empty : goal.returns-clause-empty
returns-clause-empty c = empty_has_no_page
