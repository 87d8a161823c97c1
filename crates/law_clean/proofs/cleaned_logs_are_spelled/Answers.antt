use Rattle.law_clean.proofs.Cleaning.{is_spelled, may_stand}
use Rattle.law_clean.proofs.cleaned_logs_are_spelled.Goals as goal

pub returns-clause-spelled : goal.returns-clause-spelled
returns-clause-spelled c = is_spelled

pub returns-clause-standing : goal.returns-clause-standing
returns-clause-standing c = may_stand
