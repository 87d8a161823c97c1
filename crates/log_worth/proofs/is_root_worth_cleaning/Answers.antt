use Rattle.log_worth.proofs.is_root_worth_cleaning.Goals as goal

pub returns : goal.returns
returns c = λ log long kept_is. c.is_worth_cleaning.ensures.log 0 log long (c.root_slots.ensures.cleaned log kept_is)
