use Rattle.log_worth.proofs.is_file_worth_cleaning.Goals as goal

pub returns : goal.returns
returns c = λ g ino log some good long size_is kept_is.
    c.is_worth_cleaning.ensures.log ino log long (c.file_slots.ensures.cleaned g ino log some good size_is kept_is)
