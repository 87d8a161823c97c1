use Rattle.law_clean.proofs.Cleaning.{maps_alike, keeps_places, keeps_done}
use Rattle.law_clean.proofs.cleaned_logs_keep_places.Goals as goal

pub returns-clause-alike : goal.returns-clause-alike
returns-clause-alike c = maps_alike

pub returns-clause-places : goal.returns-clause-places
returns-clause-places c = keeps_places

pub returns-clause-done : goal.returns-clause-done
returns-clause-done c = keeps_done
