use Rattle.law_log_swap.proofs.KeptPlaces.{keeps_data, moves_log}
use Rattle.law_log_swap.proofs.same_places.relogs_keep_data.Goals as goal

pub returns-clause-data : goal.returns-clause-data
returns-clause-data c = keeps_data

pub returns-clause-pages : goal.returns-clause-pages
returns-clause-pages c = moves_log
