use Rattle.law_log_swap.proofs.Relogged.{log_here, relogs, at_other, same_word, relogged_valid, relogged_says}
use Rattle.law_log_swap.proofs.KeptPlaces.{is_relog}
use Rattle.law_log_swap.proofs.same_places.relogs_stay_valid.Goals as goal

pub returns-clause-parts : goal.returns-clause-parts
returns-clause-parts c = λ d ino log. record {
  geometry = (relogs d ino log).geometry;
  log_here = log_here d ino log;
  use_here = (relogs d ino log).same_use;
  others = at_other d ino log;
  chain = (relogs d ino log).chain;
  pointer = (relogs d ino log).pointer;
  word = same_word d ino log;
}

pub returns-clause-valid : goal.returns-clause-valid
returns-clause-valid c = λ d ino log may. relogged_valid d ino log (is_relog d ino log may)

pub returns-clause-says : goal.returns-clause-says
returns-clause-says c = λ d ino log may. relogged_says d ino log (is_relog d ino log may)
