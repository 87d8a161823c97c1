use Rattle.law_names.proofs.Commits.{fresh_ready, turn_ready, no_turn_ready}
use Rattle.law_names.proofs.names.fresh_names_are_ready.Goals as goal

pub returns-clause-parts : goal.returns-clause-parts
returns-clause-parts c = fresh_ready

pub returns-clause-stored : goal.returns-clause-stored
returns-clause-stored c = turn_ready

pub returns-clause-none : goal.returns-clause-none
returns-clause-none c = no_turn_ready
