use Rattle.law_clean.proofs.Runs.{runs_are_maximal, places_are_in_runs}
use Rattle.law_clean.proofs.Cleaning.{nothing_mapped}
use Rattle.law_clean.proofs.runs_are_maximal.Goals as goal

pub returns-clause-maximal : goal.returns-clause-maximal
returns-clause-maximal c = runs_are_maximal

pub returns-clause-places : goal.returns-clause-places
returns-clause-places c = places_are_in_runs

pub returns-clause-none : goal.returns-clause-none
returns-clause-none c = nothing_mapped
