use Rattle.law_clean_count.proofs.WriteCounts.{writes_are_runs, file_takes_runs}
use Rattle.law_clean_count.proofs.runs_tell_slots.Goals as goal

pub returns-clause-writes : goal.returns-clause-writes
returns-clause-writes c = writes_are_runs

pub returns-clause-slots : goal.returns-clause-slots
returns-clause-slots c = file_takes_runs
