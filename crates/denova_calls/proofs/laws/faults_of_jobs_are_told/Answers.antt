use Rattle.denova_calls.proofs.Completes.{bad_lines, too_long, bad_turns}
use Rattle.denova_calls.proofs.laws.faults_of_jobs_are_told.Goals as goal

pub returns-clause-bad_line : goal.returns-clause-bad_line
returns-clause-bad_line c = bad_lines

pub returns-clause-too_long : goal.returns-clause-too_long
returns-clause-too_long c = too_long

pub returns-clause-bad_turn : goal.returns-clause-bad_turn
returns-clause-bad_turn c = bad_turns
