use Rattle.denova_session.proofs.Completes.{bad_lines, too_long}
use Rattle.denova_session.proofs.laws.faults_of_jobs_are_told.Goals as goal

pub returns-clause-bad_line : goal.returns-clause-bad_line
returns-clause-bad_line c = bad_lines

pub returns-clause-too_long : goal.returns-clause-too_long
returns-clause-too_long c = too_long
