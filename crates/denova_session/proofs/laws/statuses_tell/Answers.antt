use Rattle.denova_session.proofs.Statuses.{at_0, at_1, at_2, at_3, at_4, at_5, at_6, at_7, at_8, known}
use Rattle.denova_session.proofs.laws.statuses_tell.Goals as goal

pub returns-clause-done : goal.returns-clause-done
returns-clause-done c = at_0

pub returns-clause-usage : goal.returns-clause-usage
returns-clause-usage c = at_1

pub returns-clause-bad_job : goal.returns-clause-bad_job
returns-clause-bad_job c = at_2

pub returns-clause-faulty : goal.returns-clause-faulty
returns-clause-faulty c = at_3

pub returns-clause-stopped : goal.returns-clause-stopped
returns-clause-stopped c = at_4

pub returns-clause-unread : goal.returns-clause-unread
returns-clause-unread c = at_5

pub returns-clause-unwritten : goal.returns-clause-unwritten
returns-clause-unwritten c = at_6

pub returns-clause-no_memory : goal.returns-clause-no_memory
returns-clause-no_memory c = at_7

pub returns-clause-too_long : goal.returns-clause-too_long
returns-clause-too_long c = at_8

pub returns-clause-known : goal.returns-clause-known
returns-clause-known c = known
