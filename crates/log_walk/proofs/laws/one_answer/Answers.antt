use Rattle.log_walk.proofs.OneEnd.{one_log, one_fault, log_or_fault}
use Rattle.log_walk.proofs.laws.one_answer.Goals as goal

pub returns-clause-log : goal.returns-clause-log
returns-clause-log c = one_log

pub returns-clause-fault : goal.returns-clause-fault
returns-clause-fault c = one_fault

pub returns-clause-either : goal.returns-clause-either
returns-clause-either c = log_or_fault
