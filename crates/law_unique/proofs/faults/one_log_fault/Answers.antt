use Rattle.law_unique.proofs.LogFaults.{log_fault_one, log_fault_none}
use Rattle.law_unique.proofs.faults.one_log_fault.Goals as goal

pub returns-clause-one : goal.returns-clause-one
returns-clause-one c = log_fault_one

pub returns-clause-none : goal.returns-clause-none
returns-clause-none c = log_fault_none
