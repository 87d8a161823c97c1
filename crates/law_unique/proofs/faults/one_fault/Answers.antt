use Rattle.law_unique.proofs.OneFault.{fault_one, fault_none}
use Rattle.law_unique.proofs.faults.one_fault.Goals as goal

pub returns-clause-one : goal.returns-clause-one
returns-clause-one c = fault_one

pub returns-clause-none : goal.returns-clause-none
returns-clause-none c = fault_none
