use Rattle.law_unique.proofs.TableStops.{table_fault_one, table_fault_none}
use Rattle.law_unique.proofs.faults.one_table_fault.Goals as goal

pub returns-clause-one : goal.returns-clause-one
returns-clause-one c = table_fault_one

pub returns-clause-none : goal.returns-clause-none
returns-clause-none c = table_fault_none
