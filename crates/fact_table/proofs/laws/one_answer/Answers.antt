use Rattle.fact_table.proofs.OneAnswer.{one_fault, table_or_fault}
use Rattle.fact_table.proofs.laws.one_answer.Goals as goal

pub returns-clause-fault : goal.returns-clause-fault
returns-clause-fault c = one_fault

pub returns-clause-either : goal.returns-clause-either
returns-clause-either c = table_or_fault
