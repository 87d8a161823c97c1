use Rattle.law_table_read.proofs.Tables.{tables_read_or_faulty}
use Rattle.law_table_read.proofs.table_or_fault.Goals as goal

pub returns : goal.returns
returns c = tables_read_or_faulty
