use Rattle.law_table_read.proofs.RowRead.{rows_decided}
use Rattle.law_table_read.proofs.row_or_none.Goals as goal

pub returns : goal.returns
returns c = rows_decided
