use Rattle.law_table.proofs.Gone.{closing_decides, unlink_decides, takes_row}
use Rattle.law_table.proofs.row_changes.row_goes.Goals as goal

pub returns-clause-closing : goal.returns-clause-closing
returns-clause-closing c = closing_decides

pub returns-clause-unlink : goal.returns-clause-unlink
returns-clause-unlink c = unlink_decides

pub returns-clause-one_row : goal.returns-clause-one_row
returns-clause-one_row c = takes_row
