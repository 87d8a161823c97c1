use Rattle.law_table_on_disk.proofs.PutRows.{open_one_word, open_puts_row, open_exact, open_own}
use Rattle.law_table_on_disk.proofs.row_changes.row_is_opened.Goals as goal

pub returns-clause-one_word : goal.returns-clause-one_word
returns-clause-one_word c = open_one_word

pub returns-clause-one_row : goal.returns-clause-one_row
returns-clause-one_row c = open_puts_row

pub returns-clause-exact : goal.returns-clause-exact
returns-clause-exact c = open_exact

pub returns-clause-own : goal.returns-clause-own
returns-clause-own c = λ print d prefix row may. open_own d prefix row may print
