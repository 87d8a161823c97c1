use Rattle.law_table_on_disk.proofs.PutRows.{link_one_word, link_puts, link_exact, link_own}
use Rattle.law_table_on_disk.proofs.row_changes.row_is_linked.Goals as goal

pub returns-clause-one_word : goal.returns-clause-one_word
returns-clause-one_word c = link_one_word

pub returns-clause-one_row : goal.returns-clause-one_row
returns-clause-one_row c = link_puts

pub returns-clause-exact : goal.returns-clause-exact
returns-clause-exact c = link_exact

pub returns-clause-own : goal.returns-clause-own
returns-clause-own c = λ print d prefix row may. link_own d prefix row may print
