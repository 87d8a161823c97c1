use Rattle.law_table_on_disk.proofs.Removed.{takes, close_one_word, unlink_one_word, remove_exact, remove_own}
use Rattle.law_table_on_disk.proofs.row_changes.row_is_removed.Goals as goal

pub returns-clause-closed : goal.returns-clause-closed
returns-clause-closed c = close_one_word

pub returns-clause-unlinked : goal.returns-clause-unlinked
returns-clause-unlinked c = unlink_one_word

pub returns-clause-one_row : goal.returns-clause-one_row
returns-clause-one_row c = takes

pub returns-clause-exact : goal.returns-clause-exact
returns-clause-exact c = remove_exact

pub returns-clause-own : goal.returns-clause-own
returns-clause-own c = λ print d row valid has. remove_own d row valid has print
