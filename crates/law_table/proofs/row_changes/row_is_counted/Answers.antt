use Rattle.law_table.proofs.Counted.{count_word_decides, recounts_rows}
use Rattle.law_table.proofs.row_changes.row_is_counted.Goals as goal

pub returns-clause-one_word : goal.returns-clause-one_word
returns-clause-one_word c = count_word_decides

pub returns-clause-one_row : goal.returns-clause-one_row
returns-clause-one_row c = recounts_rows
