use Rattle.law_table.proofs.Words.{word_settled, word_images, word_any_order, word_stands, word_reads}
use Rattle.law_table.proofs.one_word.one_table_word_decides.Goals as goal

pub returns-clause-settled : goal.returns-clause-settled
returns-clause-settled c = word_settled

pub returns-clause-images : goal.returns-clause-images
returns-clause-images c = word_images

pub returns-clause-any_order : goal.returns-clause-any_order
returns-clause-any_order c = word_any_order

pub returns-clause-stands : goal.returns-clause-stands
returns-clause-stands c = word_stands

pub returns-clause-reads : goal.returns-clause-reads
returns-clause-reads c = word_reads
