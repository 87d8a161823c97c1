use Rattle.law_table_on_disk.proofs.OneWord.{one_word_images, one_word_any_order, one_word_stands, one_word_may_commit}
use Rattle.law_table_on_disk.proofs.one_word.one_word_decides.Goals as goal

pub returns-clause-images : goal.returns-clause-images
returns-clause-images c = one_word_images

pub returns-clause-any_order : goal.returns-clause-any_order
returns-clause-any_order c = one_word_any_order

pub returns-clause-stands : goal.returns-clause-stands
returns-clause-stands c = one_word_stands

pub returns-clause-may_commit : goal.returns-clause-may_commit
returns-clause-may_commit c = one_word_may_commit
