use Rattle.law_table_on_disk.proofs.OneWord.{unread_stands, unread_images}
use Rattle.law_table_on_disk.proofs.one_word.unread_stores_change_nothing.Goals as goal

pub returns-clause-stands : goal.returns-clause-stands
returns-clause-stands c = unread_stands

pub returns-clause-images : goal.returns-clause-images
returns-clause-images c = unread_images
