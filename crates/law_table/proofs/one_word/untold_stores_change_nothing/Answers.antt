use Rattle.law_table.proofs.Words.{untold_reads, untold_stands, untold_images}
use Rattle.law_table.proofs.one_word.untold_stores_change_nothing.Goals as goal

pub returns-clause-reads : goal.returns-clause-reads
returns-clause-reads c = untold_reads

pub returns-clause-stands : goal.returns-clause-stands
returns-clause-stands c = untold_stands

pub returns-clause-images : goal.returns-clause-images
returns-clause-images c = untold_images
