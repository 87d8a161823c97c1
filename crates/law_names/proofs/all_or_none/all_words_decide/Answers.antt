use Rattle.law_names.proofs.AllWords.{all_or_none_images, all_or_none_stands, disk_shut}
use Rattle.law_names.proofs.all_or_none.all_words_decide.Goals as goal

pub returns-clause-images : goal.returns-clause-images
returns-clause-images c = all_or_none_images

pub returns-clause-stands : goal.returns-clause-stands
returns-clause-stands c = all_or_none_stands

pub returns-clause-shut : goal.returns-clause-shut
returns-clause-shut c = disk_shut
