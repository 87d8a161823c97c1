use Rattle.law_names.specs.NameChange.{name_changes, names_changed}
use Rattle.law_names.proofs.AllWords.{all_or_none_images, all_or_none_stands}
use Rattle.law_names.proofs.Commits.{names_all_or_none, names_suffice}
use Rattle.law_names.proofs.names.name_changes_are_all_or_none.Goals as goal

pub returns-clause-decide : goal.returns-clause-decide
returns-clause-decide c = names_all_or_none

pub returns-clause-suffice : goal.returns-clause-suffice
returns-clause-suffice c = names_suffice

pub returns-clause-images : goal.returns-clause-images
returns-clause-images c = λ d change may who s t agree size stands ready leaves.
    all_or_none_images d (names_changed d change) (name_changes d change) (names_all_or_none d change may) who s t agree size stands
    (names_suffice d change may who s ready) leaves

pub returns-clause-stands : goal.returns-clause-stands
returns-clause-stands c = λ d change may who s t agree size stands ready done.
    all_or_none_stands d (names_changed d change) (name_changes d change) (names_all_or_none d change may) who s t agree size stands
    (names_suffice d change may who s ready) done
