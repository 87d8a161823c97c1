use Rattle.law_flags.proofs.Tags.{mask_one_word, mask_maps, mask_pages, mask_own, mask_settled}
use Rattle.law_flags.proofs.mask_is_set.Goals as goal

pub returns-clause-one_word : goal.returns-clause-one_word
returns-clause-one_word c = mask_one_word

pub returns-clause-places : goal.returns-clause-places
returns-clause-places c = mask_maps

pub returns-clause-pages : goal.returns-clause-pages
returns-clause-pages c = mask_pages

pub returns-clause-own : goal.returns-clause-own
returns-clause-own c = λ print d ino mask slot log may keeps own. mask_own d ino mask slot log may print keeps own

pub returns-clause-settled : goal.returns-clause-settled
returns-clause-settled c = mask_settled
