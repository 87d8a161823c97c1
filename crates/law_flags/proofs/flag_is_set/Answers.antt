use Rattle.law_flags.proofs.Tags.{flag_one_word, flag_maps, flag_pages, flag_own, flag_settled}
use Rattle.law_flags.proofs.flag_is_set.Goals as goal

pub returns-clause-one_word : goal.returns-clause-one_word
returns-clause-one_word c = flag_one_word

pub returns-clause-places : goal.returns-clause-places
returns-clause-places c = flag_maps

pub returns-clause-pages : goal.returns-clause-pages
returns-clause-pages c = flag_pages

pub returns-clause-own : goal.returns-clause-own
returns-clause-own c = λ print d ino flag slot log may done own. flag_own d ino flag slot log may print done own

pub returns-clause-settled : goal.returns-clause-settled
returns-clause-settled c = flag_settled
