use Rattle.law_table_on_disk.proofs.Recounted.{recount_one_word, recount_exact, recount_own}
use Rattle.law_table_on_disk.proofs.counts.row_is_recounted.Goals as goal

pub returns-clause-one_word : goal.returns-clause-one_word
returns-clause-one_word c = recount_one_word

pub returns-clause-exact : goal.returns-clause-exact
returns-clause-exact c = recount_exact

pub returns-clause-own : goal.returns-clause-own
returns-clause-own c = λ print d slot rfc uc own. recount_own d slot rfc uc print own
