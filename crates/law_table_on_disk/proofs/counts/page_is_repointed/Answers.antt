use Rattle.law_table_on_disk.proofs.Repointed.{repoint_one_word, repoint_exact, repoint_own}
use Rattle.law_table_on_disk.proofs.counts.page_is_repointed.Goals as goal

pub returns-clause-one_word : goal.returns-clause-one_word
returns-clause-one_word c = repoint_one_word

pub returns-clause-exact : goal.returns-clause-exact
returns-clause-exact c = repoint_exact

pub returns-clause-own : goal.returns-clause-own
returns-clause-own c = λ print d page value own. repoint_own d page value print own
