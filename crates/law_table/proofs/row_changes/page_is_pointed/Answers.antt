use Rattle.law_table.proofs.Pointed.{pointer_decides, rows_repointed, fresh_may_point, pointed_may_put, stale_may_clear}
use Rattle.law_table.proofs.Gone.{taken_may_clear}
use Rattle.law_table.proofs.row_changes.page_is_pointed.Goals as goal

pub returns-clause-one_word : goal.returns-clause-one_word
returns-clause-one_word c = pointer_decides

pub returns-clause-rows_same : goal.returns-clause-rows_same
returns-clause-rows_same c = rows_repointed

pub returns-clause-led : goal.returns-clause-led
returns-clause-led c = fresh_may_point

pub returns-clause-put : goal.returns-clause-put
returns-clause-put c = pointed_may_put

pub returns-clause-taken : goal.returns-clause-taken
returns-clause-taken c = taken_may_clear

pub returns-clause-stale : goal.returns-clause-stale
returns-clause-stale c = stale_may_clear
