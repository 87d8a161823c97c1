use Rattle.law_table.proofs.Words.{held_run_ready, stored_run_ready, front_ready, ready_through, nothing_ready}
use Rattle.law_table_on_disk.proofs.one_word.fresh_words_are_ready.Goals as goal

pub returns-clause-held : goal.returns-clause-held
returns-clause-held c = held_run_ready

pub returns-clause-stored : goal.returns-clause-stored
returns-clause-stored c = stored_run_ready

pub returns-clause-front : goal.returns-clause-front
returns-clause-front c = front_ready

pub returns-clause-through : goal.returns-clause-through
returns-clause-through c = ready_through

pub returns-clause-none : goal.returns-clause-none
returns-clause-none c = nothing_ready
