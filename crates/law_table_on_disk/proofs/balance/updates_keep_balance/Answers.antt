use Rattle.law_table_on_disk.proofs.Balanced.{raise_balance, added_balance, dropped_balance, settle_up_balance, settle_down_balance, counted_balance}
use Rattle.law_table_on_disk.proofs.balance.updates_keep_balance.Goals as goal

pub returns-clause-raised : goal.returns-clause-raised
returns-clause-raised c = λ d row raised added dropped valid has. raise_balance d row valid has raised added dropped

pub returns-clause-added : goal.returns-clause-added
returns-clause-added c = added_balance

pub returns-clause-dropped : goal.returns-clause-dropped
returns-clause-dropped c = dropped_balance

pub returns-clause-settled_up : goal.returns-clause-settled_up
returns-clause-settled_up c = λ d row raised added dropped valid has. settle_up_balance d row valid has raised added dropped

pub returns-clause-settled_down : goal.returns-clause-settled_down
returns-clause-settled_down c = λ d row raised added dropped valid has. settle_down_balance d row valid has raised added dropped

pub returns-clause-counted : goal.returns-clause-counted
returns-clause-counted c = counted_balance
