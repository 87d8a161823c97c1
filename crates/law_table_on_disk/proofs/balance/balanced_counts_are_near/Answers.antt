use Rattle.law_table_on_disk.proofs.Balanced.{balanced_near, balance_stays, new_row_balance}
use Rattle.law_table_on_disk.proofs.balance.balanced_counts_are_near.Goals as goal

pub returns-clause-near : goal.returns-clause-near
returns-clause-near c = balanced_near

pub returns-clause-stays : goal.returns-clause-stays
returns-clause-stays c = balance_stays

pub returns-clause-new_row : goal.returns-clause-new_row
returns-clause-new_row c = new_row_balance
