use Rattle.law_share.proofs.Shared.{balance_kept, others_balanced}
use Rattle.law_share.proofs.sharing_keeps_balance.Goals as goal

pub returns-clause-row : goal.returns-clause-row
returns-clause-row c = balance_kept

pub returns-clause-others : goal.returns-clause-others
returns-clause-others c = others_balanced
