use Rattle.law_cut.proofs.CutCounts.{mappings_drop, stays_near}
use Rattle.law_cut.proofs.cuts_stay_near.Goals as goal

pub returns-clause-mappings : goal.returns-clause-mappings
returns-clause-mappings c = mappings_drop

pub returns-clause-near : goal.returns-clause-near
returns-clause-near c = stays_near
