use Rattle.law_cut.proofs.Dropped.{writes_drop, writes_drop_mappings}
use Rattle.law_cut.proofs.writes_drop_mappings.Goals as goal

pub returns-clause-places : goal.returns-clause-places
returns-clause-places c = writes_drop

pub returns-clause-mappings : goal.returns-clause-mappings
returns-clause-mappings c = writes_drop_mappings
