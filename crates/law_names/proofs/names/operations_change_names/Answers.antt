use Rattle.law_names.proofs.Operating.{may_create, may_remove, may_rename}
use Rattle.law_names.proofs.names.operations_change_names.Goals as goal

pub returns-clause-creations : goal.returns-clause-creations
returns-clause-creations c = may_create

pub returns-clause-removals : goal.returns-clause-removals
returns-clause-removals c = may_remove

pub returns-clause-renamings : goal.returns-clause-renamings
returns-clause-renamings c = may_rename
