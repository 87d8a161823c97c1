use Rattle.law_names.proofs.Operating.{named_created, named_removed, named_renamed}
use Rattle.law_names.proofs.names.operations_name.Goals as goal

pub returns-clause-creations : goal.returns-clause-creations
returns-clause-creations c = named_created

pub returns-clause-removals : goal.returns-clause-removals
returns-clause-removals c = named_removed

pub returns-clause-renamings : goal.returns-clause-renamings
returns-clause-renamings c = λ d from to ino replaced fresh may. named_renamed d from to ino replaced fresh
