use Rattle.law_names.proofs.OperatedFiles.{files_created, files_removed, files_renamed}
use Rattle.law_names.proofs.names.operations_change_files.Goals as goal

pub returns-clause-creations : goal.returns-clause-creations
returns-clause-creations c = files_created

pub returns-clause-removals : goal.returns-clause-removals
returns-clause-removals c = files_removed

pub returns-clause-renamings : goal.returns-clause-renamings
returns-clause-renamings c = files_renamed
