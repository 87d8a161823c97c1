use Rattle.log_replace.proofs.CleanedDisk.{clean_replaces, cleaned_valid, cleaned_files, cleaned_data}
use Rattle.log_replace.proofs.laws.cleaned_disks_keep_data.Goals as goal

pub returns-clause-replaces : goal.returns-clause-replaces
returns-clause-replaces c = clean_replaces

pub returns-clause-valid : goal.returns-clause-valid
returns-clause-valid c = cleaned_valid

pub returns-clause-files : goal.returns-clause-files
returns-clause-files c = cleaned_files

pub returns-clause-data : goal.returns-clause-data
returns-clause-data c = cleaned_data
