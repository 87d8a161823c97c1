use Rattle.law_table_on_disk.proofs.Frame.{keeps_files}
use Rattle.law_table_on_disk.proofs.one_word.table_changes_keep_files.Goals as goal

pub returns : goal.returns
returns c = keeps_files
