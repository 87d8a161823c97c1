use Rattle.law_table_on_disk.proofs.Mappings.{counts_tell, row_page_free, mapped_once}
use Rattle.law_table_on_disk.proofs.counted.rows_tell_mappings.Goals as goal

pub returns-clause-counts : goal.returns-clause-counts
returns-clause-counts c = λ d row valid. counts_tell d valid row

pub returns-clause-freed : goal.returns-clause-freed
returns-clause-freed c = λ d row valid. row_page_free d valid row

pub returns-clause-unshared : goal.returns-clause-unshared
returns-clause-unshared c = λ d page valid. mapped_once d valid page
