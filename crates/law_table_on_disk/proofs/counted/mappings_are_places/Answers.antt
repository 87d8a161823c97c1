use Rattle.law_write.proofs.WriteValid.{mapped_counts}
use Rattle.law_table_on_disk.proofs.Mappings.{counted_mapped, one_place, blocks_tell}
use Rattle.law_table_on_disk.proofs.counted.mappings_are_places.Goals as goal

pub returns-clause-counted : goal.returns-clause-counted
returns-clause-counted c = λ d page. (mapped_counts d page, counted_mapped d page)

pub returns-clause-one : goal.returns-clause-one
returns-clause-one c = one_place

pub returns-clause-blocks : goal.returns-clause-blocks
returns-clause-blocks c = blocks_tell
