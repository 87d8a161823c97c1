use Rattle.law_table_on_disk.proofs.Remaps.{write_remaps, write_remaps_place, lowered_cut_unmaps}
use Rattle.law_table_on_disk.proofs.counted.changes_remap_places.Goals as goal

pub returns-clause-written : goal.returns-clause-written
returns-clause-written c = write_remaps

pub returns-clause-one_place : goal.returns-clause-one_place
returns-clause-one_place c = write_remaps_place

pub returns-clause-cut : goal.returns-clause-cut
returns-clause-cut c = lowered_cut_unmaps
