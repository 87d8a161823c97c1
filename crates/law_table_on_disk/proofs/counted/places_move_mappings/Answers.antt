use Rattle.law_table_on_disk.proofs.Mappings.{inode_moves, place_moves, place_mapped, place_unmapped, place_mapped_over, near_stays}
use Rattle.law_table_on_disk.proofs.counted.places_move_mappings.Goals as goal

pub returns-clause-inode : goal.returns-clause-inode
returns-clause-inode c = inode_moves

pub returns-clause-place : goal.returns-clause-place
returns-clause-place c = place_moves

pub returns-clause-mapped : goal.returns-clause-mapped
returns-clause-mapped c = λ ino idx old new m is. place_mapped ino idx old new is m

pub returns-clause-unmapped : goal.returns-clause-unmapped
returns-clause-unmapped c = λ ino idx old new m is. place_unmapped ino idx old new is m

pub returns-clause-mapped_over : goal.returns-clause-mapped_over
returns-clause-mapped_over c = λ ino idx old new m n is. place_mapped_over ino idx old new is m n

pub returns-clause-near : goal.returns-clause-near
returns-clause-near c = near_stays
