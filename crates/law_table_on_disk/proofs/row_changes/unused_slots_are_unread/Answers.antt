use Rattle.law_table_on_disk.proofs.UnusedSlots.{indirect_unread, closed_unread}
use Rattle.law_table_on_disk.proofs.row_changes.unused_slots_are_unread.Goals as goal

pub returns-clause-indirect : goal.returns-clause-indirect
returns-clause-indirect c = indirect_unread

pub returns-clause-direct : goal.returns-clause-direct
returns-clause-direct c = closed_unread
