use Rattle.file_index.proofs.SlotCounts.{slots_of_map}
use Rattle.file_index.proofs.name_map.NameMap.add_slots.Goals as goal

pub returns : goal.returns
returns c = rw (← c.self.view_is) (slots_of_map c.self.inside.entries.items c.self.inside.slots c.self.invariant)
