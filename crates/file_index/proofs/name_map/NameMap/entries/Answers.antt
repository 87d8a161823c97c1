use Rattle.file_index.proofs.Indexes.{lists_entries}
use Rattle.file_index.proofs.name_map.NameMap.entries.Goals as goal

pub returns : goal.returns
returns c = rw (c.deref.ensures.value, ← c.self.view_is) (lists_entries c.self.inside.entries.items c.self.invariant.rising)
