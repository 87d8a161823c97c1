use Rattle.std.proofs.Common.{take_all}
use Rattle.file_index.proofs.Indexes.{lists_names}
use Rattle.file_index.proofs.name_map.NameMap.names.Goals as goal

pub returns : goal.returns
returns c =
    let all = take_all c.loop-entry.entry-index c.deref-entry-items.result.now c.loop-entry-test.false in
    rw (c.of.ensures, c.loop-entry.invariant, all, c.deref-entry-items.ensures.value, ← c.self.view_is) (lists_names c.self.inside.entries.items c.self.invariant.rising)
