use Rattle.std.proofs.Common.{sym, ◌∙◌}
use Rattle.file_index.specs.Radix.{cells}
use Rattle.file_index.proofs.PageMaps.{get_is}
use Rattle.file_index.proofs.page_map.PageMap.get.Goals as goal

pub returns : goal.returns
returns c =
    let read = rw c.deref.ensures.value at c.read_cell.ensures in
    rw (← c.self.view_is) (read ∙ sym (get_is (cells c.self.inside.nodes.items) (cells c.self.inside.spare.items) c.args.idx c.self.invariant.radix))
