use Rattle.std.proofs.lemmas.Option.{IfSome_then}
use Rattle.file_index.specs.Radix.{cells}
use Rattle.file_index.proofs.Nodes.{none_then}
use Rattle.file_index.proofs.PageMaps.{last_is, none_is}
use Rattle.file_index.proofs.page_map.PageMap.last_below.Goals as goal

pub returns-clause-last : goal.returns-clause-last
returns-clause-last c =
    let last = rw c.deref.ensures.value at c.last_cell.ensures.last in
    rw (← c.self.view_is)
    (IfSome_then c.last_cell.result last
    (λ n is. last_is (cells c.self.inside.nodes.items) (cells c.self.inside.spare.items) c.args.idx c.self.invariant.radix n is))

pub returns-clause-none : goal.returns-clause-none
returns-clause-none c =
    let none = rw c.deref.ensures.value at c.last_cell.ensures.none in
    rw (← c.self.view_is)
    (none_then c.last_cell.result none
    (λ is. none_is (cells c.self.inside.nodes.items) (cells c.self.inside.spare.items) c.args.idx c.self.invariant.radix is))
