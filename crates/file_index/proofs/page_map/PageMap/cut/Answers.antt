use Rattle.std.proofs.Common.{arith}
use Rattle.file_index.specs.Radix.{cells}
use Rattle.file_index.proofs.PageMaps.{cells_long, few_nodes, cut_off, radix_cleared}
use Rattle.file_index.proofs.RunCounts.{cut_runs}
use Rattle.file_index.proofs.page_map.PageMap.cut.Goals as goal

pub clear_from-requires-clause-few : goal.clear_from-requires-clause-few
clear_from-requires-clause-few c =
    let nodes = c.self.inside.nodes in
    omega (arith, few_nodes (cells nodes.items) (cells c.self.inside.spare.items) c.self.invariant.radix, cells_long nodes.items, nodes.ok.0)

pub overflow_sub-self : goal.overflow_sub-self
overflow_sub-self c =
    let count = rw c.deref.ensures.value at c.count_runs.ensures in
    omega (arith, count, c.self.invariant.counted)

pub invariant_of-self : goal.invariant_of-self
invariant_of-self c =
    let nodes = cells c.self.inside.nodes.items in
    let spare = cells c.self.inside.spare.items in
    let new = cells c.clear_from.new.nodes.items in
    let count = rw c.deref.ensures.value at c.count_runs.ensures in
    record {
      radix = radix_cleared nodes spare _ c.self.invariant.radix new c.clear_from.ensures;
      counted = omega (arith, cut_runs nodes spare c.self.inside.runs c.self.invariant c.args.idx c.count_runs.result new c.clear_from.ensures count);
    }

pub returns : goal.returns
returns c =
    rw (← c.self.view_is)
    (cut_off (cells c.self.inside.nodes.items) (cells c.self.inside.spare.items) c.args.idx c.self.invariant.radix
    (cells c.clear_from.new.nodes.items) c.clear_from.ensures)
