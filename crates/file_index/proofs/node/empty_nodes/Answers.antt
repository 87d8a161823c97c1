use Rattle.std.proofs.Common.{arith}
use Rattle.file_index.specs.Radix.{cells}
use Rattle.file_index.proofs.Nodes.{opens_root}
use Rattle.file_index.proofs.PageMaps.{cells_long}
use Rattle.file_index.proofs.node.empty_nodes.Goals as goal

pub returns : goal.returns
returns c =
    let nodes = c.loop-alloc.nodes in
    opens_root (cells nodes.items)
    (omega (arith, cells_long nodes.items, nodes.ok.0, c.loop-alloc.invariant.0, c.loop-alloc-test.false, c.len.ensures)) c.loop-alloc.invariant.1
