use Rattle.std.proofs.Common.{◌≡◌, take, ap, arith, take_all}
use Rattle.file_index.specs.Radix.{cells, filled}
use Rattle.file_index.proofs.Nodes.{missing_step, filled_start}
use Rattle.file_index.proofs.PageMaps.{cells_long}
use Rattle.file_index.proofs.node.missing.Goals as goal

pub loop-node-init : goal.loop-node-init
loop-node-init c = filled_start _

pub overflow_sub-missing : goal.overflow_sub-missing
overflow_sub-missing c =
    (missing_step c.args.nodes.now c.loop-node.node-index c.node-item.result c.loop-node.missing c.occupied-missing.result
    c.requires c.loop-node-test.true c.node-item.is c.loop-node.invariant c.occupied-missing.ensures).0

pub loop-node-preserved : goal.loop-node-preserved
loop-node-preserved c =
    (missing_step c.args.nodes.now c.loop-node.node-index c.node-item.result c.loop-node.missing c.occupied-missing.result
    c.requires c.loop-node-test.true c.node-item.is c.loop-node.invariant c.occupied-missing.ensures).1

pub returns : goal.returns
returns c =
    let all : take c.loop-node.node-index (cells c.args.nodes.now) ≡ cells c.args.nodes.now =
    take_all c.loop-node.node-index (cells c.args.nodes.now) (omega (arith, cells_long c.args.nodes.now, c.loop-node-test.false)) in
    omega (arith, c.loop-node.invariant, ap filled all)
