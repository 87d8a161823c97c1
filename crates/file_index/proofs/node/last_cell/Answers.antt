use Rattle.std.proofs.Common.{arith}
use Rattle.file_index.proofs.Nodes.{look_beyond}
use Rattle.file_index.proofs.node.last_cell.Goals as goal

pub loop-end-init : goal.loop-end-init
loop-end-init c = (
  omega (arith, c.min-end.ensures),
  omega (arith, c.min-end.ensures),
  λ k low high. look_beyond c.args.nodes.now k (omega (arith, c.min-end.ensures)),
)
