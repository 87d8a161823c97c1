use Rattle.std.proofs.Common.{◌≡◌, ◌≤◌, ◌-◌, length, All, vec_len}
use Rattle.file_index.specs.Radix.{cells}
use Rattle.file_index.proofs.node.empty_nodes.Given as goal

abbrev pub invariant-loop-alloc : goal.invariant-loop-alloc
invariant-loop-alloc l = (vec_len l.nodes ≤ 64) × All (λ n. length n ≡ 0) (cells l.nodes.items)

abbrev pub decreases-loop-alloc : goal.decreases-loop-alloc
decreases-loop-alloc l = 64 - vec_len l.nodes
