use Rattle.std.proofs.Common.{◌-◌, ◌≤◌, All, vec_len}
use Rattle.file_index.specs.Radix.{IsFresh, cells}
use Rattle.file_index.proofs.node.made_nodes.Given as goal

abbrev pub invariant-loop-alloc : goal.invariant-loop-alloc
invariant-loop-alloc l = (vec_len l.made ≤ l.count) × All IsFresh (cells l.made.items)

abbrev pub decreases-loop-alloc : goal.decreases-loop-alloc
decreases-loop-alloc l = l.count - vec_len l.made
