use Rattle.std.proofs.Common.{◌≤◌, ◌-◌}
use Rattle.file_index.specs.Radix.{Clears, cells}
use Rattle.file_index.proofs.node.clear_from.Given as goal

abbrev pub invariant-loop-place : goal.invariant-loop-place
invariant-loop-place l = (l.from ≤ l.place) × Clears l.from l.place (cells l.initial.nodes.items) (cells l.nodes.items)

abbrev pub decreases-loop-place : goal.decreases-loop-place
decreases-loop-place l = l.end - l.place
