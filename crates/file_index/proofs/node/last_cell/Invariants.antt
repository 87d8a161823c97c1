use Rattle.std.proofs.Common.{ℕ, ◌≡◌, ◌<◌, ◌≤◌, ◌*◌, length, None}
use Rattle.file_index.specs.Radix.{look, cells}
use Rattle.file_index.proofs.node.last_cell.Given as goal

abbrev pub invariant-loop-end : goal.invariant-loop-end
invariant-loop-end l = (l.end ≤ l.from) × (l.end ≤ 64 * length l.nodes) × ((k : ℕ) → l.end ≤ k → k < l.from → look (cells l.nodes) k ≡ None)

abbrev pub decreases-loop-end : goal.decreases-loop-end
decreases-loop-end l = l.end
