use Rattle.std.proofs.Common.{◌≡◌, ◌+◌, ◌-◌, ◌*◌, ◌≤◌, length}
use Rattle.file_index.specs.Radix.{look, cells}
use Rattle.file_index.specs.Runs.{runs_below}
use Rattle.file_index.proofs.run_count.count_runs.Given as goal

abbrev pub invariant-loop-place : goal.invariant-loop-place
invariant-loop-place l =
    (l.from ≤ l.place) × (l.end ≡ 64 * length l.nodes)
    × (l.runs + runs_below (look (cells l.nodes)) l.from ≡ runs_below (look (cells l.nodes)) l.place)

abbrev pub decreases-loop-place : goal.decreases-loop-place
decreases-loop-place l = l.end - l.place
