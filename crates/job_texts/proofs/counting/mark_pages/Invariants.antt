use Rattle.std.proofs.Common.{◌≤◌}
use Rattle.job_texts.specs.Marks.{MarksBlocks}
use Rattle.job_texts.proofs.counting.mark_pages.Given as goal

abbrev pub invariant-loop-place : goal.invariant-loop-place
invariant-loop-place l = record {
  marked : MarksBlocks l.map.map l.end 4096 l.initial.marks l.marks;
  within : l.end ≤ 4096;
}

abbrev pub decreases-loop-place : goal.decreases-loop-place
decreases-loop-place l = l.end
