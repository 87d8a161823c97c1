use Rattle.std.proofs.Common.{◌-◌, length}
use Rattle.file_content.specs.Runs.{all_seen}
use Rattle.file_content.specs.SlotLoop.{IsCutTo}
use Rattle.file_content.proofs.runs.cut_into_runs.Given as goal

abbrev pub invariant-loop-from : goal.invariant-loop-from
invariant-loop-from l = IsCutTo l.first l.pages l.from (all_seen l.runs.items)

abbrev pub decreases-loop-from : goal.decreases-loop-from
decreases-loop-from l = length l.pages - l.from
