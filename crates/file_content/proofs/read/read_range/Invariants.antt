use Rattle.std.proofs.Common.{◌-◌, ◌≤◌, []}
use Rattle.file_content.specs.ReadLoop.{AppendsBytes}
use Rattle.file_content.proofs.read.read_range.Given as goal

abbrev pub invariant-loop-from : goal.invariant-loop-from
invariant-loop-from g l = record {
  so_far : AppendsBytes (g.D.Pm.state l.device).now l.map.map l.size l.start l.from [] l.found.items;
  within : l.from ≤ l.end;
}

abbrev pub decreases-loop-from : goal.decreases-loop-from
decreases-loop-from g l = l.end - l.from
