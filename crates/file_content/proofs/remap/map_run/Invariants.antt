use Rattle.file_content.specs.RemapLoop.{MapsRun}
use Rattle.file_content.proofs.remap.map_run.Given as goal

abbrev pub invariant-loop-i : goal.invariant-loop-i
invariant-loop-i l = MapsRun l.run.first l.i l.run.block l.slot l.fn.map l.map
