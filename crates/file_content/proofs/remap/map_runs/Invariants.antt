use Rattle.file_content.specs.RemapLoop.{MapsTo}
use Rattle.file_content.proofs.remap.map_runs.Given as goal

abbrev pub invariant-loop-j : goal.invariant-loop-j
invariant-loop-j l = MapsTo l.tail l.fresh l.runs l.j l.fn.map l.map
