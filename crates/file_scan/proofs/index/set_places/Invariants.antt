use Rattle.file_scan.specs.IndexLoop.{SetsTo}
use Rattle.file_scan.proofs.index.set_places.Given as goal

abbrev pub invariant-loop-k : goal.invariant-loop-k
invariant-loop-k l = SetsTo l.slot l.first l.count l.block l.k l.fn.map l.map
