use Rattle.file_scan.specs.IndexLoop.{IsIndexedTo}
use Rattle.file_scan.proofs.index.index_items.Given as goal

abbrev pub invariant-loop-i : goal.invariant-loop-i
invariant-loop-i l = IsIndexedTo l.items l.i l.index
