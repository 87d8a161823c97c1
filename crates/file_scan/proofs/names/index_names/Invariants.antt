use Rattle.file_scan.specs.Names.{IsNamedTo}
use Rattle.file_scan.proofs.names.index_names.Given as goal

abbrev pub invariant-loop-i : goal.invariant-loop-i
invariant-loop-i l = IsNamedTo l.items l.i l.names.map
