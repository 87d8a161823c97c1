use Rattle.std.proofs.Common.{◌≡◌, map, take}
use Rattle.file_index.proofs.name_map.NameMap.names.Given as goal

abbrev pub invariant-loop-entry : goal.invariant-loop-entry
invariant-loop-entry l = l.names.items ≡ map (λ e. e.0) (take l.entry-index l.entry-items)
