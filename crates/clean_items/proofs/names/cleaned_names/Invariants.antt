use Rattle.clean_items.specs.NamesLoop.{IsBackBy}
use Rattle.clean_items.proofs.names.cleaned_names.Given as goal

abbrev pub invariant-loop-k : goal.invariant-loop-k
invariant-loop-k l = IsBackBy l.items l.k l.adds.items l.met.map
