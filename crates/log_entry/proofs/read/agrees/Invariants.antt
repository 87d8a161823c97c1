use Rattle.std.proofs.Common.{◌≡◌, ℕ, ◌<◌, [], get_or}
use Rattle.log_entry.specs.Spelling.{spelling}
use Rattle.log_entry.proofs.read.agrees.Given as goal

abbrev pub invariant-loop-k : goal.invariant-loop-k
invariant-loop-k l = (k : ℕ) → k < l.k → get_or l.slots k [] ≡ get_or (spelling l.item) k []
