use Rattle.std.proofs.Common.{◌≡◌, ℕ, ◌+◌, ◌*◌, ◌<◌, get_or}
use Rattle.log_entry.specs.Spelling.{le_number}
use Rattle.log_entry.proofs.write.put_words.Given as goal

abbrev pub invariant-loop-i : goal.invariant-loop-i
invariant-loop-i l = (k : ℕ) → k < l.i → get_or l.into k 0 ≡ le_number l.name (8 * (l.word + k)) 8
