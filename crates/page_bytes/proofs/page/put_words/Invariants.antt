use Rattle.std.proofs.Common.{ℕ, ◌*◌, ◌<◌}
use Rattle.std.specs.Prelude.{slice_index}
use Rattle.page_bytes.specs.Bytes.{IsWordOf}
use Rattle.page_bytes.proofs.page.put_words.Given as goal

abbrev pub invariant-loop-k : goal.invariant-loop-k
invariant-loop-k l = (i : ℕ) → i < l.k → IsWordOf l.bytes (8 * i) (slice_index l.words i)
