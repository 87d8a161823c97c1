use Rattle.std.proofs.Common.{◌≡◌, ℕ, ◌*◌, ◌<◌, length}
use Rattle.std.specs.Prelude.{slice_index}
use Rattle.page_bytes.specs.Bytes.{page_byte}
use Rattle.page_bytes.proofs.page.read_page.Given as goal

abbrev pub invariant-loop-k : goal.invariant-loop-k
invariant-loop-k g l = (length l.bytes.items ≡ 8 * l.k) × ((i : ℕ) → i < 8 * l.k → slice_index l.bytes.items i ≡ page_byte (g.D.Pm.state l.device).now
    l.page i)
