use Rattle.std.proofs.Common.{◌≡◌, ℕ, ◌*◌, ◌<◌, length}
use Rattle.std.specs.Prelude.{slice_index}
use Rattle.page_bytes.specs.Bytes.{page_byte}
use Rattle.dedupe_daemon.proofs.page.page_at.Given as goal

abbrev pub invariant-loop-k : goal.invariant-loop-k
invariant-loop-k g l = (length l.bytes ≡ 4096) × ((i : ℕ) → i < 8 * l.k → slice_index l.bytes i ≡ page_byte (g.D.Pm.state l.device).now
    l.page i)
