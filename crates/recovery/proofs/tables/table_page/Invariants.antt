use Rattle.std.proofs.Common.{◌≡◌, ℕ, ◌+◌, ◌*◌, ◌<◌}
use Rattle.std.specs.Prelude.{slice_index}
use Rattle.recovery.specs.Tables.{table_word}
use Rattle.recovery.proofs.tables.table_page.Given as goal

abbrev pub invariant-loop-j : goal.invariant-loop-j
invariant-loop-j g l = (k : ℕ) → k < l.j → slice_index l.word-items k ≡ table_word l.g (512 * l.page + k)
    (slice_index (g.D.Pm.state l.device).now (512 * l.page + k))
