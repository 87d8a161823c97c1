use Rattle.std.proofs.Common.{◌≡◌, ◌≤◌, length}
use Rattle.std.specs.Prelude.{vec_len, vec_capacity}
use Rattle.file_write.specs.Take.{TakesFirst}
use Rattle.file_write.proofs.take.take_pages.Given as goal

abbrev pub invariant-loop-i : goal.invariant-loop-i
invariant-loop-i l = (length l.pages.items ≡ l._i) × TakesFirst l.fn.free l.free l.pages.items × (l._i ≤ l.fn.count) ×
    (l.fn.count ≤ vec_capacity l.pages) × (vec_len l.pages ≡ l._i)
