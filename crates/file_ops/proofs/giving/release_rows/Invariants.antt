use Rattle.std.proofs.Common.{◌≡◌, ◌+◌, ◌++◌, take}
use Rattle.std.specs.VecDeque.{deque_len, deque_capacity}
use Rattle.file_ops.proofs.giving.release_rows.Given as goal

abbrev pub invariant-loop-row : goal.invariant-loop-row
invariant-loop-row l = (l.releases.items ≡ l.fn.releases.items ++ take l.row-index l.rows) × (deque_len l.releases ≡ deque_len l.fn.releases +
    l.row-index) × (deque_capacity l.releases ≡ deque_capacity l.fn.releases)
