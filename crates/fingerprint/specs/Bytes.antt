-- Numbers of big-endian bytes.
use Rattle.std.specs.Prelude.{ℕ, zero, suc, ◌+◌, ◌*◌, List, slice_index}

-- the n bytes from a place on as a number, the last the least significant; `so_far` is the number
-- before them
unfoldable pub be_number : List ℕ → ℕ → ℕ → ℕ → ℕ
be_number bytes so_far at zero = so_far
be_number bytes so_far at (suc n) = be_number bytes (256 * so_far + slice_index bytes at) (at + 1) n
