-- The lengths that an image file may have.
use Rattle.std.specs.Prelude.{ℕ, ◌%◌, Bool, ◌&&◌, ◌==◌, nat_lt, nat_le}

-- one page of 4,096 bytes at least, whole pages, and 65,536 of them at most
abbrev pub is_length : ℕ → Bool
is_length bytes = nat_lt 0 bytes && bytes % 4096 == 0 && nat_le bytes 268435456
