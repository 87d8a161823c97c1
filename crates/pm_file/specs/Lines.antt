-- What was flushed and not fenced since.
use Rattle.std.specs.Prelude.{ℕ, ◌+◌, ◌*◌, Bool, nat_le}
use Rattle.pm_file.specs.declared.device.Flushed.{Flushed}

-- its lines lie in a device of so many words
abbrev pub is_inside : ℕ → Flushed → Bool
is_inside words f = nat_le (8 * (f.first + f.lines)) words
