use Rattle.std.proofs.Common.{◌≡◌, ◌+◌, ◌-◌, map, length}
use Rattle.std.specs.Prelude.{slice_index, nat_le, nat_lt, ◌&&◌, if◌then◌else◌}
use Rattle.std.specs.List.{range_with_len}
use Rattle.dn_files.proofs.applying.written.Given as goal

abbrev pub invariant-loop-j : goal.invariant-loop-j
invariant-loop-j l =
    l.bytes.items ≡ map (λ j. if nat_le l.at j && nat_lt j (l.at + length l.new) then slice_index l.new (j - l.at) else slice_index l.old j)
    (range_with_len 0 l.j)
