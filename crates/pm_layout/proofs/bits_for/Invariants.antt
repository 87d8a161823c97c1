use Rattle.std.proofs.Common.{◌≡◌, ◌+◌, ◌-◌, ◌^◌}
use Rattle.pm_layout.specs.Geometry.{bits_from, bits_of}
use Rattle.pm_layout.proofs.bits_for.Given as goal

abbrev pub invariant-loop-i : goal.invariant-loop-i
invariant-loop-i l = (l.bits ≡ 6 + l._i) × (l.numbered ≡ 2 ^ l.bits) × (bits_from (10 - l._i) l.bits l.pages ≡ bits_of l.pages)
