use Rattle.std.proofs.Common.{◌≡◌, ℕ, ◌+◌, ◌-◌, ◌≤◌, ◌<◌, slice_index, vec_len}
use Rattle.pm_device.specs.Picks.{picked_place}
use Rattle.pm_device.proofs.image.choose.Given as goal

-- the words before this one are chosen
abbrev pub invariant-loop-a : goal.invariant-loop-a
invariant-loop-a l = record {
  chosen : (b : ℕ) → b < l.a → slice_index l.chosen.items b ≡ slice_index l.initial.chosen.items b + picked_place l.pick b
      (slice_index l.last.items b - slice_index l.initial.chosen.items b + 1);
  others : (b : ℕ) → l.a ≤ b → slice_index l.chosen.items b ≡ slice_index l.initial.chosen.items b;
  len : vec_len l.chosen ≡ vec_len l.initial.chosen;
}
