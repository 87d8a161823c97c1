use Rattle.std.proofs.Common.{◌≡◌, ℕ, ◌+◌, ◌-◌, ◌<◌, if◌then◌else◌, slice_index, vec_len}
use Rattle.pm_device.specs.Past.{covers}
use Rattle.pm_device.proofs.image.add_one.Given as goal

-- the words before this one are counted
abbrev pub invariant-loop-a : goal.invariant-loop-a
invariant-loop-a l = record {
  each : (b : ℕ) → b < vec_len l.initial.counts → slice_index l.counts.items b ≡ (if covers l.at (l.a - l.at) b then slice_index
      l.initial.counts.items b + 1 else slice_index l.initial.counts.items b);
  len : vec_len l.counts ≡ vec_len l.initial.counts;
}
