use Rattle.std.proofs.Common.{◌≡◌, ℕ, ◌<◌, drop, slice_index, vec_len}
use Rattle.pm_device.specs.Replay.{value_after}
use Rattle.pm_device.proofs.image.apply.Given as goal

-- from here on, the entries that are left lead to the values of all
abbrev pub invariant-loop-k : goal.invariant-loop-k
invariant-loop-k l = record {
  each : (a : ℕ) → a < vec_len l.initial.image → value_after l.kept a (slice_index l.image.items a) (slice_index l.left.items a) (drop l.k l.entries)
      ≡ value_after l.kept a (slice_index l.initial.image.items a) (slice_index l.initial.left.items a) l.entries;
  image_len : vec_len l.image ≡ vec_len l.initial.image;
  left_len : vec_len l.left ≡ vec_len l.initial.left;
}
