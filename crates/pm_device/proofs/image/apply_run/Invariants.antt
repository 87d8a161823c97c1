use Rattle.std.proofs.Common.{◌≡◌, ℕ, ◌-◌, ◌<◌, ◌&&◌, if◌then◌else◌, slice_index, vec_len}
use Rattle.std.specs.Prelude.{nat_lt}
use Rattle.pm_device.specs.Past.{covers}
use Rattle.pm_device.proofs.image.apply_run.Given as goal

-- the values before this one are stored
abbrev pub invariant-loop-k : goal.invariant-loop-k
invariant-loop-k l = record {
  values : (a : ℕ) → a < vec_len l.initial.image
      → slice_index l.image.items a ≡ (if covers l.at l.k a && nat_lt 0 (slice_index l.initial.left.items a) then slice_index l.values (a - l.at) else
      slice_index l.initial.image.items a);
  left : (a : ℕ) → a < vec_len l.initial.image → slice_index l.left.items a ≡ (if covers l.at l.k a && nat_lt 0 (slice_index l.initial.left.items a)
      then slice_index l.initial.left.items a - 1 else slice_index l.initial.left.items a);
  image_len : vec_len l.image ≡ vec_len l.initial.image;
  left_len : vec_len l.left ≡ vec_len l.initial.left;
}
