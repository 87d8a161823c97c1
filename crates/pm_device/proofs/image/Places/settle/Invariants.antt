use Rattle.std.proofs.Common.{◌≡◌, ℕ, ◌-◌, ◌<◌, if◌then◌else◌, slice_index, vec_len}
use Rattle.pm_device.specs.Past.{covers}
use Rattle.pm_device.proofs.image.Places.settle.Given as goal

-- the words before this one are settled
abbrev pub invariant-loop-a : goal.invariant-loop-a
invariant-loop-a l = record {
  each : (b : ℕ) → b < vec_len l.initial.self.last → slice_index l.self.durable.items b ≡ (if covers l.at (l.a - l.at) b then slice_index
      l.initial.self.last.items b else slice_index l.initial.self.durable.items b);
  last : l.self.last ≡ l.initial.self.last;
}
