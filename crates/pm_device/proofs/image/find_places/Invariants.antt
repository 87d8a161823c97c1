use Rattle.std.proofs.Common.{◌≡◌, ℕ, ◌≤◌, ◌<◌, drop, slice_index, vec_len}
use Rattle.pm_device.specs.Replay.{last_place, durable_place}
use Rattle.pm_device.proofs.image.find_places.Given as goal

-- from here on, the entries that are left lead to the places of all
abbrev pub invariant-loop-k : goal.invariant-loop-k
invariant-loop-k l = record {
  small : (a : ℕ) → slice_index l.places.last.items a ≤ l.k;
  last : (a : ℕ) → a < l.words → last_place a (slice_index l.places.last.items a) (drop l.k l.entries) ≡ last_place a 0 l.entries;
  durable : (a : ℕ) → a < l.words → durable_place a (slice_index l.places.last.items a) (slice_index l.places.durable.items a) (drop l.k l.entries) ≡
      durable_place a 0 0 l.entries;
  len : vec_len l.places.last ≡ l.words;
}
