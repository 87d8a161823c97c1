use Rattle.std.proofs.Common.{◌≡◌, ℕ, false, drop, length, vec_len}
use Rattle.std.specs.Prelude.{unwrap_or}
use Rattle.std.specs.Ordering.{nat_cmp}
use Rattle.std.specs.BTreeMap.{get}
use Rattle.pm_device.specs.Replay.{is_fenced, fenced_flushes}
use Rattle.pm_device.proofs.image.fenced_flushes.Given as goal

-- the entries from this one on are looked at
abbrev pub invariant-loop-k : goal.invariant-loop-k
invariant-loop-k l = record {
  next : (q : ℕ) → unwrap_or (get nat_cmp l.next q) false ≡ is_fenced q (drop l.k l.entries);
  flushes : drop l.k l.flushes.items ≡ fenced_flushes (drop l.k l.entries);
  len : vec_len l.flushes ≡ length l.entries;
}
