use Rattle.std.proofs.Common.{◌≡◌, ◌+◌, drop, vec_len}
use Rattle.pm_device.specs.State.{put_run}
use Rattle.pm_snapshot.proofs.put_values.Given as goal

abbrev pub invariant-loop-k : goal.invariant-loop-k
invariant-loop-k l = (put_run l.words.items (l.at + l.k) (drop l.k l.values) ≡ put_run l.initial.words.items l.at l.values) ×
    (vec_len l.words ≡ vec_len l.initial.words)
