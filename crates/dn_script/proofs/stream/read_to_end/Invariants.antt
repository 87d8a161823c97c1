use Rattle.std.proofs.Common.{◌≡◌, ◌≤◌, ◌<◌, ◌-◌, length, vec_len}
use Rattle.dn_script.specs.Streams.{with_front}
use Rattle.dn_script.proofs.stream.read_to_end.Given as goal

abbrev pub invariant-loop-bytes : goal.invariant-loop-bytes
invariant-loop-bytes g l = record {
  some : 0 < length l.piece;
  few : vec_len l.bytes ≤ 16777216;
  together : with_front l.bytes.items (g.S.Source.left l.from) ≡ g.S.Source.left l.initial.from;
  counts : g.S.Source.faults l.initial.from ≤ g.S.Source.faults l.from;
}

abbrev pub decreases-loop-bytes : goal.decreases-loop-bytes
decreases-loop-bytes g l = 16777216 - vec_len l.bytes
