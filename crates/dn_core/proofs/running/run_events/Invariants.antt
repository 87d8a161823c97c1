use Rattle.std.proofs.Common.{◌≤◌, ◌+◌}
use Rattle.std.specs.Prelude.{vec_len, vec_capacity}
use Rattle.dn_volume.specs.Agrees.{Agrees}
use Rattle.dn_core.specs.Run.{Run, Records}
use Rattle.dn_core.proofs.running.run_events.Given as goal

abbrev pub invariant-loop-event : goal.invariant-loop-event
invariant-loop-event g l = record {
  agrees : Agrees g.D.Pm.state l.v;
  run : Run g.D.Pm.state g.F.Fingerprint.print l.fn.v l.yielded l.outcomes.items l.v;
  records : Records l.fn.v l.v l.yielded l.outcomes.items;
  room : vec_len l.outcomes + l.event-iterator.rest.len ≤ vec_capacity l.outcomes;
}
