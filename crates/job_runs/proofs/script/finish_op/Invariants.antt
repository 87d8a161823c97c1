use Rattle.dn_volume.specs.Agrees.{Agrees}
use Rattle.dn_volume.specs.Parties.{flight_of}
use Rattle.job_runs.specs.Reaching.{Reaches, FliesAlone}
use Rattle.job_runs.specs.Telling.{SoFar, flight_left}
use Rattle.job_runs.proofs.script.finish_op.Given as goal

abbrev pub invariant-loop : goal.invariant-loop
invariant-loop g l = record {
  agrees : Agrees g.D.Pm.state l.v;
  reaches : Reaches g.D.Pm.state g.F.Fingerprint.print l.fn.v l.v;
  alone : FliesAlone l.v.parts l.who l.op;
  far : SoFar g.D.Pm.state l.fn.v l.v;
}

abbrev pub decreases-loop : goal.decreases-loop
decreases-loop g l = flight_left (flight_of l.v.parts l.who)
