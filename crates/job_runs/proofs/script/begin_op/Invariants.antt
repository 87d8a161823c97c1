use Rattle.dn_volume.specs.Agrees.{Agrees}
use Rattle.job_runs.specs.Reaching.{Reaches, IsLoose}
use Rattle.job_runs.specs.Telling.{SoFar}
use Rattle.job_runs.proofs.script.begin_op.Given as goal

abbrev pub invariant-loop-again : goal.invariant-loop-again
invariant-loop-again g l = record {
  agrees : Agrees g.D.Pm.state l.v;
  reaches : Reaches g.D.Pm.state g.F.Fingerprint.print l.fn.v l.v;
  loose : IsLoose l.v.parts;
  far : SoFar g.D.Pm.state l.fn.v l.v;
}

abbrev pub decreases-loop-again : goal.decreases-loop-again
decreases-loop-again g l = l.v.parts.reclaiming.waiting
