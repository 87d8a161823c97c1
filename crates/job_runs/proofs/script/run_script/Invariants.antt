use Rattle.std.proofs.Common.{take}
use Rattle.dn_volume.specs.Agrees.{Agrees}
use Rattle.job_runs.specs.Reaching.{Reaches, IsLoose, RunsAll, IsSteady}
use Rattle.job_runs.proofs.script.run_script.Given as goal

abbrev pub invariant-loop-op : goal.invariant-loop-op
invariant-loop-op g l = record {
  agrees : Agrees g.D.Pm.state l.v;
  reaches : Reaches g.D.Pm.state g.F.Fingerprint.print l.fn.v l.v;
  loose : IsLoose l.v.parts;
  steady : IsSteady g.D.Pm.state l.fn.v l.v;
  all : RunsAll l.who (take l.op-index l.ops) l.fn.v.parts.history.items l.v.parts.history.items;
}
