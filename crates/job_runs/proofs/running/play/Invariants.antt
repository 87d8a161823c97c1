use Rattle.dn_model.specs.Course.{Base}
use Rattle.dn_volume.specs.Agrees.{Agrees}
use Rattle.dn_volume.specs.Sound.{Sound}
use Rattle.job_runs.specs.Reaching.{Reaches}
use Rattle.job_runs.proofs.Going.{Stands}
use Rattle.job_runs.proofs.running.play.Given as goal

abbrev pub invariant-loop-made : goal.invariant-loop-made
invariant-loop-made g l = record {
  agrees : Agrees g.D.Pm.state l.v;
  reaches : Reaches g.D.Pm.state g.F.Fingerprint.print l.fn.v l.v;
  sound : (base : Base) → Sound g.D.Pm.state g.F.Fingerprint.print base l.fn.v → Sound g.D.Pm.state g.F.Fingerprint.print base l.v;
  stands : Stands g.D.Pm.state g.F.Fingerprint.print l.order l.scripts l.turns l._made l.fn.v l.v l.player;
}
