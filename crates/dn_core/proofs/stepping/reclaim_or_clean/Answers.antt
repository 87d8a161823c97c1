use Rattle.dn_core.proofs.Cleaned.{joins_reclaim, reclaims, idle_runs, idle_rests}
use Rattle.dn_core.proofs.stepping.reclaim_or_clean.Goals as goal

pub clean-requires-clause-running : goal.clean-requires-clause-running
clean-requires-clause-running g c = idle_runs g.D.Pm.state g.F.Fingerprint.print c.args.v.now c.reclaim.new.v c.requires.agrees c.requires.running
    c.in-Idle.ensures.event

pub clean-requires-clause-none_waits : goal.clean-requires-clause-none_waits
clean-requires-clause-none_waits g c = idle_rests g.D.Pm.state g.F.Fingerprint.print c.args.v.now c.reclaim.new.v c.requires.agrees
    c.requires.running c.in-Idle.ensures.event

pub returns-in-Idle-clause-event : goal.returns-in-Idle-clause-event
returns-in-Idle-clause-event g c d volume =
    let was = c.in-Idle.ensures.event d volume in
    joins_reclaim g.D.Pm.state g.F.Fingerprint.print c.args.v.now c.reclaim.new.v c.clean.new.v d c.clean.result volume was
    (c.clean.ensures.event d was.0.volume)

pub returns-in_default : goal.returns-in_default
returns-in_default g c = record {
  agrees = c.reclaim.ensures.agrees;
  event = λ d volume. reclaims g.D.Pm.state g.F.Fingerprint.print c.args.v.now c.reclaim.new.v d c.reclaim.result c.in_default.not-Idle
      (c.reclaim.ensures.event d volume);
}
