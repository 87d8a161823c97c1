use Rattle.std.proofs.Common.{◌∙◌, subst}
use Rattle.job_runs.specs.Telling.{AdvanceTells}
use Rattle.job_runs.proofs.Told.{advance_tells, advance_never}
use Rattle.job_runs.proofs.Onward.{reach_none, reach_next, far_none, far_next, stopped_since, adds_since, steady_then}
use Rattle.job_runs.proofs.script.finish_op.Goals as goal

pub loop-init : goal.loop-init
loop-init g c = record {
  agrees = c.requires.agrees;
  reaches = reach_none g.D.Pm.state g.F.Fingerprint.print c.args.v.now;
  alone = c.requires.flies;
  far = far_none g.D.Pm.state c.args.v.now;
}

pub returns-in-Done-clause-reaches : goal.returns-in-Done-clause-reaches
returns-in-Done-clause-reaches g c =
    reach_next g.D.Pm.state g.F.Fingerprint.print c.args.v.now c.loop.v c.step.new.v _ c.step.result c.loop.invariant.reaches
    c.step.ensures.event

pub returns-in-Stopped-clause-reaches : goal.returns-in-Stopped-clause-reaches
returns-in-Stopped-clause-reaches g c =
    reach_next g.D.Pm.state g.F.Fingerprint.print c.args.v.now c.loop.v c.step.new.v _ c.step.result c.loop.invariant.reaches
    c.step.ensures.event

pub returns-in-Done-clause-runs : goal.returns-in-Done-clause-runs
returns-in-Done-clause-runs g c =
    let was = c.loop.invariant in
    let tells = advance_tells g.D.Pm.state g.F.Fingerprint.print c.args.who c.args.op.now c.loop.v c.step.new.v c.requires.client.1 was.agrees
    was.alone c.step.result c.step.ensures.event in
    let at = subst (AdvanceTells g.D.Pm.state c.args.who c.args.op.now c.loop.v c.step.new.v) c.in-Done.is tells in
    (at.0, adds_since g.D.Pm.state c.args.who c.args.op.now c.args.v.now c.loop.v c.step.new.v was.far.history at.1, steady_then g.D.Pm.state c.args.v.now c.loop.v c.step.new.v was.far.steady at.2)

pub returns-in-Stopped-clause-runs : goal.returns-in-Stopped-clause-runs
returns-in-Stopped-clause-runs g c =
    let was = c.loop.invariant in
    let tells = advance_tells g.D.Pm.state g.F.Fingerprint.print c.args.who c.args.op.now c.loop.v c.step.new.v c.requires.client.1 was.agrees
    was.alone c.step.result c.step.ensures.event in
    let at = subst (AdvanceTells g.D.Pm.state c.args.who c.args.op.now c.loop.v c.step.new.v) c.in-Stopped.is tells in
    (stopped_since g.D.Pm.state c.args.v.now c.loop.v c.step.new.v was.far.steady at.0, at.1 ∙ was.far.history)

pub loop-smaller : goal.loop-smaller
loop-smaller g c =
    let was = c.loop.invariant in
    let tells = advance_tells g.D.Pm.state g.F.Fingerprint.print c.args.who c.args.op.now c.loop.v c.step.new.v c.requires.client.1 was.agrees
    was.alone c.step.result c.step.ensures.event in
    let at = subst (AdvanceTells g.D.Pm.state c.args.who c.args.op.now c.loop.v c.step.new.v) c.in-Running.is tells in
    at.2

pub loop-preserved : goal.loop-preserved
loop-preserved g c =
    let was = c.loop.invariant in
    let tells = advance_tells g.D.Pm.state g.F.Fingerprint.print c.args.who c.args.op.now c.loop.v c.step.new.v c.requires.client.1 was.agrees
    was.alone c.step.result c.step.ensures.event in
    let at = subst (AdvanceTells g.D.Pm.state c.args.who c.args.op.now c.loop.v c.step.new.v) c.in-Running.is tells in
    record {
      agrees = c.step.ensures.agrees;
      reaches = reach_next g.D.Pm.state g.F.Fingerprint.print c.args.v.now c.loop.v c.step.new.v _ c.step.result was.reaches
          c.step.ensures.event;
      alone = at.0;
      far = far_next g.D.Pm.state c.args.v.now c.loop.v c.step.new.v was.far at.1;
    }

pub unreachable-requires : goal.unreachable-requires
unreachable-requires g c =
    let was = c.loop.invariant in
    let tells = advance_tells g.D.Pm.state g.F.Fingerprint.print c.args.who c.args.op.now c.loop.v c.step.new.v c.requires.client.1 was.agrees
    was.alone c.step.result c.step.ensures.event in
    advance_never g.D.Pm.state g.F.Fingerprint.print c.args.who c.args.op.now c.loop.v c.step.new.v c.requires.client.1 c.step.result tells
    c.in_default.not-Running c.in_default.not-Done c.in_default.not-Stopped
