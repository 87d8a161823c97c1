use Rattle.std.proofs.Common.{◌∙◌, subst}
use Rattle.dn_model.specs.declared.op.Op.{Op}
use Rattle.dn_core.specs.declared.event.Event.TheVariants.{Begin}
use Rattle.dn_core.specs.Steps.{Steps}
use Rattle.job_runs.specs.Telling.{BeginTells}
use Rattle.job_runs.proofs.Told.{begin_tells, begin_never}
use Rattle.job_runs.proofs.Onward.{reach_none, reach_next, far_none, far_next, stopped_since, adds_since, steady_then}
use Rattle.job_runs.proofs.script.begin_op.Goals as goal

pub loop-again-init : goal.loop-again-init
loop-again-init g c = record {
  agrees = c.requires.agrees;
  reaches = reach_none g.D.Pm.state g.F.Fingerprint.print c.args.v.now;
  loose = c.requires.loose;
  far = far_none g.D.Pm.state c.args.v.now;
}

pub returns-in-Running-clause-reaches : goal.returns-in-Running-clause-reaches
returns-in-Running-clause-reaches g c =
    reach_next g.D.Pm.state g.F.Fingerprint.print c.args.v.now c.loop-again.v c.step.new.v _ c.step.result c.loop-again.invariant.reaches
    c.step.ensures.event

pub returns-in-Done-clause-reaches : goal.returns-in-Done-clause-reaches
returns-in-Done-clause-reaches g c =
    reach_next g.D.Pm.state g.F.Fingerprint.print c.args.v.now c.loop-again.v c.step.new.v _ c.step.result c.loop-again.invariant.reaches
    c.step.ensures.event

pub returns-in-NoMemory-clause-reaches : goal.returns-in-NoMemory-clause-reaches
returns-in-NoMemory-clause-reaches g c =
    reach_next g.D.Pm.state g.F.Fingerprint.print c.args.v.now c.loop-again.v c.step.new.v _ c.step.result c.loop-again.invariant.reaches
    c.step.ensures.event

pub returns-in-Stopped-clause-reaches : goal.returns-in-Stopped-clause-reaches
returns-in-Stopped-clause-reaches g c =
    reach_next g.D.Pm.state g.F.Fingerprint.print c.args.v.now c.loop-again.v c.step.new.v _ c.step.result c.loop-again.invariant.reaches
    c.step.ensures.event

pub returns-in-Running-clause-begins : goal.returns-in-Running-clause-begins
returns-in-Running-clause-begins g c =
    let was = c.loop-again.invariant in
    let tells = begin_tells g.D.Pm.state g.F.Fingerprint.print c.args.who c.args.op.now c.loop-again.v c.step.new.v c.requires.client.1 was.agrees
    was.loose c.requires.client.0 c.step.result
    (subst (λ (o : Op). Steps g.D.Pm.state g.F.Fingerprint.print (Begin c.args.who o) c.loop-again.v c.step.new.v c.step.result)
    c.in_ok-again.ensures c.step.ensures.event) in
    let at = subst (BeginTells g.D.Pm.state c.args.who c.args.op.now c.loop-again.v c.step.new.v) c.in-Running.is tells in
    (at.0, at.1.history ∙ was.far.history, (far_next g.D.Pm.state c.args.v.now c.loop-again.v c.step.new.v was.far at.1).steady)

pub returns-in-Done-clause-begins : goal.returns-in-Done-clause-begins
returns-in-Done-clause-begins g c =
    let was = c.loop-again.invariant in
    let tells = begin_tells g.D.Pm.state g.F.Fingerprint.print c.args.who c.args.op.now c.loop-again.v c.step.new.v c.requires.client.1 was.agrees
    was.loose c.requires.client.0 c.step.result
    (subst (λ (o : Op). Steps g.D.Pm.state g.F.Fingerprint.print (Begin c.args.who o) c.loop-again.v c.step.new.v c.step.result)
    c.in_ok-again.ensures c.step.ensures.event) in
    let at = subst (BeginTells g.D.Pm.state c.args.who c.args.op.now c.loop-again.v c.step.new.v) c.in-Done.is tells in
    (at.0, adds_since g.D.Pm.state c.args.who c.args.op.now c.args.v.now c.loop-again.v c.step.new.v was.far.history at.1, steady_then g.D.Pm.state c.args.v.now c.loop-again.v c.step.new.v was.far.steady at.2)

pub returns-in-NoMemory-clause-begins : goal.returns-in-NoMemory-clause-begins
returns-in-NoMemory-clause-begins g c =
    let was = c.loop-again.invariant in
    let tells = begin_tells g.D.Pm.state g.F.Fingerprint.print c.args.who c.args.op.now c.loop-again.v c.step.new.v c.requires.client.1 was.agrees
    was.loose c.requires.client.0 c.step.result
    (subst (λ (o : Op). Steps g.D.Pm.state g.F.Fingerprint.print (Begin c.args.who o) c.loop-again.v c.step.new.v c.step.result)
    c.in_ok-again.ensures c.step.ensures.event) in
    let at = subst (BeginTells g.D.Pm.state c.args.who c.args.op.now c.loop-again.v c.step.new.v) c.in-NoMemory.is tells in
    (at.0, at.1 ∙ was.far.history)

pub returns-in-Stopped-clause-begins : goal.returns-in-Stopped-clause-begins
returns-in-Stopped-clause-begins g c =
    let was = c.loop-again.invariant in
    let tells = begin_tells g.D.Pm.state g.F.Fingerprint.print c.args.who c.args.op.now c.loop-again.v c.step.new.v c.requires.client.1 was.agrees
    was.loose c.requires.client.0 c.step.result
    (subst (λ (o : Op). Steps g.D.Pm.state g.F.Fingerprint.print (Begin c.args.who o) c.loop-again.v c.step.new.v c.step.result)
    c.in_ok-again.ensures c.step.ensures.event) in
    let at = subst (BeginTells g.D.Pm.state c.args.who c.args.op.now c.loop-again.v c.step.new.v) c.in-Stopped.is tells in
    (stopped_since g.D.Pm.state c.args.v.now c.loop-again.v c.step.new.v was.far.steady at.0, at.1 ∙ was.far.history)

pub loop-again-smaller : goal.loop-again-smaller
loop-again-smaller g c =
    let was = c.loop-again.invariant in
    let tells = begin_tells g.D.Pm.state g.F.Fingerprint.print c.args.who c.args.op.now c.loop-again.v c.step.new.v c.requires.client.1 was.agrees
    was.loose c.requires.client.0 c.step.result
    (subst (λ (o : Op). Steps g.D.Pm.state g.F.Fingerprint.print (Begin c.args.who o) c.loop-again.v c.step.new.v c.step.result)
    c.in_ok-again.ensures c.step.ensures.event) in
    let at = subst (BeginTells g.D.Pm.state c.args.who c.args.op.now c.loop-again.v c.step.new.v) c.in-Released.is tells in
    at.2

pub loop-again-preserved : goal.loop-again-preserved
loop-again-preserved g c =
    let was = c.loop-again.invariant in
    let tells = begin_tells g.D.Pm.state g.F.Fingerprint.print c.args.who c.args.op.now c.loop-again.v c.step.new.v c.requires.client.1 was.agrees
    was.loose c.requires.client.0 c.step.result
    (subst (λ (o : Op). Steps g.D.Pm.state g.F.Fingerprint.print (Begin c.args.who o) c.loop-again.v c.step.new.v c.step.result)
    c.in_ok-again.ensures c.step.ensures.event) in
    let at = subst (BeginTells g.D.Pm.state c.args.who c.args.op.now c.loop-again.v c.step.new.v) c.in-Released.is tells in
    record {
      agrees = c.step.ensures.agrees;
      reaches = reach_next g.D.Pm.state g.F.Fingerprint.print c.args.v.now c.loop-again.v c.step.new.v _ c.step.result was.reaches
          c.step.ensures.event;
      loose = at.0;
      far = far_next g.D.Pm.state c.args.v.now c.loop-again.v c.step.new.v was.far at.1;
    }

pub unreachable-requires : goal.unreachable-requires
unreachable-requires g c =
    let was = c.loop-again.invariant in
    let tells = begin_tells g.D.Pm.state g.F.Fingerprint.print c.args.who c.args.op.now c.loop-again.v c.step.new.v c.requires.client.1 was.agrees
    was.loose c.requires.client.0 c.step.result
    (subst (λ (o : Op). Steps g.D.Pm.state g.F.Fingerprint.print (Begin c.args.who o) c.loop-again.v c.step.new.v c.step.result)
    c.in_ok-again.ensures c.step.ensures.event) in
    begin_never g.D.Pm.state g.F.Fingerprint.print c.args.who c.args.op.now c.loop-again.v c.step.new.v c.requires.client.1 c.step.result tells
    c.in_default.not-Running c.in_default.not-Done c.in_default.not-Released c.in_default.not-NoMemory c.in_default.not-Stopped
