use Rattle.std.proofs.Common.{subst}
use Rattle.dn_core.specs.Steps.{Steps}
use Rattle.dn_core.proofs.Worked.{worked_idle, worked_running, worked_busy, worked_memory, worked_stopped, worked_never}
use Rattle.dn_core.proofs.draining.work_once.Goals as goal

pub returns-in-Idle-clause-once : goal.returns-in-Idle-clause-once
returns-in-Idle-clause-once g c =
    worked_idle g.D.Pm.state g.F.Fingerprint.print c.args.event c.args.v.now c.step.new.v c.requires.agrees c.requires.landed c.requires.work
    (subst (Steps g.D.Pm.state g.F.Fingerprint.print c.args.event c.args.v.now c.step.new.v) c.in-Idle.is c.step.ensures.event)

pub returns-in-Running-clause-once : goal.returns-in-Running-clause-once
returns-in-Running-clause-once g c =
    worked_running g.D.Pm.state g.F.Fingerprint.print c.args.event c.args.v.now c.step.new.v _ c.requires.agrees c.requires.landed c.requires.work
    (subst (Steps g.D.Pm.state g.F.Fingerprint.print c.args.event c.args.v.now c.step.new.v) c.in-Running.is c.step.ensures.event)

pub returns-in-Busy-clause-once : goal.returns-in-Busy-clause-once
returns-in-Busy-clause-once g c =
    worked_busy g.D.Pm.state g.F.Fingerprint.print c.args.event c.args.v.now c.step.new.v _ c.requires.agrees c.requires.landed c.requires.work
    (subst (Steps g.D.Pm.state g.F.Fingerprint.print c.args.event c.args.v.now c.step.new.v) c.in-Busy.is c.step.ensures.event)

pub returns-in-NoMemory-clause-once : goal.returns-in-NoMemory-clause-once
returns-in-NoMemory-clause-once g c =
    worked_memory g.D.Pm.state g.F.Fingerprint.print c.args.event c.args.v.now c.step.new.v c.requires.agrees c.requires.landed c.requires.work
    (subst (Steps g.D.Pm.state g.F.Fingerprint.print c.args.event c.args.v.now c.step.new.v) c.in-NoMemory.is c.step.ensures.event)

pub returns-in-Stopped-clause-once : goal.returns-in-Stopped-clause-once
returns-in-Stopped-clause-once g c =
    worked_stopped g.D.Pm.state g.F.Fingerprint.print c.args.event c.args.v.now c.step.new.v c.requires.agrees c.requires.landed c.requires.work
    (subst (Steps g.D.Pm.state g.F.Fingerprint.print c.args.event c.args.v.now c.step.new.v) c.in-Stopped.is c.step.ensures.event)

pub unreachable-requires : goal.unreachable-requires
unreachable-requires g c =
    worked_never g.D.Pm.state g.F.Fingerprint.print c.args.event c.args.v.now c.step.new.v c.step.result c.requires.agrees c.requires.landed
    c.requires.work c.step.ensures.event c.in_default.not-Idle c.in_default.not-Running c.in_default.not-Busy
    c.in_default.not-NoMemory c.in_default.not-Stopped
