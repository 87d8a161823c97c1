use Rattle.std.proofs.Common.{subst}
use Rattle.dn_core.specs.Rest.{DrainFails}
use Rattle.denova_runs.proofs.Landed.{rounds_on}
use Rattle.denova_session.proofs.threads.drain_rest.Goals as goal

pub returns-in-Ok-clause-landed : goal.returns-in-Ok-clause-landed
returns-in-Ok-clause-landed g c =
    (rounds_on g.D.Pm.state g.F.Fingerprint.print c.args.v.now c.drain.new.v c.in-Ok.ensures.rounds c.requires.agrees c.requires.landed).landed

pub returns-in-Ok-clause-faults : goal.returns-in-Ok-clause-faults
returns-in-Ok-clause-faults g c =
    (rounds_on g.D.Pm.state g.F.Fingerprint.print c.args.v.now c.drain.new.v c.in-Ok.ensures.rounds c.requires.agrees c.requires.landed).faults

pub returns-in-Err-NoMemory-clause-landed : goal.returns-in-Err-NoMemory-clause-landed
returns-in-Err-NoMemory-clause-landed g c =
    (rounds_on g.D.Pm.state g.F.Fingerprint.print c.args.v.now c.drain.new.v c.in-Err-NoMemory.ensures.rounds c.requires.agrees c.requires.landed).landed

pub returns-in-Err-NoMemory-clause-faults : goal.returns-in-Err-NoMemory-clause-faults
returns-in-Err-NoMemory-clause-faults g c =
    (rounds_on g.D.Pm.state g.F.Fingerprint.print c.args.v.now c.drain.new.v c.in-Err-NoMemory.ensures.rounds c.requires.agrees c.requires.landed).faults

pub returns-in-Err-Stopped-clause-landed : goal.returns-in-Err-Stopped-clause-landed
returns-in-Err-Stopped-clause-landed g c =
    (rounds_on g.D.Pm.state g.F.Fingerprint.print c.args.v.now c.drain.new.v c.in-Err-Stopped.ensures.rounds c.requires.agrees c.requires.landed).landed

pub returns-in-Err-Stopped-clause-faults : goal.returns-in-Err-Stopped-clause-faults
returns-in-Err-Stopped-clause-faults g c =
    (rounds_on g.D.Pm.state g.F.Fingerprint.print c.args.v.now c.drain.new.v c.in-Err-Stopped.ensures.rounds c.requires.agrees c.requires.landed).faults

pub returns-in-Err-Stopped-clause-stopped : goal.returns-in-Err-Stopped-clause-stopped
returns-in-Err-Stopped-clause-stopped g c =
    λ same. subst (DrainFails g.D.Pm.state c.args.v.now c.drain.new.v) c.in-Err-Stopped.field-0-is c.in-Err-Stopped.ensures.fails
