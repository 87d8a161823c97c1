use Rattle.std.proofs.Common.{subst, arith}
use Rattle.std.proofs.lemmas.Result.{err_from_is_err_and}
use Rattle.dn_core.specs.Rest.{DrainFails}
use Rattle.denova_runs.proofs.Landed.{rounds_on}
use Rattle.denova_runs.proofs.Ended.{play_ends, memory_ends, stopped_ends, drained_ends, goes_on, goes_further}
use Rattle.denova_runs.proofs.run.run_out.Goals as goal

pub drain-requires-clause-landed : goal.drain-requires-clause-landed
drain-requires-clause-landed g c = c.in_ok-play.ensures.ends.0

pub returns-in_err-play-clause-ends : goal.returns-in_err-play-clause-ends
returns-in_err-play-clause-ends g c =
    let p = err_from_is_err_and c.from_residual.result c.from_residual.ensures.1 in
    rw (p.1, p.2) (play_ends g.D.Pm.state g.F.Fingerprint.print c.args.order c.args.scripts.now c.args.turns.now c.requires.clients c.requires.suits
    c.args.v.now c.play.new.v c.requires.new c.in_err-play.ensures.sound c.in_err-play.field-0.0 c.in_err-play.ensures.runs
    c.in_err-play.ensures.ends)

pub returns-in_err-play-clause-goes_on : goal.returns-in_err-play-clause-goes_on
returns-in_err-play-clause-goes_on g c =
    goes_on g.D.Pm.state g.met.D.Pm.agree g.F.Fingerprint.print c.args.v.now c.play.new.v c.in_err-play.ensures.reaches

pub returns-in-Ok-clause-ends : goal.returns-in-Ok-clause-ends
returns-in-Ok-clause-ends g c =
    drained_ends g.D.Pm.state g.F.Fingerprint.print c.args.order c.args.scripts.now c.args.turns.now c.requires.clients c.requires.suits
    c.args.v.now c.play.new.v c.requires.new c.in_ok-play.ensures.sound c.in_ok-play.ensures.runs c.in_ok-play.ensures.ends
    c.in_ok-play.ensures.faults c.in_ok-play.ensures.agrees c.drain.new.v c.in-Ok.ensures.rounds c.in-Ok.ensures.history c.in-Ok.ensures.sound
    c.in-Ok.ensures.drained

pub returns-in-Ok-clause-running : goal.returns-in-Ok-clause-running
returns-in-Ok-clause-running g c = c.in-Ok.ensures.drained.running

pub returns-in-Ok-clause-goes_on : goal.returns-in-Ok-clause-goes_on
returns-in-Ok-clause-goes_on g c = λ s begun.
    goes_further g.D.Pm.state g.met.D.Pm.agree g.F.Fingerprint.print c.args.v.now c.play.new.v c.in_ok-play.ensures.reaches s begun
    c.in_ok-play.ensures.sound c.drain.new.v c.in-Ok.ensures.rounds

pub returns-in-Ok-clause-faults : goal.returns-in-Ok-clause-faults
returns-in-Ok-clause-faults g c =
    let early = c.in_ok-play.ensures.faults in
    let late = (rounds_on g.D.Pm.state g.F.Fingerprint.print c.play.new.v c.drain.new.v c.in-Ok.ensures.rounds c.in_ok-play.ensures.agrees
    c.in_ok-play.ensures.ends.0).faults in
    omega (arith, early, late)

pub returns-in-Err-NoMemory-clause-ends : goal.returns-in-Err-NoMemory-clause-ends
returns-in-Err-NoMemory-clause-ends g c =
    memory_ends g.D.Pm.state g.F.Fingerprint.print c.args.order c.args.scripts.now c.args.turns.now c.requires.clients c.requires.suits
    c.args.v.now c.play.new.v c.requires.new c.in_ok-play.ensures.sound c.in_ok-play.ensures.runs c.in_ok-play.ensures.ends
    c.in_ok-play.ensures.faults c.in_ok-play.ensures.agrees c.drain.new.v c.in-Err-NoMemory.ensures.rounds c.in-Err-NoMemory.ensures.history
    c.in-Err-NoMemory.ensures.sound

pub returns-in-Err-NoMemory-clause-goes_on : goal.returns-in-Err-NoMemory-clause-goes_on
returns-in-Err-NoMemory-clause-goes_on g c = λ s begun.
    goes_further g.D.Pm.state g.met.D.Pm.agree g.F.Fingerprint.print c.args.v.now c.play.new.v c.in_ok-play.ensures.reaches s begun
    c.in_ok-play.ensures.sound c.drain.new.v c.in-Err-NoMemory.ensures.rounds

pub returns-in-Err-NoMemory-clause-faults : goal.returns-in-Err-NoMemory-clause-faults
returns-in-Err-NoMemory-clause-faults g c =
    let early = c.in_ok-play.ensures.faults in
    let late = (rounds_on g.D.Pm.state g.F.Fingerprint.print c.play.new.v c.drain.new.v c.in-Err-NoMemory.ensures.rounds
    c.in_ok-play.ensures.agrees c.in_ok-play.ensures.ends.0).faults in
    omega (arith, early, late)

pub returns-in-Err-Stopped-clause-ends : goal.returns-in-Err-Stopped-clause-ends
returns-in-Err-Stopped-clause-ends g c =
    stopped_ends g.D.Pm.state g.F.Fingerprint.print c.args.order c.args.scripts.now c.args.turns.now c.requires.clients c.requires.suits
    c.args.v.now c.play.new.v c.requires.new c.in_ok-play.ensures.sound c.in_ok-play.ensures.runs c.in_ok-play.ensures.ends
    c.in_ok-play.ensures.faults c.in_ok-play.ensures.agrees c.drain.new.v c.in-Err-Stopped.ensures.rounds c.in-Err-Stopped.ensures.history
    c.in-Err-Stopped.ensures.sound
    (subst (DrainFails g.D.Pm.state c.play.new.v c.drain.new.v) c.in-Err-Stopped.field-0-is c.in-Err-Stopped.ensures.fails)

pub returns-in-Err-Stopped-clause-goes_on : goal.returns-in-Err-Stopped-clause-goes_on
returns-in-Err-Stopped-clause-goes_on g c = λ s begun.
    goes_further g.D.Pm.state g.met.D.Pm.agree g.F.Fingerprint.print c.args.v.now c.play.new.v c.in_ok-play.ensures.reaches s begun
    c.in_ok-play.ensures.sound c.drain.new.v c.in-Err-Stopped.ensures.rounds

pub returns-in-Err-Stopped-clause-faults : goal.returns-in-Err-Stopped-clause-faults
returns-in-Err-Stopped-clause-faults g c =
    let early = c.in_ok-play.ensures.faults in
    let late = (rounds_on g.D.Pm.state g.F.Fingerprint.print c.play.new.v c.drain.new.v c.in-Err-Stopped.ensures.rounds
    c.in_ok-play.ensures.agrees c.in_ok-play.ensures.ends.0).faults in
    omega (arith, early, late)
