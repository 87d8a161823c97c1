use Rattle.std.proofs.Common.{◌≤◌, sym, subst, arith}
use Rattle.denova_runs.specs.Ran.{RunFails}
use Rattle.job_texts.specs.Plan.{scripts_in}
use Rattle.denova_session.specs.Steps.{EndsThreaded}
use Rattle.denova_session.proofs.Threaded.{end_tells}
use Rattle.denova_runs.proofs.Ended.{end_faults}
use Rattle.denova_session.proofs.threads.run_threads.Goals as goal

pub returns-in-Err-clause-fails : goal.returns-in-Err-clause-fails
returns-in-Err-clause-fails g c = c.in-Err.ensures.fails (scripts_in c.args.clients.now) c.requires.clients

pub returns-in-Ok-ended-clause-ran : goal.returns-in-Ok-ended-clause-ran
returns-in-Ok-ended-clause-ran g c =
    let S = g.D.Pm.state in
    let o = c.in-Ok.ensures.opened in
    let r = c.run_out-ended in
    let ends = subst (λ (x : _). EndsThreaded S g.F.Fingerprint.print c.args.clients.now (S c.args.device) c.in-Ok.opened.0 r.result.1 x)
    c.in-Ok-ended.is (r.ensures.ends (S c.args.device) o.begun) in
    record { sound = o.sound; run = ends c.in-Ok.opened.1.items o.counts }

pub returns-in-Err-ended-clause-fails : goal.returns-in-Err-ended-clause-fails
returns-in-Err-ended-clause-fails g c =
    let S = g.D.Pm.state in
    let s = S c.args.device in
    let r = c.run_out-ended in
    let ends = subst (λ (x : _). EndsThreaded S g.F.Fingerprint.print c.args.clients.now s c.in-Ok.opened.0 r.result.1 x)
    c.in-Err-ended.is (r.ensures.ends s c.in-Ok.ensures.opened.begun) in
    subst (λ (back : _). RunFails g.F.Fingerprint.print (scripts_in c.args.clients.now) s (S back.1) back.0) (sym c.end_of.ensures)
    (end_tells S g.F.Fingerprint.print c.args.clients.now s c.in-Ok.opened.0 r.result.1 c.in-Err-ended.fault ends)

pub returns-in-Err-ended-clause-faults : goal.returns-in-Err-ended-clause-faults
returns-in-Err-ended-clause-faults g c =
    let S = g.D.Pm.state in
    let first = c.in-Ok.ensures.faults in
    let next = c.run_out-ended.ensures.faults in
    subst (λ (back : _). (S c.args.device).faults ≤ (S back.1).faults) (sym c.end_of.ensures)
    (end_faults S c.run_out-ended.result.1 (S c.args.device).faults c.in-Err-ended.fault (omega (arith, first, next)))
