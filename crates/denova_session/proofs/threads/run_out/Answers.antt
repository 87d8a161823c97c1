use Rattle.std.proofs.Common.{subst}
use Rattle.thread_runs.specs.Threads.{EndsThreads}
use Rattle.denova_session.proofs.Threaded.{threads_end, rest_ends, drained_ends}
use Rattle.denova_session.proofs.threads.run_out.Goals as goal

pub returns-in-Err-clause-ends : goal.returns-in-Err-clause-ends
returns-in-Err-clause-ends g c =
    let S = g.D.Pm.state in
    let r = c.run_in_threads-played in
    threads_end S g.F.Fingerprint.print c.args.clients.now c.requires.clients c.args.volume r.result.1 r.ensures.keeps c.in-Err.fault
    (subst (λ (x : _). EndsThreads S c.args.clients.now c.args.volume r.result.1 x) c.in-Err.is r.ensures.ends)

pub returns-in-Ok-drain_rest-clause-ends : goal.returns-in-Ok-drain_rest-clause-ends
returns-in-Ok-drain_rest-clause-ends g c =
    let S = g.D.Pm.state in
    let r = c.run_in_threads-played in
    let d = c.in-Ok-drain_rest.ensures in
    let ran = subst (λ (x : _). EndsThreads S c.args.clients.now c.args.volume r.result.1 x) c.in-Ok.is r.ensures.ends in
    drained_ends S g.F.Fingerprint.print c.args.clients.now c.requires.clients c.args.volume r.result.1 r.ensures.keeps c.in-Ok.readings ran
    c.drain_rest.new.v d.sound d.history d.landed (d.keeps ran.rests).1 d.drained

pub returns-in-Err-drain_rest-clause-ends : goal.returns-in-Err-drain_rest-clause-ends
returns-in-Err-drain_rest-clause-ends g c =
    let S = g.D.Pm.state in
    let r = c.run_in_threads-played in
    let d = c.in-Err-drain_rest.ensures in
    let ran = subst (λ (x : _). EndsThreads S c.args.clients.now c.args.volume r.result.1 x) c.in-Ok.is r.ensures.ends in
    rest_ends S g.F.Fingerprint.print c.args.clients.now c.requires.clients c.args.volume r.result.1 r.ensures.keeps c.in-Ok.readings ran
    c.drain_rest.new.v d.sound d.history d.landed r.ensures.faults c.in-Err-drain_rest.fault d.stopped
