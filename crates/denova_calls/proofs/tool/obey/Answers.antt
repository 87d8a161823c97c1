use Rattle.std.proofs.Common.{sym, subst}
use Rattle.call_endings.specs.Call.{input_of}
use Rattle.denova_words.specs.declared.words.Command.{Command}
use Rattle.denova_calls.specs.Ends.{CommandEnds}
use Rattle.denova_calls.proofs.tool.obey.Goals as goal

pub returns-in-Apply-clause-ends : goal.returns-in-Apply-clause-ends
returns-in-Apply-clause-ends g c =
    let S = g.S.Source in
    let s = g.D.Pm.state c.args.device in
    let t = g.D.Pm.state c.run_job.result.1 in
    subst (λ (command : Command). CommandEnds g.F.Fingerprint.print command (input_of S.left S.faults c.args.input.now c.run_job.new.input) s t
    c.run_job.result.0)
    (sym c.in-Apply.is) c.run_job.ensures.ends

pub returns-in-Replay-clause-ends : goal.returns-in-Replay-clause-ends
returns-in-Replay-clause-ends g c =
    let S = g.S.Source in
    let s = g.D.Pm.state c.args.device in
    let t = g.D.Pm.state c.run_job-in-Replay.result.1 in
    subst (λ (command : Command). CommandEnds g.F.Fingerprint.print command
    (input_of S.left S.faults c.args.input.now c.run_job-in-Replay.new.input) s t c.run_job-in-Replay.result.0)
    (sym c.in-Replay.is) c.run_job-in-Replay.ensures.ends

pub returns-in-Trial-clause-ends : goal.returns-in-Trial-clause-ends
returns-in-Trial-clause-ends g c =
    let S = g.S.Source in
    let s = g.D.Pm.state c.args.device in
    subst (λ (command : Command). CommandEnds g.F.Fingerprint.print command (input_of S.left S.faults c.args.input.now c.trial-ending.new.input) s s
    c.trial-ending.result)
    (sym c.in-Trial.is) c.trial-ending.ensures.ends
