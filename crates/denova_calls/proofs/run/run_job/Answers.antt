use Rattle.call_endings.specs.Call.{input_of}
use Rattle.denova_calls.proofs.Runs.{script_ends}
use Rattle.denova_calls.proofs.run.run_job.Goals as goal

pub returns-in-Ok-clause-ends : goal.returns-in-Ok-clause-ends
returns-in-Ok-clause-ends g c =
    let S = g.S.Source in
    script_ends g.F.Fingerprint.print c.args.form c.args.order (input_of S.left S.faults c.args.input.now c.read_plan.new.input)
    (g.D.Pm.state c.args.device) (g.D.Pm.state c.run_plan.result.1) c.in-Ok.plan c.in-Ok.ensures.ok c.run_plan.result.0 c.run_plan.ensures.ends
