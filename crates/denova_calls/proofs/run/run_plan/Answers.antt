use Rattle.denova_calls.proofs.Runs.{plan_whole, plan_part}
use Rattle.denova_calls.proofs.run.run_plan.Goals as goal

pub returns-in-Ok-clause-ends : goal.returns-in-Ok-clause-ends
returns-in-Ok-clause-ends g c =
    plan_whole g.D.Pm.state g.F.Fingerprint.print c.args.order c.args.plan.now.scripts c.args.plan.now.turns.items c.args.plan.now.numbers
    (g.D.Pm.state c.args.device) c.in-Ok.v c.into_device.result c.into_device.ensures c.deref.result.now c.deref.ensures.value c.in-Ok.ensures.run c.ending_of_volume-ending.result
    c.ending_of_volume-ending.ensures

pub returns-in-Err-clause-ends : goal.returns-in-Err-clause-ends
returns-in-Err-clause-ends g c =
    plan_part g.F.Fingerprint.print c.args.order c.args.plan.now.scripts c.args.plan.now.turns.items c.args.plan.now.numbers
    (g.D.Pm.state c.args.device) (g.D.Pm.state c.in-Err.device) c.in-Err.end c.ending_of_job.result c.in-Err.ensures.fails c.ending_of_job.ensures
