use Rattle.denova_calls.proofs.Runs.{work_whole, work_part}
use Rattle.denova_calls.proofs.run.run_generated.Goals as goal

pub returns-in-Ok-clause-ends : goal.returns-in-Ok-clause-ends
returns-in-Ok-clause-ends g c =
    work_whole g.D.Pm.state g.F.Fingerprint.print c.args.number c.args.scripts.now c.requires.scripts (g.D.Pm.state c.args.device) c.in-Ok.v
    c.into_device.result c.into_device.ensures c.in-Ok.ensures.run c.ending_of_worked-ending.result c.ending_of_worked-ending.ensures

pub returns-in-Err-clause-ends : goal.returns-in-Err-clause-ends
returns-in-Err-clause-ends g c =
    work_part g.F.Fingerprint.print c.args.number c.args.scripts.now c.requires.scripts (g.D.Pm.state c.args.device)
    (g.D.Pm.state c.in-Err.device) c.in-Err.end c.ending_of_work.result c.in-Err.ensures.fails c.ending_of_work.ensures
