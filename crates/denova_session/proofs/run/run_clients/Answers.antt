use Rattle.denova_session.proofs.Ran.{ran_ends, part_ends}
use Rattle.denova_session.proofs.run.run_clients.Goals as goal

pub returns-in-Ok-clause-ends : goal.returns-in-Ok-clause-ends
returns-in-Ok-clause-ends g c =
    ran_ends g.D.Pm.state g.F.Fingerprint.print c.args.clients.now c.args.numbers.now c.requires.numbers (g.D.Pm.state c.args.device) c.in-Ok.ran
    c.in-Ok.ensures.ran c.into_device.result c.into_device.ensures c.ending_of_ran-ending.result c.ending_of_ran-ending.ensures

pub returns-in-Err-clause-ends : goal.returns-in-Err-clause-ends
returns-in-Err-clause-ends g c =
    part_ends g.F.Fingerprint.print c.args.clients.now (g.D.Pm.state c.args.device) (g.D.Pm.state c.in-Err.device) c.args.numbers.now
    c.requires.numbers c.in-Err.end c.ending_of_job.result c.in-Err.ensures.fails c.ending_of_job.ensures
