use Rattle.denova_calls.proofs.Runs.{no_work}
use Rattle.denova_calls.proofs.run.run_work.Goals as goal

pub returns-in-Err-clause-ends : goal.returns-in-Err-clause-ends
returns-in-Err-clause-ends g c =
    no_work g.F.Fingerprint.print c.args.number (g.D.Pm.state c.args.device) (g.met.D.Pm.agree c.args.device) c.requires
