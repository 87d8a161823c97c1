use Rattle.denova_calls.proofs.Tried.{trial_ends}
use Rattle.denova_calls.proofs.trials.trial.Goals as goal

pub returns-in-Ok-clause-ends : goal.returns-in-Ok-clause-ends
returns-in-Ok-clause-ends g c =
    trial_ends g.F.Fingerprint.print c.args.calls _ (g.D.Pm.state c.args.device.now) c.in-Ok.plan c.try_plan.result c.in-Ok.ensures.ok
    c.try_plan.ensures
