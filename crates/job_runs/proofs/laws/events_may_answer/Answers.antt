use Rattle.job_runs.proofs.MayAnswer.{events_may_answer}
use Rattle.job_runs.proofs.laws.events_may_answer.Goals as goal

pub returns : goal.returns
returns g c = events_may_answer g.D.Pm.state
