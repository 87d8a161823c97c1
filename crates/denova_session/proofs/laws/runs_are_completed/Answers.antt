use Rattle.denova_session.proofs.Completes.{completed}
use Rattle.denova_session.proofs.laws.runs_are_completed.Goals as goal

pub returns : goal.returns
returns c = completed
