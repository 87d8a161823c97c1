use Rattle.name_ops.proofs.Answering.{names_answer, names_break}
use Rattle.name_ops.proofs.laws.names_commit.Goals as goal

pub returns-clause-answers : goal.returns-clause-answers
returns-clause-answers g c = names_answer g.D.Pm.state

pub returns-clause-breaks : goal.returns-clause-breaks
returns-clause-breaks g c = names_break g.D.Pm.state
