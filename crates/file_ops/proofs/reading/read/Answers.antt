use Rattle.begin_steps.proofs.Answered.{untouched, once_last}
use Rattle.file_ops.proofs.Replied.{read_at_once}
use Rattle.file_ops.proofs.reading.read.Goals as goal

pub returns-in-Err-clause-event : goal.returns-in-Err-clause-event
returns-in-Err-clause-event g c = λ d volume. (
  untouched g.D.Pm.state c.args.v.now d volume,
  once_last d c.args.v.now.parts c.args.op (read_at_once c.args.op c.requires.kind),
)
