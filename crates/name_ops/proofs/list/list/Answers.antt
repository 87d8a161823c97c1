use Rattle.begin_steps.proofs.Answered.{untouched, once_last}
use Rattle.dn_model.specs.declared.op.Op.TheVariants.{List as ListAll}
use Rattle.name_ops.proofs.Listed.{listing}
use Rattle.name_ops.proofs.list.list.Goals as goal

pub answer-requires-clause-why : goal.answer-requires-clause-why
answer-requires-clause-why g c = λ d volume. listing d c.args.v.now.parts (g.D.Pm.state c.args.v.now.device) volume c.in-Ok.names c.in-Ok.ensures

pub returns-in-Err-clause-event : goal.returns-in-Err-clause-event
returns-in-Err-clause-event g c = λ d volume. (untouched g.D.Pm.state c.args.v.now d volume, once_last d c.args.v.now.parts ListAll tt)
