use Rattle.call_endings.specs.Call.{input_of}
use Rattle.denova_calls.proofs.Plans.{has_plan}
use Rattle.denova_calls.proofs.plan.read_plan.Goals as goal

pub returns-in-Ok-plan_of-clause-ok : goal.returns-in-Ok-plan_of-clause-ok
returns-in-Ok-plan_of-clause-ok g c =
    let S = g.S.Source in
    has_plan c.args.form (input_of S.left S.faults c.args.input.now c.read_job.new.from) c.in-Ok.job c.in-Ok-plan_of.plan c.in-Ok.ensures.formed
    c.in-Ok.ensures.answer c.in-Ok-plan_of.ensures.scripts c.in-Ok-plan_of.ensures.numbers c.in-Ok-plan_of.ensures.turns
