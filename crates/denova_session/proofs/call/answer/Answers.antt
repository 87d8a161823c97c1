use Rattle.std.proofs.Common.{◌∙◌, Some, ap, sym}
use Rattle.denova_words.specs.declared.words.Command.{Command}
use Rattle.denova_session.specs.Ends.{asked_for}
use Rattle.denova_session.proofs.call.answer.Goals as goal

pub returns-in-Ok-Some-Run-clause-answers : goal.returns-in-Ok-Some-Run-clause-answers
returns-in-Ok-Some-Run-clause-answers g c =
    let here = c.in-Ok-Some-Run in
    asked_for (sym here.ensures ∙ here.field-0-is ∙ ap (λ (x : Command). Some x) here.field-0-0-is) c.run_job.ensures.ends
