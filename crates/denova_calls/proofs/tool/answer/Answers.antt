use Rattle.std.proofs.Common.{refl, ◌∙◌, sym}
use Rattle.denova_calls.specs.Ends.{unread, no_command, obeyed}
use Rattle.denova_calls.proofs.tool.answer.Goals as goal

pub returns-in-Ok-Some-clause-answers : goal.returns-in-Ok-Some-clause-answers
returns-in-Ok-Some-clause-answers g c =
    let here = c.in-Ok-Some in
    obeyed here.command (sym here.ensures ∙ here.field-0-is) c.obey.ensures.ends

pub returns-in-Ok-None-clause-answers : goal.returns-in-Ok-None-clause-answers
returns-in-Ok-None-clause-answers g c =
    let here = c.in-Ok-None in
    no_command (sym here.ensures ∙ here.field-0-is) refl refl

pub returns-in-Err-clause-answers : goal.returns-in-Err-clause-answers
returns-in-Err-clause-answers g c = unread refl refl
