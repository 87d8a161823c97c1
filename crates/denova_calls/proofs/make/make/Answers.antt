use Rattle.std.proofs.Common.{Err, ap, ◌∙◌}
use Rattle.denova_calls.proofs.Makes.{formatted_tells, wrong_size_tells, failed_tells}
use Rattle.denova_calls.proofs.make.make.Goals as goal

pub returns-in-Ok-format-clause-ends : goal.returns-in-Ok-format-clause-ends
returns-in-Ok-format-clause-ends g c =
    let S = g.D.Pm.state in
    let f = c.in-Ok-format.ensures in
    let whole = c.format.ensures in
    formatted_tells c.args.g (S c.args.device.now) (S c.format.new.device) c.requires.accepted c.format.result c.in-Ok.text.items whole.wrong_size
    c.in-Ok-format.is f.any_moment f.done c.in-Ok.ensures

pub returns-in-Err-WrongSize-clause-ends : goal.returns-in-Err-WrongSize-clause-ends
returns-in-Err-WrongSize-clause-ends g c =
    let S = g.D.Pm.state in
    let here = c.in-Err-WrongSize in
    let f = c.format.ensures in
    let is = here.is ∙ ap Err here.field-0-is in
    wrong_size_tells c.args.g (S c.args.device.now) (S c.format.new.device) c.requires.accepted c.format.result here.words c.refused.result
    f.wrong_size is (f.wrong_size_stores_nothing here.words is) c.refused.ensures

pub returns-in-Err-Failed-clause-ends : goal.returns-in-Err-Failed-clause-ends
returns-in-Err-Failed-clause-ends g c =
    let S = g.D.Pm.state in
    let here = c.in-Err-Failed in
    let f = c.format.ensures in
    let is = here.is ∙ ap Err here.field-0-is in
    failed_tells c.args.g (S c.args.device.now) (S c.format.new.device) c.requires.accepted c.format.result f.wrong_size is f.any_moment (f.failed is)
