use Rattle.std.proofs.Common.{◌∙◌, Bool, List, ap}
use Rattle.std.specs.Prelude.{count_by}
use Rattle.job_texts.proofs.Marked.{marks_counted}
use Rattle.job_texts.proofs.counting.count_mapped.Goals as goal

pub returns : goal.returns
returns g c = λ d volume. c.count_marks.ensures
    ∙ ap (λ (marks : List Bool). count_by (λ m. m) marks) c.deref.ensures.value
    ∙ marks_counted d c.in_ok-marks.marks.items (c.in_ok-marks.ensures d volume)
