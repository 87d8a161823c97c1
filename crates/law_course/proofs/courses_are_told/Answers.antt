use Rattle.law_course.proofs.Course.{legal-told}
use Rattle.law_course.proofs.courses_are_told.Goals as goal

pub returns : goal.returns
returns c = λ print old start history f s on. (on.course, legal-told print old start history f s on)
