use Rattle.law_course.proofs.Course.{begins}
use Rattle.law_course.proofs.courses_begin.Goals as goal

pub returns : goal.returns
returns c = begins
