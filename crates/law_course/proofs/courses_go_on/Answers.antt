use Rattle.law_course.proofs.Course.{goes_on}
use Rattle.law_course.proofs.courses_go_on.Goals as goal

pub returns : goal.returns
returns c = goes_on
