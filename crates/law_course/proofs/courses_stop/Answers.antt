use Rattle.law_course.proofs.Course.{stops}
use Rattle.law_course.proofs.courses_stop.Goals as goal

pub returns : goal.returns
returns c = stops
