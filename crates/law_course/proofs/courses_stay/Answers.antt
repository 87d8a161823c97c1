use Rattle.law_course.proofs.Course.{stays}
use Rattle.law_course.proofs.courses_stay.Goals as goal

pub returns : goal.returns
returns c = stays
