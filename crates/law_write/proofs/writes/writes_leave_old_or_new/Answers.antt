use Rattle.law_write.proofs.WriteEvent.{written_images}
use Rattle.law_write.proofs.writes.writes_leave_old_or_new.Goals as goal

pub returns : goal.returns
returns c = written_images
