use Rattle.law_write.proofs.WriteFiles.{files-written}
use Rattle.law_write.proofs.writes.writes_are_writes.Goals as goal

pub returns : goal.returns
returns c = files-written
