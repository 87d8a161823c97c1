use Rattle.law_write.proofs.WriteFree.{places_apart}
use Rattle.law_write.proofs.writes.places_are_apart.Goals as goal

pub returns : goal.returns
returns c = places_apart
