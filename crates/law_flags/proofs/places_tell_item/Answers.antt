use Rattle.law_flags.proofs.Tags.{places_tell, more_bits}
use Rattle.law_flags.proofs.places_tell_item.Goals as goal

pub returns-clause-tell : goal.returns-clause-tell
returns-clause-tell c = places_tell

pub returns-clause-more_bits : goal.returns-clause-more_bits
returns-clause-more_bits c = more_bits
