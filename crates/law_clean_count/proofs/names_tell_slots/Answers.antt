use Rattle.law_clean_count.proofs.NameCounts.{root_takes_adds}
use Rattle.law_clean_count.proofs.names_tell_slots.Goals as goal

pub returns : goal.returns
returns c = root_takes_adds
