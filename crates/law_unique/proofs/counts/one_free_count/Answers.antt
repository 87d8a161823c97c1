use Rattle.law_unique.proofs.Counted.{free_one}
use Rattle.law_unique.proofs.counts.one_free_count.Goals as goal

pub returns : goal.returns
returns c = free_one
