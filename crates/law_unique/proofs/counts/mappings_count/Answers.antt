use Rattle.law_unique.proofs.Counted.{counts_mappings, free_unused}
use Rattle.law_unique.proofs.counts.mappings_count.Goals as goal

pub returns-clause-mapped : goal.returns-clause-mapped
returns-clause-mapped c = counts_mappings

pub returns-clause-free : goal.returns-clause-free
returns-clause-free c = free_unused
