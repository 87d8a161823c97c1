use Rattle.law_unique.proofs.SameParts.{log_one}
use Rattle.law_unique.proofs.SameChain.{chain_one}
use Rattle.law_unique.proofs.images.one_reading.Goals as goal

pub returns-clause-log : goal.returns-clause-log
returns-clause-log c = log_one

pub returns-clause-chain : goal.returns-clause-chain
returns-clause-chain c = chain_one
