use Rattle.law_unique.proofs.Answered.{end_one, legal_parts}
use Rattle.law_unique.proofs.replies.one_end.Goals as goal

pub returns-clause-one : goal.returns-clause-one
returns-clause-one c = end_one

pub returns-clause-parts : goal.returns-clause-parts
returns-clause-parts c = legal_parts
