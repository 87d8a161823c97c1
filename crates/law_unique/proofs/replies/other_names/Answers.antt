use Rattle.law_unique.proofs.Answered.{commute, answered_alike, granted_alike}
use Rattle.law_unique.proofs.replies.other_names.Goals as goal

pub returns-clause-files : goal.returns-clause-files
returns-clause-files c = commute

pub returns-clause-replies : goal.returns-clause-replies
returns-clause-replies c = answered_alike

pub returns-clause-granted : goal.returns-clause-granted
returns-clause-granted c = granted_alike
