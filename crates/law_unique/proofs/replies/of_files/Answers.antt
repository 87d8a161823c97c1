use Rattle.law_unique.proofs.Answered.{of_files}
use Rattle.law_unique.proofs.replies.of_files.Goals as goal

pub returns : goal.returns
returns c = of_files
