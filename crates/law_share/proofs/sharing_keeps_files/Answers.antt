use Rattle.law_share.proofs.Shared.{shares_place, keeps_files, own_kept}
use Rattle.law_share.proofs.sharing_keeps_files.Goals as goal

pub returns-clause-places : goal.returns-clause-places
returns-clause-places c = shares_place

pub returns-clause-files : goal.returns-clause-files
returns-clause-files c = keeps_files

pub returns-clause-own : goal.returns-clause-own
returns-clause-own c = λ print d ino idx row fresh may own. own_kept d ino idx row fresh may print own
