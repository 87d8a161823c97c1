use Rattle.law_names.proofs.Differs.{fresh_unsaid}
use Rattle.law_names.proofs.Commits.{root_stores, turn_stores}
use Rattle.law_names.proofs.names.fresh_names_are_unread.Goals as goal

pub returns-clause-unread : goal.returns-clause-unread
returns-clause-unread c = fresh_unsaid

pub returns-clause-root : goal.returns-clause-root
returns-clause-root c = root_stores

pub returns-clause-inode : goal.returns-clause-inode
returns-clause-inode c = turn_stores
