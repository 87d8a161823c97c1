use Rattle.denova_calls.proofs.Completes.{serves, shows, lacks, makes, refuses}
use Rattle.denova_calls.proofs.laws.calls_are_completed.Goals as goal

pub returns-clause-serves : goal.returns-clause-serves
returns-clause-serves c = serves

pub returns-clause-shows : goal.returns-clause-shows
returns-clause-shows c = shows

pub returns-clause-lacks : goal.returns-clause-lacks
returns-clause-lacks c = lacks

pub returns-clause-makes : goal.returns-clause-makes
returns-clause-makes c = makes

pub returns-clause-refuses : goal.returns-clause-refuses
returns-clause-refuses c = refuses
