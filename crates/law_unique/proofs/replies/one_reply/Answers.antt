use Rattle.law_unique.proofs.Listings.{listing_one}
use Rattle.law_unique.proofs.Answered.{reply_one, granted_or_refused}
use Rattle.law_unique.proofs.replies.one_reply.Goals as goal

pub returns-clause-listing : goal.returns-clause-listing
returns-clause-listing c = listing_one

pub returns-clause-one : goal.returns-clause-one
returns-clause-one c = reply_one

pub returns-clause-either : goal.returns-clause-either
returns-clause-either c = granted_or_refused
