use Rattle.dn_volume.proofs.Wrong.{wrong_refused, left_out_refused, stale_refused}
use Rattle.dn_volume.proofs.laws.wrong_parts_are_refused.Goals as goal

pub returns-clause-parts : goal.returns-clause-parts
returns-clause-parts c = wrong_refused

pub returns-clause-places : goal.returns-clause-places
returns-clause-places c = left_out_refused

pub returns-clause-pointers : goal.returns-clause-pointers
returns-clause-pointers c = stale_refused
