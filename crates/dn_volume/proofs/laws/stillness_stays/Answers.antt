use Rattle.dn_volume.proofs.Stills.{still_without, still_flushes, still_settles}
use Rattle.dn_volume.proofs.laws.stillness_stays.Goals as goal

pub returns-clause-still : goal.returns-clause-still
returns-clause-still c = still_without

pub returns-clause-flushes : goal.returns-clause-flushes
returns-clause-flushes c = still_flushes

pub returns-clause-settles : goal.returns-clause-settles
returns-clause-settles c = still_settles
