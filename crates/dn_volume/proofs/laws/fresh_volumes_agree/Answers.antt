use Rattle.dn_volume.proofs.Fresh.{fresh_volumes_agree, fresh_volumes_are_sound}
use Rattle.dn_volume.proofs.laws.fresh_volumes_agree.Goals as goal

pub returns-clause-agree : goal.returns-clause-agree
returns-clause-agree c = fresh_volumes_agree

pub returns-clause-sound : goal.returns-clause-sound
returns-clause-sound c = fresh_volumes_are_sound
