use Rattle.dn_volume.proofs.Begun.{begins_stay_sound}
use Rattle.dn_volume.proofs.laws.begins_stay_sound.Goals as goal

pub returns : goal.returns
returns g c = begins_stay_sound g.D.Pm.state
