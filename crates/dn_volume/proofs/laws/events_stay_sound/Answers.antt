use Rattle.dn_volume.proofs.Soundness.{moves_stay_sound, answers_stay_sound, breaks_stay_sound}
use Rattle.dn_volume.proofs.laws.events_stay_sound.Goals as goal

pub returns-clause-moves : goal.returns-clause-moves
returns-clause-moves g c = moves_stay_sound g.D.Pm.state

pub returns-clause-answers : goal.returns-clause-answers
returns-clause-answers g c = answers_stay_sound g.D.Pm.state

pub returns-clause-breaks : goal.returns-clause-breaks
returns-clause-breaks g c = breaks_stay_sound g.D.Pm.state
