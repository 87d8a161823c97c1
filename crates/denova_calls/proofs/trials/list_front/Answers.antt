use Rattle.denova_calls.proofs.Tried.{front_ends}
use Rattle.denova_calls.proofs.trials.list_front.Goals as goal

pub returns-in-Ok : goal.returns-in-Ok
returns-in-Ok g c = front_ends _ _ _ c.in-Ok.image.items c.list_image.result c.in-Ok.ensures.picked c.list_image.ensures
