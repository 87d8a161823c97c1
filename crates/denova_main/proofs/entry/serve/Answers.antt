use Rattle.denova_main.proofs.OpenedStill.{opened_still}
use Rattle.denova_main.proofs.entry.serve.Goals as goal

pub tool-status-requires : goal.tool-status-requires
tool-status-requires g c = record { still = opened_still _ c.in-Ok.ensures.opened }
