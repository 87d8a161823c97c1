use Rattle.law_unique.proofs.RolledSame.{rolling_keeps}
use Rattle.law_unique.proofs.images.rolling_keeps.Goals as goal

pub returns : goal.returns
returns c = rolling_keeps
