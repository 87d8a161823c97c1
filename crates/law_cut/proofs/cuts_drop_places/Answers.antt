use Rattle.law_cut.proofs.CutBytes.{cuts_places}
use Rattle.law_cut.proofs.cuts_drop_places.Goals as goal

pub returns : goal.returns
returns c = cuts_places
