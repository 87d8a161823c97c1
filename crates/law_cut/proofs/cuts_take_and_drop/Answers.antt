use Rattle.law_cut.proofs.Cutting.{cut-well}
use Rattle.law_cut.proofs.CutBytes.{takes_and_drops}
use Rattle.law_cut.proofs.cuts_take_and_drop.Goals as goal

pub returns : goal.returns
returns c = λ d ino fresh size refill word may near. takes_and_drops d ino fresh size refill word may (cut-well d ino fresh size refill word may near)
