use Rattle.law_cut.proofs.Cutting.{cut-well}
use Rattle.law_cut.proofs.CutBytes.{cut_own}
use Rattle.law_cut.proofs.cuts_stay_own.Goals as goal

pub returns : goal.returns
returns c = λ print d ino fresh size refill word may near fills own. cut_own d ino fresh size refill word may
    (cut-well d ino fresh size refill word may near) print fills own
