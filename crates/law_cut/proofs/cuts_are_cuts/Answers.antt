use Rattle.law_cut.proofs.Cutting.{cut-well}
use Rattle.law_cut.proofs.CutBytes.{cut_resizes, cut_files}
use Rattle.law_cut.proofs.cuts_are_cuts.Goals as goal

pub returns-clause-bytes : goal.returns-clause-bytes
returns-clause-bytes c = λ d ino fresh size refill word may near fills zeros. cut_resizes d ino fresh size refill word may
    (cut-well d ino fresh size refill word may near) fills zeros

pub returns-clause-files : goal.returns-clause-files
returns-clause-files c = λ d ino fresh size refill word may near fills zeros name leads. cut_files d ino fresh size refill word may
    (cut-well d ino fresh size refill word may near) fills zeros name leads
