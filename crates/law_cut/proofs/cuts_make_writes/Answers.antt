use Rattle.std.proofs.Common.{refl}
use Rattle.law_write.proofs.WriteValid.{written_valid}
use Rattle.law_cut.specs.Cutting.{cut_disk}
use Rattle.law_cut.proofs.Cutting.{cut-writes, cut-well, cut-near_without_rows}
use Rattle.law_cut.proofs.cuts_make_writes.Goals as goal

pub returns-clause-with_rows : goal.returns-clause-with_rows
returns-clause-with_rows c = λ d ino fresh size refill word may near. record {
  event = cut-writes d ino fresh size refill word may;
  well = cut-well d ino fresh size refill word may near;
  starts = refl;
  places = refl;
  ends = refl;
  blocks = λ i. refl;
  takes = refl;
}

pub returns-clause-without_rows : goal.returns-clause-without_rows
returns-clause-without_rows c = λ d ino fresh size refill word may none. record {
  event = cut-writes d ino fresh size refill word may;
  well = cut-well d ino fresh size refill word may (cut-near_without_rows d ino fresh size refill word may none);
  starts = refl;
  places = refl;
  ends = refl;
  blocks = λ i. refl;
  takes = refl;
}

pub returns-clause-valid : goal.returns-clause-valid
returns-clause-valid c = λ d ino fresh size refill word may near.
    written_valid ino d (cut_disk d ino fresh size refill word) (cut-writes d ino fresh size refill word may)
    (cut-well d ino fresh size refill word may near)
