use Rattle.std.proofs.Common.{refl}
use Rattle.law_write.proofs.WrittenDisk.{written-writes, written-well, written-well_without_rows}
use Rattle.law_write.proofs.writes.runs_make_writes.Goals as goal

pub returns-clause-with_rows : goal.returns-clause-with_rows
returns-clause-with_rows c = λ d ino fresh first size runs word may near. record {
  event = written-writes d ino fresh first size runs word may;
  well = written-well d ino fresh first size runs word may near;
  starts = refl;
  places = refl;
  ends = refl;
  blocks = λ i. refl;
  takes = refl;
}

pub returns-clause-without_rows : goal.returns-clause-without_rows
returns-clause-without_rows c = λ d ino fresh first size runs word may none. record {
  event = written-writes d ino fresh first size runs word may;
  well = written-well_without_rows d ino fresh first size runs word may none;
  starts = refl;
  places = refl;
  ends = refl;
  blocks = λ i. refl;
  takes = refl;
}
