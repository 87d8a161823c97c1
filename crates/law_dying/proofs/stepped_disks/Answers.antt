use Rattle.law_dying.proofs.Stepped.{at_ino, at_other, same_geometry, same_chain, same_pointer, same_word}
use Rattle.law_dying.proofs.stepped_disks.Goals as goal

pub returns : goal.returns
returns c = λ d ino step. record {
  geometry = same_geometry d ino step;
  here = at_ino d ino step;
  others = at_other d ino step;
  chain = same_chain d ino step;
  pointer = same_pointer d ino step;
  word = same_word d ino step;
}
