use Rattle.law_names.proofs.Changed.{at_root, at_ino, at_other, same_geometry, same_chain, same_pointer, same_word}
use Rattle.law_names.proofs.ChangedValid.{changed_valid}
use Rattle.law_names.proofs.names.name_changes_stay_valid.Goals as goal

pub returns-clause-parts : goal.returns-clause-parts
returns-clause-parts c = λ d change file. record {
  geometry = same_geometry d change;
  root = at_root d change;
  here = at_ino d change file;
  others = at_other d change;
  chain = same_chain d change;
  pointer = same_pointer d change;
  word = same_word d change;
}

pub returns-clause-valid : goal.returns-clause-valid
returns-clause-valid c = changed_valid
