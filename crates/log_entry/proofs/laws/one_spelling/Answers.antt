use Rattle.log_entry.proofs.Unique.{spelling_one, spelled_one}
use Rattle.log_entry.proofs.laws.one_spelling.Goals as goal

pub returns : goal.returns
returns c = record {
  item = λ x y r s good_x good_y same. let one = spelling_one x y r s good_x good_y same in (one.item, one.rest);
  list = spelled_one;
}
