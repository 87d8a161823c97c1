use Rattle.log_entry.proofs.Fronts.{front_one, read_again}
use Rattle.log_entry.proofs.laws.one_front.Goals as goal

pub returns : goal.returns
returns c = record { one = front_one; again = read_again }
