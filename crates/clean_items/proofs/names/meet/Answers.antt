use Rattle.std.proofs.Common.{ℕ, List, subst}
use Rattle.file_index.specs.Index.{Puts}
use Rattle.clean_items.proofs.NamesBack.{meets-put}
use Rattle.clean_items.proofs.names.meet.Goals as goal

pub returns : goal.returns
returns c = meets-put c.args.name.now 0 c.args.met.now.map c.reserve.new.self c.put.new.self c.in_ok-reserve.ensures.map
    (subst (λ (name : List ℕ). Puts name 0 c.reserve.new.self c.put.new.self) c.in_ok-name.ensures c.put.ensures)
