use Rattle.std.proofs.Common.{ℕ, List, subst}
use Rattle.file_index.specs.Index.{Puts}
use Rattle.file_scan.proofs.Naming.{renames-put}
use Rattle.file_scan.proofs.names.put_name.Goals as goal

pub returns : goal.returns
returns c = renames-put c.args.ino c.args.name.now c.args.names.now.map c.reserve.new.self c.put.new.self c.in_ok-reserve.ensures.map
    (subst (λ (name : List ℕ). Puts name c.args.ino c.reserve.new.self c.put.new.self) c.in_ok-name.ensures c.put.ensures)
