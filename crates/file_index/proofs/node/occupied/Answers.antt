use Rattle.std.proofs.Common.{◌≡◌, length, ◌<◌, sym, arith}
use Rattle.std.proofs.lemmas.Bool.Decides.{nat_tests}
use Rattle.file_index.proofs.Rooms.{occupied_none, occupied_one}
use Rattle.file_index.proofs.node.occupied.Goals as goal

pub returns-then-is_empty : goal.returns-then-is_empty
returns-then-is_empty c =
    let none : length c.args.node.now.items ≡ 0 = grind (arith, nat_tests, c.is_empty.ensures, c.if-is_empty.true, c.args.node.now.ok.0) in
    sym (occupied_none c.args.node.now.items none)

pub returns-else-is_empty : goal.returns-else-is_empty
returns-else-is_empty c =
    let some : 0 < length c.args.node.now.items = grind (arith, nat_tests, c.is_empty.ensures, c.if-is_empty.false, c.args.node.now.ok.0) in
    sym (occupied_one c.args.node.now.items some)
