use Rattle.std.proofs.Common.{◌≡◌, ◌<◌, length, vec_len, ◌∙◌, arith}
use Rattle.std.proofs.lemmas.Bool.Decides.{nat_tests}
use Rattle.file_index.proofs.Nodes.{opens_popped, node_len}
use Rattle.file_index.proofs.node.open_node.Goals as goal

pub returns-in-Some : goal.returns-in-Some
returns-in-Some c =
    let nodes = c.args.nodes.now in
    let within : c.args.at < length nodes.items = omega (arith, c.requires.at, nodes.ok.0) in
    let len = node_len nodes.items c.args.at c.index.result.now within c.index.ensures in
    let none : vec_len c.index.result.now ≡ 0 = grind (arith, nat_tests, c.is_empty.ensures, c.if-is_empty.true) in
    let popped = rw c.in-Some.is at c.pop.ensures.items in
    opens_popped c.args.at nodes.items c.args.spare.now.items c.pop.new.self.items c.in-Some.node c.requires.valid within (len ∙ none) popped
