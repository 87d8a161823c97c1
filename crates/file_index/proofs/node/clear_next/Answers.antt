use Rattle.std.proofs.Common.{◌≡◌, ◌<◌, ◌/◌, vec_len, ◌∙◌, arith}
use Rattle.std.proofs.lemmas.Bool.Decides.{nat_tests}
use Rattle.file_index.specs.Radix.{cells}
use Rattle.file_index.proofs.Nodes.{node_len}
use Rattle.file_index.proofs.PageMaps.{cells_long, clears_node, clears_one}
use Rattle.file_index.proofs.node.clear_next.Goals as goal

pub returns-then-is_empty-clause-cells : goal.returns-then-is_empty-clause-cells
returns-then-is_empty-clause-cells c =
    let nodes = c.args.nodes.now in
    let none : vec_len c.index.result.now ≡ 0 = grind (arith, nat_tests, c.is_empty.ensures, c.if-is_empty.true) in
    let len = node_len nodes.items (c.args.place / 64) c.index.result.now (omega (arith, c.requires.in_root, nodes.ok.0)) c.index.ensures in
    clears_node c.args.place (cells nodes.items) (len ∙ none)

pub returns-clause-cells : goal.returns-clause-cells
returns-clause-cells c =
    let nodes = c.args.nodes.now in
    let some : 0 < vec_len c.index.result.now = grind (arith, nat_tests, c.is_empty.ensures, c.if-is_empty.false) in
    let len = node_len nodes.items (c.args.place / 64) c.index.result.now (omega (arith, c.requires.in_root, nodes.ok.0)) c.index.ensures in
    rw c.write_cell.ensures
    (clears_one c.args.place (cells nodes.items) (omega (arith, cells_long nodes.items, c.requires.in_root, nodes.ok.0))
    (omega (arith, len, some)) c.requires.whole)
