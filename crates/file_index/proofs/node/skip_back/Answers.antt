use Rattle.std.proofs.Common.{◌≡◌, ◌/◌, vec_len, ◌∙◌, arith}
use Rattle.std.proofs.lemmas.Bool.Decides.{nat_tests}
use Rattle.file_index.specs.Radix.{cells}
use Rattle.file_index.proofs.Nodes.{node_len, none_in_node}
use Rattle.file_index.proofs.node.skip_back.Goals as goal

pub returns-then-is_empty-clause-none : goal.returns-then-is_empty-clause-none
returns-then-is_empty-clause-none c =
    let none : vec_len c.index-nodes-place.result ≡ 0 = grind (arith, nat_tests, c.is_empty.ensures, c.if-is_empty.true) in
    let len = node_len c.args.nodes.now (c.args.place / 64) c.index-nodes-place.result c.requires c.index-nodes-place.is in
    λ k low high. none_in_node (cells c.args.nodes.now) c.args.place k (len ∙ none) low high
