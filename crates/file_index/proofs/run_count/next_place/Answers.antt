use Rattle.std.proofs.Common.{◌≡◌, ◌/◌, length, get_or, [], vec_len, ap, sym, ◌∙◌, arith}
use Rattle.std.proofs.lemmas.Bool.Decides.{nat_tests}
use Rattle.file_index.specs.Radix.{cells}
use Rattle.file_index.proofs.Nodes.{node_len}
use Rattle.file_index.proofs.Radix.{look_outside}
use Rattle.file_index.proofs.run_count.next_place.Goals as goal

pub returns-then-is_empty-clause-none : goal.returns-then-is_empty-clause-none
returns-then-is_empty-clause-none c =
    let nodes = c.args.nodes.now in
    let none : vec_len c.index-nodes-place.result ≡ 0 = grind (arith, nat_tests, c.is_empty.ensures, c.if-is_empty.true) in
    let len = node_len nodes (c.args.place / 64) c.index-nodes-place.result c.requires.in_root c.index-nodes-place.is in
    λ k low high.
    let same : c.args.place / 64 ≡ k / 64 = omega arith in
    look_outside (cells nodes) k (ap (λ i. length (get_or (cells nodes) i [])) (sym same) ∙ len ∙ none)
