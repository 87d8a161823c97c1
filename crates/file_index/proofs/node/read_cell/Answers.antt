use Rattle.std.proofs.Common.{◌%◌, None, get_or, sym, ap, ◌∙◌, arith}
use Rattle.file_index.proofs.Nodes.{look_beyond, look_node, look_short}
use Rattle.file_index.proofs.node.read_cell.Goals as goal

pub returns-in_err-node : goal.returns-in_err-node
returns-in_err-node c =
    c.from_residual.ensures ∙ sym (look_beyond c.args.nodes.now c.args.place (omega (arith, c.in_err-node.ensures.lookup)))

pub returns-in_err-get : goal.returns-in_err-get
returns-in_err-get c =
    let found = c.in_ok-node.ensures.lookup in
    c.from_residual-in_err-get.ensures
    ∙ look_short c.args.nodes.now c.args.place c.in_ok-node.node.now found.3.0 found.1
    (omega (arith, c.in_err-get.ensures.lookup.3, c.deref.ensures.len))

pub returns : goal.returns
returns c =
    let found = c.in_ok-node.ensures.lookup in
    c.in_ok-get.ensures.lookup.3.1 None ∙ ap (λ cs. get_or cs (c.args.place % 64) None) c.deref.ensures.value
    ∙ sym (look_node c.args.nodes.now c.args.place c.in_ok-node.node.now found.3.0 found.1)
