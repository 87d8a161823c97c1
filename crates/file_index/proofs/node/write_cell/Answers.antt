use Rattle.std.proofs.Common.{refl, arith}
use Rattle.file_index.proofs.Nodes.{written_by}
use Rattle.file_index.proofs.node.write_cell.Goals as goal

pub returns : goal.returns
returns c =
    written_by c.args.nodes.now.items c.args.place c.args.cell c.index_mut.result.now _
    (omega (arith, c.requires.in_root, c.args.nodes.now.ok.0)) c.index_mut.ensures.value refl
