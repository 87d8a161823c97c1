use Rattle.std.proofs.Common.{◌∙◌}
use Rattle.dn_model.specs.Files.{bytes}
use Rattle.file_looks.proofs.Pieces.{piece_more}
use Rattle.file_looks.proofs.reading.read_whole.Goals as goal

pub loop-at-preserved : goal.loop-at-preserved
loop-at-preserved g c = λ d volume. c.in_ok-append.ensures.items
    ∙ piece_more (bytes d c.args.ino) c.loop-at.found.items c.in_ok-piece.piece.items c.loop-at.at (c.loop-at.invariant d volume)
    (c.in_ok-piece.ensures d volume)
