use Rattle.std.proofs.Common.{◌∙◌, refl, subst, take}
use Rattle.sha1.specs.Sha1.{Holds}
use Rattle.dn_model.specs.Files.{bytes}
use Rattle.file_looks.proofs.Pieces.{piece_more}
use Rattle.file_looks.proofs.reading.digest_of.Goals as goal

pub loop-at-preserved : goal.loop-at-preserved
loop-at-preserved g c = λ d volume.
    let front = take c.loop-at.at (bytes d c.args.ino) in
    subst (Holds c.update.new.self)
    (piece_more (bytes d c.args.ino) front c.deref.result.now c.loop-at.at refl (c.deref.ensures.value ∙ c.in_ok-piece.ensures d volume))
    (c.update.ensures front (c.loop-at.invariant d volume))
