use Rattle.std.proofs.Common.{sym, subst, ◌∙◌, arith}
use Rattle.file_content.specs.Content.{AreBlocksIn}
use Rattle.file_content.proofs.Blocks.{blocks_in-empty, blocks_in-put}
use Rattle.image_tests.proofs.content.small_map.Goals as goal

pub returns : goal.returns
returns c =
    blocks_in-put c.args.g.now c.reserve.new.self c.set.new.self 0 _ c.set.ensures (omega (arith, c.requires))
    (subst (AreBlocksIn c.args.g.now) (sym (c.reserve.ensures.map ∙ c.new-map.ensures)) (blocks_in-empty c.args.g.now))
