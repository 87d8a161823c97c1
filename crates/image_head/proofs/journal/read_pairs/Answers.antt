use Rattle.name_journal.proofs.Paired.{four_pairs}
use Rattle.image_head.proofs.journal.read_pairs.Goals as goal

pub returns : goal.returns
returns c =
    four_pairs c.args.image.now c.pair.result c.pair-2.result c.pair-3.result c.pair-4.result
    c.pair.ensures.at c.pair.ensures.value c.pair-2.ensures.at c.pair-2.ensures.value c.pair-3.ensures.at c.pair-3.ensures.value c.pair-4.ensures.at
    c.pair-4.ensures.value
