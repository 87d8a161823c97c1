use Rattle.std.proofs.Common.{arith}
use Rattle.fact_slot.proofs.Places.{slot_word-below_data}
use Rattle.fact_slot.proofs.slot.load_field.Goals as goal

pub load-requires : goal.load-requires
load-requires g c =
    let below = slot_word-below_data c.args.g.now c.args.slot c.requires.accepted c.requires.slot in
    omega (arith, c.slot_word.ensures, c.requires.size, c.requires.accepted.room, c.requires.field, below)
