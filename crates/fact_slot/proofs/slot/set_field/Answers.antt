use Rattle.std.proofs.Common.{arith}
use Rattle.fact_slot.proofs.Places.{slot_word-below_data}
use Rattle.fact_slot.proofs.slot.set_field.Goals as goal

pub set_word-requires-clause-inside : goal.set_word-requires-clause-inside
set_word-requires-clause-inside g c =
    let below = slot_word-below_data c.args.g.now c.args.slot c.requires.accepted c.requires.slot in
    omega (arith, c.slot_word.ensures, c.requires.size, c.requires.accepted.room, c.requires.field, below)
