use Rattle.std.proofs.Common.{arith}
use Rattle.delete_pointer.proofs.Places.{pointer_word-below_data}
use Rattle.delete_pointer.proofs.entry_of.Goals as goal

pub load-requires : goal.load-requires
load-requires g c =
    let below = pointer_word-below_data c.args.g.now c.args.page c.requires.accepted c.requires.page in
    omega (arith, c.pointer_word.ensures, c.requires.size, c.requires.accepted.room, below)
