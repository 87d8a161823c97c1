use Rattle.std.proofs.Common.{arith}
use Rattle.delete_pointer.proofs.Places.{pointer_word-below_data}
use Rattle.fact_table.proofs.load.is_wrong.Goals as goal

pub load-pointer-requires : goal.load-pointer-requires
load-pointer-requires g c =
    let low = pointer_word-below_data c.args.g.now c.args.page c.requires.accepted c.requires.page in
    omega (arith, c.pointer_word.ensures, c.requires.size, c.requires.accepted.room, low)
