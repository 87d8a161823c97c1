use Rattle.std.proofs.Common.{arith}
use Rattle.inode_table.proofs.Table.{line_inside}
use Rattle.inode_table.proofs.read_field.Goals as goal

pub load-requires : goal.load-requires
load-requires g c =
    let line = line_inside c.args.g.now c.args.ino c.args.field _ c.inode_word.result c.requires.accepted c.requires.size c.requires.ino
    (omega (arith, c.requires.field)) c.inode_word.ensures in
    omega (arith, line)
