use Rattle.std.proofs.Common.{arith}
use Rattle.inode_table.proofs.Cleared.{leaves_cleared}
use Rattle.inode_table.proofs.Table.{line_inside}
use Rattle.inode_table.proofs.clear_inode.Goals as goal

pub store_words-requires-clause-inside : goal.store_words-requires-clause-inside
store_words-requires-clause-inside g c =
    let line = line_inside c.args.g.now c.args.ino 1 _ c.inode_word.result c.requires.accepted c.requires.size c.requires.ino (omega arith)
    c.inode_word.ensures in
    omega (arith, line, c.inode_word.ensures)

pub returns-clause-any_moment : goal.returns-clause-any_moment
returns-clause-any_moment g c =
    let line = line_inside c.args.g.now c.args.ino 1 _ c.inode_word.result c.requires.accepted c.requires.size
    c.requires.ino (omega arith) c.inode_word.ensures in
    leaves_cleared c.args.ino c.inode_word.result (g.D.Pm.state c.args.device.now) (g.D.Pm.state c.store_words.new.device)
    c.inode_word.ensures (omega (arith, line, c.inode_word.ensures)) c.store_words.ensures.leaves
