use Rattle.std.proofs.Common.{◌≡◌, ℕ, ◌<◌, length, sym, subst, arith}
use Rattle.pm_device.specs.Settled.{IsSettled, LeavesOnly}
use Rattle.pm_device.specs.Commit.{LeavesOneWord}
use Rattle.pm_device.proofs.OldOr.{one_word_left}
use Rattle.inode_table.proofs.Table.{line_inside}
use Rattle.inode_table.proofs.store_field.Goals as goal

pub store_words-requires-clause-inside : goal.store_words-requires-clause-inside
store_words-requires-clause-inside g c =
    let line = line_inside c.args.g.now c.args.ino c.args.field _ c.inode_word.result c.requires.accepted c.requires.size c.requires.ino
    (omega (arith, c.requires.field)) c.inode_word.ensures in
    omega (arith, line, c.inode_word.ensures)

pub returns-clause-any_moment : goal.returns-clause-any_moment
returns-clause-any_moment g c =
    let s = g.D.Pm.state c.args.device.now in let t = g.D.Pm.state c.store_words.new.device in
    let line = line_inside c.args.g.now c.args.ino c.args.field _ c.inode_word.result c.requires.accepted c.requires.size
    c.requires.ino (omega (arith, c.requires.field)) c.inode_word.ensures in
    subst (λ (at : ℕ). IsSettled s at → LeavesOnly s t (LeavesOneWord at c.args.value s)) c.inode_word.ensures
    (one_word_left c.inode_word.result c.args.value s t c.store_words.ensures.leaves (omega (arith, line)))
