use Rattle.std.proofs.Common.{◌∙◌, refl, sym, subst}
use Rattle.std.proofs.lemmas.Bool.{false≢true}
use Rattle.inode_log.specs.Prepare.{IsFull}
use Rattle.inode_log.proofs.Preparing.{linked, had_room, line_at}
use Rattle.inode_log.proofs.prepare.make_room.Goals as goal

pub returns-then-is_full-clause-links : goal.returns-then-is_full-clause-links
returns-then-is_full-clause-links g c slots old new s0 m is lt so_far =
    linked c.args.g.now c.args.ino slots c.args.fresh.now old new s0 is c.requires.accepted c.requires.ino c.args.who (g.D.Pm.state c.args.device.now)
    (g.D.Pm.state c.link.new.device)
    m c.args.tail c.args.used _ lt (c.if-is_full.ensures.0 refl) refl c.requires.size so_far c.link.ensures.first c.link.ensures.later

pub returns-else-is_full-clause-links : goal.returns-else-is_full-clause-links
returns-else-is_full-clause-links g c slots old new s0 m is lt so_far =
    let line = line_at new.pages m (λ full. false≢true (c.if-is_full.ensures.1 (subst IsFull (sym so_far.tail_is) full))) in
    had_room c.args.g.now c.args.ino slots c.args.fresh.now old new s0 is c.requires.accepted c.requires.ino c.args.who
    (g.D.Pm.state c.args.device.now) (g.D.Pm.state c.args.device.now)
    m c.args.tail c.args.used c.args.tail line.0 (so_far.tail_is ∙ line.1) so_far
