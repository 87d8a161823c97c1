use Rattle.dn_check.proofs.Reading.{link_halts, are_linked}
use Rattle.dn_check.proofs.read.ask_links.Goals as goal

pub returns-in-Some-clause-halt : goal.returns-in-Some-clause-halt
returns-in-Some-clause-halt g c =
    link_halts c.args.g.now (g.D.Pm.state c.args.device.now).now c.requires.inodes c.args.logs.now c.requires.read c.in-Some.ino
    (rw c.in-Some.is at c.in_ok-ino.ensures.some)

pub returns-in-None-clause-linked : goal.returns-in-None-clause-linked
returns-in-None-clause-linked g c =
    are_linked c.args.g.now (g.D.Pm.state c.args.device.now).now c.requires.inodes c.args.logs.now c.requires.read
    (rw c.in-None.is at c.in_ok-ino.ensures.none)
