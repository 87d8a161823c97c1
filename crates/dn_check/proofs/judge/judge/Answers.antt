use Rattle.dn_check.proofs.Judging.{numbers_are}
use Rattle.dn_check.proofs.judge.judge.Goals as goal

pub returns-in-Ok : goal.returns-in-Ok
returns-in-Ok c = λ words p.
    numbers_are words c.args.g.now c.args.read c.requires.whole p c.in-Ok.free (c.in-Ok.ensures.free words p) c.numbers_of.result c.numbers_of.ensures
