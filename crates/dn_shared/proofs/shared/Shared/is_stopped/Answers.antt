use Rattle.count_board.proofs.Giving.{gives_same}
use Rattle.dn_shared.specs.Sites.{IsShared, told_of}
use Rattle.dn_shared.proofs.Turned.{again}
use Rattle.dn_shared.proofs.Calling.{looks}
use Rattle.dn_shared.proofs.shared.Shared.is_stopped.Goals as goal

pub give_turn-requires-clause-ready : goal.give_turn-requires-clause-ready
give_turn-requires-clause-ready g c = gives_same (λ x. told_of x) (λ base x. IsShared g.D.Pm.state g.F.Fingerprint.print base x) _ _ _ c.args.pass.now
    c.take_turn-site.new.pass c.take_turn-site.result c.take_turn-site.ensures c.requires.own

pub returns-clause-keeps : goal.returns-clause-keeps
returns-clause-keeps g c = (looks g.D.Pm.state g.F.Fingerprint.print c.args.pass.now c.take_turn-site.new.pass c.give_turn.new.pass
    c.take_turn-site.result c.take_turn-site.ensures c.give_turn.ensures c.stopped-stopped.result c.stopped-stopped.ensures).0

pub returns-clause-says : goal.returns-clause-says
returns-clause-says g c = (looks g.D.Pm.state g.F.Fingerprint.print c.args.pass.now c.take_turn-site.new.pass c.give_turn.new.pass
    c.take_turn-site.result c.take_turn-site.ensures c.give_turn.ensures c.stopped-stopped.result c.stopped-stopped.ensures).1

pub returns-clause-past : goal.returns-clause-past
returns-clause-past g c = (looks g.D.Pm.state g.F.Fingerprint.print c.args.pass.now c.take_turn-site.new.pass c.give_turn.new.pass
    c.take_turn-site.result c.take_turn-site.ensures c.give_turn.ensures c.stopped-stopped.result c.stopped-stopped.ensures).2

pub returns-clause-again : goal.returns-clause-again
returns-clause-again g c = again (λ x. told_of x) (λ base x. IsShared g.D.Pm.state g.F.Fingerprint.print base x) c.args.pass.now
    c.take_turn-site.new.pass c.give_turn.new.pass c.take_turn-site.result c.take_turn-site.result c.take_turn-site.ensures c.give_turn.ensures _ _
    c.requires.own
