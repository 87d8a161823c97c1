use Rattle.std.proofs.Common.{refl, ap, ◌-◌, set, true}
use Rattle.std.specs.Vec.{with_item}
use Rattle.dn_shared.specs.Sites.{IsShared, told_of}
use Rattle.dn_shared.proofs.Turned.{again}
use Rattle.dn_shared.proofs.Leaving.{may_leave, leaves}
use Rattle.dn_shared.proofs.shared.Shared.leave.Goals as goal

pub give_turn-requires-clause-ready : goal.give_turn-requires-clause-ready
give_turn-requires-clause-ready g c = may_leave g.D.Pm.state g.F.Fingerprint.print _ _ c.args.pass.now c.take_turn-site.new.pass
    c.take_turn-site.result
    (record c.take_turn-site.result { gone = with_item c.take_turn-site.result.gone (c.number.result - 1) true }) c.requires.own c.take_turn-site.ensures c.requires.client.0 c.requires.client.1 refl
    (ap (λ n. set c.take_turn-site.result.gone.items (n - 1) true) c.number.ensures) refl c.requires.none _

pub returns-clause-leaves : goal.returns-clause-leaves
returns-clause-leaves g c = leaves g.D.Pm.state g.F.Fingerprint.print _ _ c.args.pass.now c.take_turn-site.new.pass
    c.take_turn-site.result
    (record c.take_turn-site.result { gone = with_item c.take_turn-site.result.gone (c.number.result - 1) true }) c.requires.own c.take_turn-site.ensures c.requires.client.0 c.requires.client.1 refl
    (ap (λ n. set c.take_turn-site.result.gone.items (n - 1) true) c.number.ensures) refl c.requires.none c.give_turn.new.pass
    c.give_turn.ensures

pub returns-clause-again : goal.returns-clause-again
returns-clause-again g c = again (λ x. told_of x) (λ base x. IsShared g.D.Pm.state g.F.Fingerprint.print base x) c.args.pass.now
    c.take_turn-site.new.pass c.give_turn.new.pass c.take_turn-site.result
    (record c.take_turn-site.result { gone = with_item c.take_turn-site.result.gone (c.number.result - 1) true }) c.take_turn-site.ensures
    c.give_turn.ensures _ _ c.requires.own
