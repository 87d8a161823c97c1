use Rattle.std.proofs.Common.{length, refl, sym, ap, subst}
use Rattle.dn_volume.specs.Agrees.{Agrees}
use Rattle.dn_volume.specs.Sound.{Sound}
use Rattle.dn_core.specs.declared.event.Event.TheVariants.{Daemon}
use Rattle.dn_core.specs.Steps.{Steps}
use Rattle.dn_shared.specs.Sites.{IsShared, told_of}
use Rattle.dn_shared.proofs.HandedIn.{agrees_kept}
use Rattle.dn_shared.proofs.Turned.{again, holds_then, longer, ready, turned}
use Rattle.dn_shared.proofs.shared.Shared.daemon_turn.Goals as goal

pub step-outcome-requires : goal.step-outcome-requires
step-outcome-requires g c = record {
  agrees = subst (λ v. Agrees g.D.Pm.state v) (sym c.take_copies.ensures)
      (agrees_kept g.D.Pm.state c.take_turn-site.result.volume c.take_copies.new.v.kept
      (holds_then g.D.Pm.state g.F.Fingerprint.print _ _ c.args.pass.now c.take_turn-site.new.pass c.take_turn-site.result c.requires.own
      c.take_turn-site.ensures).agrees);
}

pub pass_turn-requires-clause-inside : goal.pass_turn-requires-clause-inside
pass_turn-requires-clause-inside g c = let is = c.count_event-events.ensures in
    longer g.D.Pm.state g.F.Fingerprint.print _ _ c.args.pass.now c.take_turn-site.new.pass c.take_turn-site.result c.requires.own
    c.take_turn-site.ensures c.take_copies.new.v.kept c.count_event-events.new.self c.step-outcome.new.v (ap (λ s. s.volume) is)
    (ap (λ s. s.gone.items) is) (ap (λ s. s.opening.items) is) c.step-outcome.ensures.agrees
    (λ b s. c.step-outcome.ensures.sound b (subst (λ v. Sound g.D.Pm.state g.F.Fingerprint.print b v) (sym c.take_copies.ensures) s))
    Daemon c.step-outcome.result tt
    (subst (λ v. Steps g.D.Pm.state g.F.Fingerprint.print Daemon v c.step-outcome.new.v c.step-outcome.result) c.take_copies.ensures
    c.step-outcome.ensures.event) _ (ap length c.trace-from.ensures)

pub pass_turn-requires-clause-ready : goal.pass_turn-requires-clause-ready
pass_turn-requires-clause-ready g c = let is = c.count_event-events.ensures in
    ready g.D.Pm.state g.F.Fingerprint.print _ _ c.args.pass.now c.take_turn-site.new.pass c.take_turn-site.result c.requires.own
    c.take_turn-site.ensures c.take_copies.new.v.kept c.count_event-events.new.self c.step-outcome.new.v (ap (λ s. s.volume) is)
    (ap (λ s. s.gone.items) is) (ap (λ s. s.opening.items) is) c.step-outcome.ensures.agrees
    (λ b s. c.step-outcome.ensures.sound b (subst (λ v. Sound g.D.Pm.state g.F.Fingerprint.print b v) (sym c.take_copies.ensures) s))
    Daemon c.step-outcome.result tt
    (subst (λ v. Steps g.D.Pm.state g.F.Fingerprint.print Daemon v c.step-outcome.new.v c.step-outcome.result) c.take_copies.ensures
    c.step-outcome.ensures.event) _ _ (ap length c.trace-from.ensures) c.args.self.now.counted

pub returns-clause-tells : goal.returns-clause-tells
returns-clause-tells g c = let is = c.count_event-events.ensures in
    turned g.D.Pm.state g.F.Fingerprint.print _ _ c.args.pass.now c.take_turn-site.new.pass c.take_turn-site.result c.requires.own
    c.take_turn-site.ensures c.take_copies.new.v.kept c.count_event-events.new.self c.step-outcome.new.v (ap (λ s. s.volume) is)
    (ap (λ s. s.gone.items) is) (ap (λ s. s.opening.items) is) c.step-outcome.ensures.agrees
    (λ b s. c.step-outcome.ensures.sound b (subst (λ v. Sound g.D.Pm.state g.F.Fingerprint.print b v) (sym c.take_copies.ensures) s))
    Daemon c.step-outcome.result tt
    (subst (λ v. Steps g.D.Pm.state g.F.Fingerprint.print Daemon v c.step-outcome.new.v c.step-outcome.result) c.take_copies.ensures
    c.step-outcome.ensures.event) c.pass_turn.new.pass c.pass_turn.ensures _ refl c.is_deserted-deserted.ensures

pub returns-clause-again : goal.returns-clause-again
returns-clause-again g c = again (λ x. told_of x) (λ base x. IsShared g.D.Pm.state g.F.Fingerprint.print base x) c.args.pass.now
    c.take_turn-site.new.pass c.pass_turn.new.pass c.take_turn-site.result c.count_event-events.new.self c.take_turn-site.ensures
    c.pass_turn.ensures _ _ c.requires.own
