use Rattle.std.proofs.Common.{List, subst, sym, ◌∙◌}
use Rattle.std.proofs.lemmas.Bool.{false≢true}
use Rattle.dn_volume.specs.declared.volume.InodeState.{InodeState}
use Rattle.dn_volume.specs.Agrees.{agrees_with}
use Rattle.dn_volume.proofs.Tables.{running_disk}
use Rattle.reclaim.proofs.Machine.{untouched}
use Rattle.dedupe_daemon.specs.Fronts.{IsFreshWork}
use Rattle.dedupe_daemon.proofs.Stale.{none_front, stale_moves, stale_work, stale_lowers}
use Rattle.dedupe_daemon.proofs.begin.begin_item.Goals as goal

pub returns-in_default-clause-event : goal.returns-in_default-clause-event
returns-in_default-clause-event g c = λ d v. (
  untouched g.D.Pm.state c.args.v.now d v,
  record { none_begun = c.requires.none_begun; none_waits = none_front c.args.v.now.parts.queue.items (sym c.front.ensures ∙ c.in_default.is) },
)

pub begin_fresh-requires-clause-fresh : goal.begin_fresh-requires-clause-fresh
begin_fresh-requires-clause-fresh g c = subst (λ (ns : List InodeState). IsFreshWork ns c.in-Some.work) c.deref.ensures.value
    (c.is_fresh.ensures.0 c.if-is_fresh.true)

pub returns-clause-agrees : goal.returns-clause-agrees
returns-clause-agrees g c =
    let found = running_disk g.D.Pm.state c.args.v.now c.requires.running c.requires.agrees in
    let moves = stale_moves g.D.Pm.state c.args.v.now (record {
      device = c.args.v.now.device;
      print = c.args.v.now.print;
      kept = c.args.v.now.kept;
      parts =
          c.note_stale.new.parts;
    }) c.in-Some.work c.requires.none_begun
    (λ fresh. false≢true (sym c.if-is_fresh.false ∙ c.is_fresh.ensures.1 (subst (λ (ns : List InodeState). IsFreshWork ns c.in-Some.work)
    (sym c.deref.ensures.value) fresh))) c.note_stale.ensures (g.met.D.Pm.agree c.args.v.now.device) g.F.Fingerprint.print found.0 found.1 in
    agrees_with moves.after moves.moves.volume

pub returns-clause-event : goal.returns-clause-event
returns-clause-event g c = λ d v.
    let stale : IsFreshWork c.args.v.now.parts.inodes.items c.in-Some.work → ⊥ = λ fresh. false≢true (sym c.if-is_fresh.false ∙ c.is_fresh.ensures.1
    (subst (λ (ns : List InodeState). IsFreshWork ns c.in-Some.work) (sym c.deref.ensures.value) fresh)) in
    let agree = g.met.D.Pm.agree c.args.v.now.device in (
      stale_moves g.D.Pm.state c.args.v.now (record { device = c.args.v.now.device; print = c.args.v.now.print; kept = c.args.v.now.kept; parts = c.note_stale.new.parts })
          c.in-Some.work c.requires.none_begun stale c.note_stale.ensures agree g.F.Fingerprint.print d v,
      stale_work d c.args.v.now.parts c.note_stale.new.parts (g.D.Pm.state c.args.v.now.device) v c.in-Some.work c.requires.none_begun stale
          c.note_stale.ensures agree,
      stale_lowers d c.args.v.now.parts c.note_stale.new.parts (g.D.Pm.state c.args.v.now.device) v c.in-Some.work c.requires.none_begun stale
          c.note_stale.ensures agree,
    )
