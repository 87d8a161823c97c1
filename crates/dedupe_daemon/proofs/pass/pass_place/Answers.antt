use Rattle.std.proofs.Common.{refl, subst, sym, ap, ◌∙◌}
use Rattle.dn_volume.specs.Agrees.{agrees_with}
use Rattle.dn_volume.specs.Works.{DaemonLowers, sharing_events}
use Rattle.dn_volume.proofs.Tables.{running_disk}
use Rattle.dedupe_daemon.specs.Daemon.{after_place}
use Rattle.dedupe_daemon.proofs.Passed.{begun_work, pass_lowers}
use Rattle.dedupe_daemon.proofs.PassEnds.{few_places, units_for_place, changes_for_place, pass_moves}
use Rattle.dedupe_daemon.proofs.pass.pass_place.Goals as goal

pub note_pass-requires-clause-units : goal.note_pass-requires-clause-units
note_pass-requires-clause-units g c = units_for_place g.D.Pm.state c.args.v.now c.requires.agrees c.requires.running c.args.sharing
    c.requires.looking.begun c.requires.looking

pub note_pass-requires-clause-changes : goal.note_pass-requires-clause-changes
note_pass-requires-clause-changes g c = changes_for_place g.D.Pm.state c.args.v.now c.requires.agrees c.requires.running c.args.sharing
    c.requires.looking.begun c.requires.looking

pub events_left-requires-clause-few : goal.events_left-requires-clause-few
events_left-requires-clause-few g c = few_places g.D.Pm.state c.args.v.now c.requires.agrees c.requires.running c.args.sharing
    c.requires.looking.begun

pub returns-clause-agrees : goal.returns-clause-agrees
returns-clause-agrees g c =
    let found = running_disk g.D.Pm.state c.args.v.now c.requires.running c.requires.agrees in
    let moves = pass_moves g.D.Pm.state c.args.v.now (record {
      device = c.args.v.now.device;
      print = c.args.v.now.print;
      kept = c.args.v.now.kept;
      parts =
          c.note_pass.new.parts;
    })
    c.args.sharing c.requires.looking c.requires.passed c.note_pass.ensures (g.met.D.Pm.agree c.args.v.now.device) g.F.Fingerprint.print found.0
    found.1 in
    agrees_with moves.after moves.moves.volume

pub returns-clause-event : goal.returns-clause-event
returns-clause-event g c = λ d v. (
  pass_moves g.D.Pm.state c.args.v.now (record { device = c.args.v.now.device; print = c.args.v.now.print; kept = c.args.v.now.kept; parts = c.note_pass.new.parts })
      c.args.sharing c.requires.looking c.requires.passed c.note_pass.ensures (g.met.D.Pm.agree c.args.v.now.device) g.F.Fingerprint.print d v,
  begun_work d c.args.v.now.parts c.args.sharing c.requires.looking.begun,
  subst (DaemonLowers c.args.v.now.parts c.note_pass.new.parts)
      (sym (c.events_left.ensures (after_place c.args.sharing) refl refl refl ∙ ap sharing_events (sym c.note_pass.ensures.passed)))
      (pass_lowers c.args.v.now.parts c.args.sharing c.requires.looking c.note_pass.new.parts c.note_pass.ensures),
)
