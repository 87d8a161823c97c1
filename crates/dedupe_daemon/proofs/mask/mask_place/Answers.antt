use Rattle.std.proofs.Common.{refl, subst, sym, ap, ◌∙◌}
use Rattle.dn_volume.specs.Agrees.{agrees_with, is_stopped}
use Rattle.dn_volume.specs.Works.{DaemonLowers, sharing_events}
use Rattle.dn_volume.proofs.Tables.{running_disk}
use Rattle.count_events.proofs.Ends.{err_is}
use Rattle.dedupe_daemon.specs.Daemon.{after_place}
use Rattle.dedupe_daemon.proofs.Passed.{begun_work, pass_lowers}
use Rattle.dedupe_daemon.proofs.PassEnds.{few_places, units_for_place, changes_for_place, spare_for_place}
use Rattle.dedupe_daemon.proofs.PlaceNext.{place_small}
use Rattle.dedupe_daemon.proofs.MaskEnds.{mask_slot, mask_is, mask_moves, mask_breaks}
use Rattle.dedupe_daemon.proofs.mask.mask_place.Goals as goal

pub mask_of-requires-clause-small : goal.mask_of-requires-clause-small
mask_of-requires-clause-small g c = (place_small g.D.Pm.state c.args.v.now c.requires.agrees c.requires.running c.args.sharing c.requires.looking).0

pub mask_of-requires-clause-inside : goal.mask_of-requires-clause-inside
mask_of-requires-clause-inside g c = (place_small g.D.Pm.state c.args.v.now c.requires.agrees c.requires.running c.args.sharing c.requires.looking).3

pub with_bit-mask-requires : goal.with_bit-mask-requires
with_bit-mask-requires g c = (place_small g.D.Pm.state c.args.v.now c.requires.agrees c.requires.running c.args.sharing c.requires.looking).1

pub set_mask-requires-clause-slot : goal.set_mask-requires-clause-slot
set_mask-requires-clause-slot g c = mask_slot g.D.Pm.state c.args.v.now c.args.sharing c.requires.looking c.requires.agrees c.requires.running

pub set_mask-requires-clause-room : goal.set_mask-requires-clause-room
set_mask-requires-clause-room g c = spare_for_place g.D.Pm.state c.args.v.now c.requires.agrees c.requires.running c.args.sharing
    c.requires.looking.begun
    c.requires.looking

pub note_pass-requires-clause-units : goal.note_pass-requires-clause-units
note_pass-requires-clause-units g c = units_for_place g.D.Pm.state c.args.v.now c.requires.agrees c.requires.running c.args.sharing
    c.requires.looking.begun
    c.requires.looking

pub note_pass-requires-clause-changes : goal.note_pass-requires-clause-changes
note_pass-requires-clause-changes g c = changes_for_place g.D.Pm.state c.args.v.now c.requires.agrees c.requires.running c.args.sharing
    c.requires.looking.begun
    c.requires.looking

pub events_left-requires-clause-few : goal.events_left-requires-clause-few
events_left-requires-clause-few g c = few_places g.D.Pm.state c.args.v.now c.requires.agrees c.requires.running c.args.sharing
    c.requires.looking.begun

pub returns-in-Ok-clause-agrees : goal.returns-in-Ok-clause-agrees
returns-in-Ok-clause-agrees g c =
    let found = running_disk g.D.Pm.state c.args.v.now c.requires.running c.requires.agrees in
    let moves = mask_moves g.D.Pm.state c.args.v.now c.args.sharing c.requires.looking found.0 found.1 g.F.Fingerprint.print c.requires.other.0
    (c.requires.other.1 found.0 found.1) (record { device = c.set_mask.new.device; print = c.args.v.now.print; kept = c.args.v.now.kept; parts = c.note_pass.new.parts })
    c.with_bit-mask.result (c.with_bit-mask.ensures ∙ mask_is g.D.Pm.state c.args.v.now c.args.sharing c.requires.looking found.0 found.1
    g.F.Fingerprint.print c.requires.other.0
    (c.requires.other.1 found.0 found.1) c.mask_of.result c.mask_of.ensures)
    (record {
      any_moment = c.set_mask.ensures.committed;
      only = c.set_mask.ensures.only;
      others = c.set_mask.ensures.others;
      spare = c.set_mask.ensures.spare;
      faults = c.set_mask.ensures.faults;
    }) (g.met.D.Pm.agree c.set_mask.new.device) c.note_pass.ensures c.in-Ok.ensures.done c.in-Ok.ensures.settles in
    agrees_with moves.after moves.moves.volume

pub returns-in-Ok-clause-event : goal.returns-in-Ok-clause-event
returns-in-Ok-clause-event g c = λ d v. (
  mask_moves g.D.Pm.state c.args.v.now c.args.sharing c.requires.looking d v g.F.Fingerprint.print c.requires.other.0
      (c.requires.other.1 d v) (record { device = c.set_mask.new.device; print = c.args.v.now.print; kept = c.args.v.now.kept; parts = c.note_pass.new.parts })
      c.with_bit-mask.result (c.with_bit-mask.ensures ∙ mask_is g.D.Pm.state c.args.v.now c.args.sharing c.requires.looking d v g.F.Fingerprint.print
      c.requires.other.0
      (c.requires.other.1 d v) c.mask_of.result c.mask_of.ensures)
      (record {
        any_moment = c.set_mask.ensures.committed;
        only = c.set_mask.ensures.only;
        others = c.set_mask.ensures.others;
        spare = c.set_mask.ensures.spare;
        faults = c.set_mask.ensures.faults;
      }) (g.met.D.Pm.agree c.set_mask.new.device) c.note_pass.ensures c.in-Ok.ensures.done c.in-Ok.ensures.settles,
  begun_work d c.args.v.now.parts c.args.sharing c.requires.looking.begun,
  subst (DaemonLowers c.args.v.now.parts c.note_pass.new.parts)
      (sym (c.events_left.ensures (after_place c.args.sharing) refl refl refl ∙ ap sharing_events (sym c.note_pass.ensures.passed)))
      (pass_lowers c.args.v.now.parts c.args.sharing c.requires.looking c.note_pass.new.parts c.note_pass.ensures),
)

pub returns-in-Err-clause-agrees : goal.returns-in-Err-clause-agrees
returns-in-Err-clause-agrees g c =
    let found = running_disk g.D.Pm.state c.args.v.now c.requires.running c.requires.agrees in
    is_stopped (mask_breaks g.D.Pm.state c.args.v.now c.args.sharing c.requires.looking found.0 found.1 g.F.Fingerprint.print c.requires.other.0
    (c.requires.other.1 found.0 found.1) (record { device = c.set_mask.new.device; print = c.args.v.now.print; kept = c.args.v.now.kept; parts = c.stop.new.parts })
    c.with_bit-mask.result (c.with_bit-mask.ensures ∙ mask_is g.D.Pm.state c.args.v.now c.args.sharing c.requires.looking found.0 found.1
    g.F.Fingerprint.print c.requires.other.0
    (c.requires.other.1 found.0 found.1) c.mask_of.result c.mask_of.ensures)
    (record {
      any_moment = c.set_mask.ensures.committed;
      only = c.set_mask.ensures.only;
      others = c.set_mask.ensures.others;
      spare = c.set_mask.ensures.spare;
      faults = c.set_mask.ensures.faults;
    }) (g.met.D.Pm.agree c.set_mask.new.device) c.stop.ensures (c.set_mask.ensures.failed (err_is c.set_mask.result _ c.in-Err.is))).stopped

pub returns-in-Err-clause-event : goal.returns-in-Err-clause-event
returns-in-Err-clause-event g c = λ d v. (
  mask_breaks g.D.Pm.state c.args.v.now c.args.sharing c.requires.looking d v g.F.Fingerprint.print c.requires.other.0
      (c.requires.other.1 d v) (record { device = c.set_mask.new.device; print = c.args.v.now.print; kept = c.args.v.now.kept; parts = c.stop.new.parts })
      c.with_bit-mask.result (c.with_bit-mask.ensures ∙ mask_is g.D.Pm.state c.args.v.now c.args.sharing c.requires.looking d v g.F.Fingerprint.print
      c.requires.other.0
      (c.requires.other.1 d v) c.mask_of.result c.mask_of.ensures)
      (record {
        any_moment = c.set_mask.ensures.committed;
        only = c.set_mask.ensures.only;
        others = c.set_mask.ensures.others;
        spare = c.set_mask.ensures.spare;
        faults = c.set_mask.ensures.faults;
      }) (g.met.D.Pm.agree c.set_mask.new.device) c.stop.ensures (c.set_mask.ensures.failed (err_is c.set_mask.result _ c.in-Err.is)),
  begun_work d c.args.v.now.parts c.args.sharing c.requires.looking.begun,
)
