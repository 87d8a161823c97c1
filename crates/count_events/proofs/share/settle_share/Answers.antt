use Rattle.std.proofs.Common.{ℕ, sym, subst}
use Rattle.dn_volume.specs.Works.{DaemonLowers}
use Rattle.count_events.proofs.Ends.{err_is}
use Rattle.count_events.proofs.ShareEnds.{
  row_may_settle,
  share_units_there,
  share_trace_there,
  share_units_owed,
  share_change_owed,
  share_some,
  share_fails,
  share_moves,
  share_agrees,
  share_work,
  share_lowers,
  share_stops,
}
use Rattle.dn_volume.proofs.Tables.{running_disk}
use Rattle.count_events.proofs.share.settle_share.Goals as goal

pub settle_row_up-requires-clause-row : goal.settle_row_up-requires-clause-row
settle_row_up-requires-clause-row g c = row_may_settle g.D.Pm.state c.args.v.now c.slot_to_settle-slot.result c.slot_to_settle-slot.ensures
    c.requires.agrees c.requires.running

pub settle_row_up-requires-clause-room : goal.settle_row_up-requires-clause-room
settle_row_up-requires-clause-room g c = share_units_there g.D.Pm.state c.args.v.now c.slot_to_settle-slot.result c.slot_to_settle-slot.ensures
    c.requires.agrees c.requires.running

pub note_share-requires-clause-some : goal.note_share-requires-clause-some
note_share-requires-clause-some g c = share_some g.D.Pm.state c.args.v.now c.slot_to_settle-slot.result c.slot_to_settle-slot.ensures
    c.requires.agrees c.requires.running

pub note_share-requires-clause-trace : goal.note_share-requires-clause-trace
note_share-requires-clause-trace g c = share_trace_there g.D.Pm.state c.args.v.now c.slot_to_settle-slot.result c.slot_to_settle-slot.ensures
    c.requires.agrees c.requires.running

pub note_share-requires-clause-units : goal.note_share-requires-clause-units
note_share-requires-clause-units g c = share_units_owed g.D.Pm.state c.args.v.now c.slot_to_settle-slot.result c.slot_to_settle-slot.ensures
    c.requires.agrees c.requires.running

pub note_share-requires-clause-changes : goal.note_share-requires-clause-changes
note_share-requires-clause-changes g c = share_change_owed g.D.Pm.state c.args.v.now c.slot_to_settle-slot.result c.slot_to_settle-slot.ensures
    c.requires.agrees c.requires.running

pub returns-in-Ok-clause-agrees : goal.returns-in-Ok-clause-agrees
returns-in-Ok-clause-agrees g c =
    share_agrees g.D.Pm.state c.args.v.now c.slot_to_settle-slot.result c.slot_to_settle-slot.ensures _ c.settle_row_up.ensures.only
    (g.met.D.Pm.agree c.settle_row_up.new.device) c.settle_row_up.ensures.images c.settle_row_up.ensures.faults
    c.in-Ok.word c.note_share.ensures c.in-Ok.ensures.settled c.in-Ok.ensures.settles c.settle_row_up.ensures.others c.in-Ok.ensures.word
    c.settle_row_up.ensures.spare g.F.Fingerprint.print c.requires.agrees c.requires.running

pub returns-in-Ok-clause-event : goal.returns-in-Ok-clause-event
returns-in-Ok-clause-event g c = λ d v. (
  share_moves g.D.Pm.state c.args.v.now c.slot_to_settle-slot.result c.slot_to_settle-slot.ensures _ c.settle_row_up.ensures.only
      (g.met.D.Pm.agree c.settle_row_up.new.device) c.settle_row_up.ensures.images c.settle_row_up.ensures.faults
      c.in-Ok.word c.note_share.ensures c.in-Ok.ensures.settled c.in-Ok.ensures.settles c.settle_row_up.ensures.others c.in-Ok.ensures.word
      c.settle_row_up.ensures.spare g.F.Fingerprint.print d v,
  share_work d c.args.v.now.parts c.slot_to_settle-slot.result c.slot_to_settle-slot.ensures,
  subst (λ (n : ℕ). DaemonLowers c.args.v.now.parts c.note_share.new.parts n) (sym c.events_left.ensures)
      (share_lowers g.D.Pm.state c.args.v.now c.slot_to_settle-slot.result c.slot_to_settle-slot.ensures c.note_share.new.parts c.in-Ok.word
      c.note_share.ensures c.requires.agrees c.requires.running),
)

pub returns-in-Err-clause-event : goal.returns-in-Err-clause-event
returns-in-Err-clause-event g c = λ d v. (
  share_fails g.D.Pm.state c.args.v.now c.slot_to_settle-slot.result c.slot_to_settle-slot.ensures _ c.settle_row_up.ensures.only
      (g.met.D.Pm.agree c.settle_row_up.new.device)
      c.settle_row_up.ensures.images c.settle_row_up.ensures.faults
      c.stop.ensures g.F.Fingerprint.print d v (c.settle_row_up.ensures.failed (err_is c.settle_row_up.result _ c.in-Err.is)),
  share_work d c.args.v.now.parts c.slot_to_settle-slot.result c.slot_to_settle-slot.ensures,
)

pub returns-in-Err-clause-agrees : goal.returns-in-Err-clause-agrees
returns-in-Err-clause-agrees g c =
    let found = running_disk g.D.Pm.state c.args.v.now c.requires.running c.requires.agrees in
    share_stops g.D.Pm.state c.args.v.now c.slot_to_settle-slot.result c.slot_to_settle-slot.ensures _ c.settle_row_up.ensures.only
    (g.met.D.Pm.agree c.settle_row_up.new.device)
    c.settle_row_up.ensures.images c.settle_row_up.ensures.faults c.stop.ensures g.F.Fingerprint.print found.0 found.1
