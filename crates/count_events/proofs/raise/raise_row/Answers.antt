use Rattle.dn_volume.proofs.Tables.{running_disk}
use Rattle.std.proofs.Common.{◌+◌, ◌≤◌, length, arith}
use Rattle.count_events.proofs.Ends.{err_is}
use Rattle.count_events.proofs.RaiseEnds.{
  row_may_raise,
  units_there,
  trace_there,
  units_owed,
  change_owed,
  flies_now,
  raise_fails,
  raise_stops,
  raise_moves,
  raise_agrees,
  raise_flies,
}
use Rattle.count_events.proofs.Flown.{one_more}
use Rattle.count_events.proofs.raise.raise_row.Goals as goal

pub raise_at-requires-clause-row : goal.raise_at-requires-clause-row
raise_at-requires-clause-row g c =
    let to = c.requires.raises in
    row_may_raise g.D.Pm.state c.args.v.now c.args.who c.row_to_raise-slot.result to (c.row_to_raise-slot.ensures to.flight to.flies)
    c.requires.agrees c.requires.running

pub raise_at-requires-clause-room : goal.raise_at-requires-clause-room
raise_at-requires-clause-room g c =
    let to = c.requires.raises in
    units_there g.D.Pm.state c.args.v.now c.args.who c.row_to_raise-slot.result to (c.row_to_raise-slot.ensures to.flight to.flies) c.requires.agrees
    c.requires.running

pub note_raise-requires-clause-trace : goal.note_raise-requires-clause-trace
note_raise-requires-clause-trace g c =
    let to = c.requires.raises in
    trace_there g.D.Pm.state c.args.v.now c.args.who c.row_to_raise-slot.result to (c.row_to_raise-slot.ensures to.flight to.flies) c.requires.agrees
    c.requires.running

pub note_raise-requires-clause-units : goal.note_raise-requires-clause-units
note_raise-requires-clause-units g c =
    let to = c.requires.raises in
    units_owed g.D.Pm.state c.args.v.now c.args.who c.row_to_raise-slot.result to (c.row_to_raise-slot.ensures to.flight to.flies) c.requires.agrees
    c.requires.running

pub note_raise-requires-clause-changes : goal.note_raise-requires-clause-changes
note_raise-requires-clause-changes g c =
    let to = c.requires.raises in
    change_owed g.D.Pm.state c.args.v.now c.args.who c.row_to_raise-slot.result to (c.row_to_raise-slot.ensures to.flight to.flies) c.requires.agrees
    c.requires.running

pub left_to_raise-requires : goal.left_to_raise-requires
left_to_raise-requires g c =
    let to = c.requires.raises in
    let more : to.flight.raised + 1 ≤ length to.flight.rows.items = omega (arith, to.some) in (
      one_more to.flight,
      (
        flies_now g.D.Pm.state c.args.v.now c.args.who c.row_to_raise-slot.result to
            (c.row_to_raise-slot.ensures to.flight to.flies) c.note_raise.new.parts c.in-Ok.word c.note_raise.ensures,
        more,
      ),
    )

pub returns-in-Ok-clause-agrees : goal.returns-in-Ok-clause-agrees
returns-in-Ok-clause-agrees g c =
    let to = c.requires.raises in
    raise_agrees g.D.Pm.state c.args.v.now c.args.who c.row_to_raise-slot.result to (c.row_to_raise-slot.ensures to.flight to.flies) _
    c.raise_at.ensures.only (g.met.D.Pm.agree c.raise_at.new.device) c.raise_at.ensures.images c.raise_at.ensures.faults
    c.in-Ok.word c.note_raise.ensures c.in-Ok.ensures.settled c.in-Ok.ensures.settles c.raise_at.ensures.others c.in-Ok.ensures.word
    c.raise_at.ensures.spare g.F.Fingerprint.print c.requires.agrees c.requires.running

pub returns-in-Ok-clause-event : goal.returns-in-Ok-clause-event
returns-in-Ok-clause-event g c = λ d f v flies.
    let to = c.requires.raises in
    let on = raise_flies g.D.Pm.state c.args.v.now c.args.who c.row_to_raise-slot.result to (c.row_to_raise-slot.ensures to.flight to.flies)
    c.note_raise.new.parts c.in-Ok.word c.left_to_raise.result c.note_raise.ensures c.left_to_raise.ensures d v f flies in (
      raise_moves g.D.Pm.state c.args.v.now c.args.who c.row_to_raise-slot.result to (c.row_to_raise-slot.ensures to.flight to.flies) _
          c.raise_at.ensures.only (g.met.D.Pm.agree c.raise_at.new.device) c.raise_at.ensures.images c.raise_at.ensures.faults
          c.in-Ok.word c.note_raise.ensures c.in-Ok.ensures.settled c.in-Ok.ensures.settles c.raise_at.ensures.others c.in-Ok.ensures.word
          c.raise_at.ensures.spare g.F.Fingerprint.print d v,
      on.0,
      on.1,
      on.2,
    )

pub returns-in-Err-clause-event : goal.returns-in-Err-clause-event
returns-in-Err-clause-event g c = λ d f v flies.
    let to = c.requires.raises in
    raise_fails g.D.Pm.state c.args.v.now c.args.who c.row_to_raise-slot.result to (c.row_to_raise-slot.ensures to.flight to.flies) _
    c.raise_at.ensures.only (g.met.D.Pm.agree c.raise_at.new.device) c.raise_at.ensures.images c.raise_at.ensures.faults
    c.stop.ensures g.F.Fingerprint.print d v f flies (c.raise_at.ensures.failed (err_is c.raise_at.result _ c.in-Err.is))

pub returns-in-Err-clause-agrees : goal.returns-in-Err-clause-agrees
returns-in-Err-clause-agrees g c =
    let to = c.requires.raises in
    let found = running_disk g.D.Pm.state c.args.v.now c.requires.running c.requires.agrees in
    raise_stops g.D.Pm.state c.args.v.now c.args.who c.row_to_raise-slot.result to (c.row_to_raise-slot.ensures to.flight to.flies) _
    c.raise_at.ensures.only
    (g.met.D.Pm.agree c.raise_at.new.device) c.raise_at.ensures.images c.raise_at.ensures.faults c.stop.ensures g.F.Fingerprint.print found.0 found.1
