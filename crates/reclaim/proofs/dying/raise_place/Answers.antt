use Rattle.dn_volume.specs.Agrees.{is_stopped}
use Rattle.dn_volume.proofs.Tables.{running_disk}
use Rattle.std.proofs.Common.{◌+◌, arith}
use Rattle.count_events.proofs.Ends.{err_is}
use Rattle.count_events.proofs.EventsLeft.{left_falls}
use Rattle.reclaim.proofs.WorkEnds.{moved_agrees, some_work}
use Rattle.reclaim.proofs.PlaceRaised.{place_row, place_waits, place_fails, place_moves, place_lowers}
use Rattle.reclaim.proofs.dying.raise_place.Goals as goal

pub raise_at-requires-clause-row : goal.raise_at-requires-clause-row
raise_at-requires-clause-row g c = place_row g.D.Pm.state c.args.v.now c.args.p c.requires.place c.requires.agrees c.requires.running

pub note_place-requires-clause-waiting : goal.note_place-requires-clause-waiting
note_place-requires-clause-waiting g c = place_waits g.D.Pm.state c.args.v.now c.args.p c.requires.place c.requires.agrees c.requires.running
    c.requires.unraised

pub left_to_reclaim-requires : goal.left_to_reclaim-requires
left_to_reclaim-requires g c =
    left_falls g.D.Pm.state c.args.v.now c.requires.agrees c.requires.running c.note_place.new.parts
    (omega (arith, c.note_place.ensures.waiting)) c.note_place.ensures.kept.cleaning

pub returns-in-Ok-clause-agrees : goal.returns-in-Ok-clause-agrees
returns-in-Ok-clause-agrees g c =
    let found = running_disk g.D.Pm.state c.args.v.now c.requires.running c.requires.agrees in
    moved_agrees g.D.Pm.state c.args.v.now g.F.Fingerprint.print _ found.0
    (place_moves g.D.Pm.state c.args.v.now c.args.p c.requires.place _ c.raise_at.ensures.only (g.met.D.Pm.agree c.raise_at.new.device)
    c.raise_at.ensures.images c.raise_at.ensures.faults
    c.in-Ok.word c.note_place.ensures c.requires.unraised c.requires.none_wait c.in-Ok.ensures.settled c.in-Ok.ensures.settles
    c.raise_at.ensures.others c.in-Ok.ensures.word c.requires.room c.raise_at.ensures.spare
    g.F.Fingerprint.print found.0 found.1)

pub returns-in-Ok-clause-event : goal.returns-in-Ok-clause-event
returns-in-Ok-clause-event g c = λ d v. (
  place_moves g.D.Pm.state c.args.v.now c.args.p c.requires.place _ c.raise_at.ensures.only (g.met.D.Pm.agree c.raise_at.new.device)
      c.raise_at.ensures.images c.raise_at.ensures.faults
      c.in-Ok.word c.note_place.ensures c.requires.unraised c.requires.none_wait c.in-Ok.ensures.settled c.in-Ok.ensures.settles
      c.raise_at.ensures.others c.in-Ok.ensures.word c.requires.room c.raise_at.ensures.spare
      g.F.Fingerprint.print d v,
  some_work c.args.v.now.parts (place_waits g.D.Pm.state c.args.v.now c.args.p c.requires.place c.requires.agrees c.requires.running
      c.requires.unraised),
  place_lowers c.args.v.now.parts c.note_place.new.parts c.args.p c.in-Ok.word c.left_to_reclaim.result c.note_place.ensures
      c.left_to_reclaim.ensures,
)

pub returns-in-Err-clause-agrees : goal.returns-in-Err-clause-agrees
returns-in-Err-clause-agrees g c =
    let found = running_disk g.D.Pm.state c.args.v.now c.requires.running c.requires.agrees in
    is_stopped (place_fails g.D.Pm.state c.args.v.now c.args.p c.requires.place
    (record { device = c.raise_at.new.device; print = c.args.v.now.print; kept = c.args.v.now.kept; parts = c.stop.new.parts }) c.raise_at.ensures.only
    (g.met.D.Pm.agree c.raise_at.new.device) c.raise_at.ensures.images c.raise_at.ensures.faults
    c.stop.ensures g.F.Fingerprint.print found.0 found.1 (c.raise_at.ensures.failed (err_is c.raise_at.result _ c.in-Err.is))).stopped

pub returns-in-Err-clause-event : goal.returns-in-Err-clause-event
returns-in-Err-clause-event g c = λ d v. (
  place_fails g.D.Pm.state c.args.v.now c.args.p c.requires.place
      (record { device = c.raise_at.new.device; print = c.args.v.now.print; kept = c.args.v.now.kept; parts = c.stop.new.parts }) c.raise_at.ensures.only
      (g.met.D.Pm.agree c.raise_at.new.device) c.raise_at.ensures.images c.raise_at.ensures.faults
      c.stop.ensures g.F.Fingerprint.print d v (c.raise_at.ensures.failed (err_is c.raise_at.result _ c.in-Err.is)),
  some_work c.args.v.now.parts (place_waits g.D.Pm.state c.args.v.now c.args.p c.requires.place c.requires.agrees c.requires.running
      c.requires.unraised),
)
