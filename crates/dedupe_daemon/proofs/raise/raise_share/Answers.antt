use Rattle.std.proofs.Common.{ℕ, sym, subst}
use Rattle.dn_volume.specs.declared.units.TheConstants.{LOOK_UNITS}
use Rattle.dn_volume.specs.Works.{DaemonLowers}
use Rattle.dn_volume.proofs.Tables.{running_disk}
use Rattle.count_events.proofs.Ends.{err_is}
use Rattle.dedupe_daemon.proofs.AtPlace.{at_look, to_share}
use Rattle.dedupe_daemon.proofs.LookedParts.{look_work}
use Rattle.dedupe_daemon.proofs.ShareRaised.{
  raise_may,
  raise_spare,
  raise_trace,
  raise_units,
  raise_change,
  raise_few,
  raise_stops,
  raise_fails,
  raise_moves,
  raise_lowers,
  moved_agrees,
}
use Rattle.dedupe_daemon.proofs.raise.raise_share.Goals as goal

pub raise_at-requires-clause-row : goal.raise_at-requires-clause-row
raise_at-requires-clause-row g c = raise_may g.D.Pm.state g.F.Fingerprint.print c.args.v.now c.args.slot (λ d v. to_share c.args.v.now.parts
    c.args.sharing c.requires.looking d c.requires.place.0 c.args.slot (c.requires.place.1 d v)) c.requires.agrees
    c.requires.running

pub raise_at-requires-clause-room : goal.raise_at-requires-clause-room
raise_at-requires-clause-room g c = raise_spare g.D.Pm.state g.F.Fingerprint.print c.args.v.now c.args.slot (λ d v. to_share c.args.v.now.parts
    c.args.sharing c.requires.looking d c.requires.place.0 c.args.slot (c.requires.place.1 d v)) c.requires.agrees
    c.requires.running

pub note_looked-requires-clause-look : goal.note_looked-requires-clause-look
note_looked-requires-clause-look g c = (c.args.sharing, c.requires.looking)

pub note_looked-requires-clause-trace : goal.note_looked-requires-clause-trace
note_looked-requires-clause-trace g c = raise_trace g.D.Pm.state g.F.Fingerprint.print c.args.v.now c.args.slot (λ d v. to_share c.args.v.now.parts
    c.args.sharing c.requires.looking d c.requires.place.0 c.args.slot (c.requires.place.1 d v)) c.requires.agrees
    c.requires.running

pub note_looked-requires-clause-units : goal.note_looked-requires-clause-units
note_looked-requires-clause-units g c = raise_units g.D.Pm.state g.F.Fingerprint.print c.args.v.now c.args.slot (λ d v. to_share c.args.v.now.parts
    c.args.sharing c.requires.looking d c.requires.place.0 c.args.slot (c.requires.place.1 d v)) c.requires.agrees
    c.requires.running

pub note_looked-requires-clause-changes : goal.note_looked-requires-clause-changes
note_looked-requires-clause-changes g c = raise_change g.D.Pm.state g.F.Fingerprint.print c.args.v.now c.args.slot (λ d v. to_share
    c.args.v.now.parts c.args.sharing c.requires.looking d c.requires.place.0 c.args.slot (c.requires.place.1 d v))
    c.requires.agrees c.requires.running

pub events_left-requires : goal.events_left-requires
events_left-requires g c = raise_few g.D.Pm.state g.F.Fingerprint.print c.args.v.now c.args.slot (λ d v. to_share c.args.v.now.parts c.args.sharing
    c.requires.looking d c.requires.place.0 c.args.slot (c.requires.place.1 d v)) c.requires.agrees
    c.requires.running c.note_looked.new.parts c.in-Ok.word LOOK_UNITS c.note_looked.ensures.looks

pub returns-in-Ok-clause-agrees : goal.returns-in-Ok-clause-agrees
returns-in-Ok-clause-agrees g c =
    let S = g.D.Pm.state in
    let found = running_disk S c.args.v.now c.requires.running c.requires.agrees in
    moved_agrees S g.F.Fingerprint.print 15 c.args.v.now _ found.0
    (raise_moves S g.F.Fingerprint.print c.args.v.now c.args.slot (λ d v. to_share c.args.v.now.parts c.args.sharing c.requires.looking d
    c.requires.place.0 c.args.slot (c.requires.place.1 d v))
    (record { device = c.raise_at.new.device; print = c.args.v.now.print; kept = c.args.v.now.kept; parts = c.note_looked.new.parts }) c.raise_at.ensures.only
    (g.met.D.Pm.agree c.raise_at.new.device) c.raise_at.ensures.images c.raise_at.ensures.faults found.0 found.1 c.in-Ok.word
    c.note_looked.ensures.looks c.note_looked.ensures.fact c.in-Ok.ensures.settled c.in-Ok.ensures.settles c.raise_at.ensures.others
    c.in-Ok.ensures.word c.raise_at.ensures.spare)

pub returns-in-Ok-clause-event : goal.returns-in-Ok-clause-event
returns-in-Ok-clause-event g c = λ d v.
    let S = g.D.Pm.state in (
      raise_moves S g.F.Fingerprint.print c.args.v.now c.args.slot (λ d v. to_share c.args.v.now.parts c.args.sharing c.requires.looking d
          c.requires.place.0 c.args.slot (c.requires.place.1 d v))
          (record { device = c.raise_at.new.device; print = c.args.v.now.print; kept = c.args.v.now.kept; parts = c.note_looked.new.parts }) c.raise_at.ensures.only
          (g.met.D.Pm.agree c.raise_at.new.device) c.raise_at.ensures.images c.raise_at.ensures.faults d v c.in-Ok.word
          c.note_looked.ensures.looks c.note_looked.ensures.fact c.in-Ok.ensures.settled c.in-Ok.ensures.settles c.raise_at.ensures.others
          c.in-Ok.ensures.word c.raise_at.ensures.spare,
      look_work d c.args.v.now.parts (at_look c.args.v.now.parts c.args.sharing c.requires.looking),
      subst (λ (n : ℕ). DaemonLowers c.args.v.now.parts c.note_looked.new.parts n) (sym c.events_left.ensures)
          (raise_lowers S g.F.Fingerprint.print c.args.v.now c.args.slot (λ d v. to_share c.args.v.now.parts c.args.sharing c.requires.looking d
          c.requires.place.0 c.args.slot (c.requires.place.1 d v))
          (record { device = c.raise_at.new.device; print = c.args.v.now.print; kept = c.args.v.now.kept; parts = c.note_looked.new.parts }) c.raise_at.ensures.only
          (g.met.D.Pm.agree c.raise_at.new.device) c.raise_at.ensures.images c.raise_at.ensures.faults d v c.in-Ok.word
          c.note_looked.ensures.looks c.note_looked.ensures.fact c.in-Ok.ensures.settled c.in-Ok.ensures.settles c.raise_at.ensures.others
          c.in-Ok.ensures.word c.raise_at.ensures.spare),
    )

pub returns-in-Err-clause-agrees : goal.returns-in-Err-clause-agrees
returns-in-Err-clause-agrees g c =
    let S = g.D.Pm.state in
    let found = running_disk S c.args.v.now c.requires.running c.requires.agrees in
    raise_stops S g.F.Fingerprint.print c.args.v.now c.args.slot (λ d v. to_share c.args.v.now.parts c.args.sharing c.requires.looking d
    c.requires.place.0 c.args.slot (c.requires.place.1 d v))
    (record { device = c.raise_at.new.device; print = c.args.v.now.print; kept = c.args.v.now.kept; parts = c.stop.new.parts }) c.raise_at.ensures.only
    (g.met.D.Pm.agree c.raise_at.new.device) c.raise_at.ensures.images c.raise_at.ensures.faults found.0 found.1 c.stop.ensures

pub returns-in-Err-clause-event : goal.returns-in-Err-clause-event
returns-in-Err-clause-event g c = λ d v.
    let S = g.D.Pm.state in (
      raise_fails S g.F.Fingerprint.print c.args.v.now c.args.slot (λ d v. to_share c.args.v.now.parts c.args.sharing c.requires.looking d
          c.requires.place.0 c.args.slot (c.requires.place.1 d v))
          (record { device = c.raise_at.new.device; print = c.args.v.now.print; kept = c.args.v.now.kept; parts = c.stop.new.parts }) c.raise_at.ensures.only
          (g.met.D.Pm.agree c.raise_at.new.device) c.raise_at.ensures.images c.raise_at.ensures.faults d v c.stop.ensures
          (c.raise_at.ensures.failed (err_is c.raise_at.result _ c.in-Err.is)),
      look_work d c.args.v.now.parts (at_look c.args.v.now.parts c.args.sharing c.requires.looking),
    )
