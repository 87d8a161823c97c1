use Rattle.std.proofs.Common.{ℕ, ◌+◌, true, sym, subst}
use Rattle.dn_volume.specs.declared.units.TheConstants.{LOOK_UNITS, REMAP_UNITS}
use Rattle.dn_volume.specs.declared.background.SharingStep.TheVariants.{Settle}
use Rattle.dn_volume.specs.Works.{DaemonLowers}
use Rattle.dn_volume.proofs.Tables.{running_disk}
use Rattle.count_events.proofs.Ends.{err_is}
use Rattle.dedupe_daemon.specs.Stepped.{Looks}
use Rattle.dedupe_daemon.proofs.AtPlace.{at_look, to_insert}
use Rattle.dedupe_daemon.proofs.LookedParts.{looks_since, look_work}
use Rattle.dedupe_daemon.proofs.InsertEnds.{
  twenty_bytes,
  insert_can,
  insert_spare,
  insert_trace,
  insert_units,
  insert_change,
  insert_few,
  insert_breaks,
  insert_stops,
  insert_moves,
  insert_lowers,
  insert_agrees,
}
use Rattle.reclaim.proofs.Zeroed.{stops_since}
use Rattle.dedupe_daemon.proofs.insert.insert_row.Goals as goal

pub insert-requires-clause-can : goal.insert-requires-clause-can
insert-requires-clause-can g c = insert_can g.D.Pm.state g.F.Fingerprint.print c.args.v.now c.args.print.now c.args.page
    (twenty_bytes c.args.print.now c.told-print c.fits-print) (λ d v. to_insert c.args.v.now.parts c.args.sharing c.requires.looking
    g.F.Fingerprint.print d c.args.page c.args.print.now (c.requires.place d v)) c.requires.agrees c.requires.running

pub insert-requires-clause-room : goal.insert-requires-clause-room
insert-requires-clause-room g c = insert_spare g.D.Pm.state g.F.Fingerprint.print c.args.v.now c.args.print.now c.args.page
    (twenty_bytes c.args.print.now c.told-print c.fits-print) (λ d v. to_insert c.args.v.now.parts c.args.sharing c.requires.looking
    g.F.Fingerprint.print d c.args.page c.args.print.now (c.requires.place d v)) c.requires.agrees c.requires.running

pub note_looked-requires-clause-look : goal.note_looked-requires-clause-look
note_looked-requires-clause-look g c =
    let was = c.requires.looking in (c.args.sharing, record { begun = was.begun; step = was.step; some = was.some })

pub note_looked-requires-clause-trace : goal.note_looked-requires-clause-trace
note_looked-requires-clause-trace g c = insert_trace g.D.Pm.state g.F.Fingerprint.print c.args.v.now c.args.print.now c.args.page
    (twenty_bytes c.args.print.now c.told-print c.fits-print) (λ d v. to_insert c.args.v.now.parts c.args.sharing c.requires.looking
    g.F.Fingerprint.print d c.args.page c.args.print.now (c.requires.place d v)) c.requires.agrees c.requires.running

pub note_looked-requires-clause-units : goal.note_looked-requires-clause-units
note_looked-requires-clause-units g c = insert_units g.D.Pm.state g.F.Fingerprint.print c.args.v.now c.args.print.now c.args.page
    (twenty_bytes c.args.print.now c.told-print c.fits-print) (λ d v. to_insert c.args.v.now.parts c.args.sharing c.requires.looking
    g.F.Fingerprint.print d c.args.page c.args.print.now (c.requires.place d v)) c.requires.agrees c.requires.running

pub note_looked-requires-clause-changes : goal.note_looked-requires-clause-changes
note_looked-requires-clause-changes g c = insert_change g.D.Pm.state g.F.Fingerprint.print c.args.v.now c.args.print.now c.args.page
    (twenty_bytes c.args.print.now c.told-print c.fits-print) (λ d v. to_insert c.args.v.now.parts c.args.sharing c.requires.looking
    g.F.Fingerprint.print d c.args.page c.args.print.now (c.requires.place d v)) c.requires.agrees c.requires.running

pub events_left-requires : goal.events_left-requires
events_left-requires g c = insert_few g.D.Pm.state g.F.Fingerprint.print c.args.v.now c.args.print.now c.args.page
    (twenty_bytes c.args.print.now c.told-print c.fits-print) (λ d v. to_insert c.args.v.now.parts c.args.sharing c.requires.looking
    g.F.Fingerprint.print d c.args.page c.args.print.now (c.requires.place d v)) c.requires.agrees c.requires.running c.note_looked.new.parts
    c.in-Ok.slot c.word-word.result (LOOK_UNITS + REMAP_UNITS) (looks_since (Settle c.in-Ok.slot true) c.in-Ok.slot c.word-word.result
    (LOOK_UNITS + REMAP_UNITS) c.args.v.now.parts c.insert.new.fact c.note_looked.new.parts c.note_looked.ensures.looks)

pub returns-in-Ok-clause-agrees : goal.returns-in-Ok-clause-agrees
returns-in-Ok-clause-agrees g c =
    let S = g.D.Pm.state in
    let found = running_disk S c.args.v.now c.requires.running c.requires.agrees in
    insert_agrees S g.F.Fingerprint.print c.args.v.now c.args.print.now c.args.page (twenty_bytes c.args.print.now c.told-print c.fits-print)
    (λ d v. to_insert c.args.v.now.parts c.args.sharing c.requires.looking g.F.Fingerprint.print d c.args.page c.args.print.now (c.requires.place d
    v)) (record { device = c.insert.new.device; print = c.args.v.now.print; kept = c.args.v.now.kept; parts = c.note_looked.new.parts }) c.insert.new.fact
    c.insert.ensures.only c.insert.ensures.images (g.met.D.Pm.agree c.insert.new.device) c.insert.ensures.faults found.0 found.1 c.in-Ok.slot
    c.in-Ok.ensures.done c.insert.ensures.others c.in-Ok.ensures.settles c.insert.ensures.spare
    (subst (λ (word : ℕ). Looks (Settle c.in-Ok.slot true) c.in-Ok.slot word (LOOK_UNITS + REMAP_UNITS) c.args.v.now.parts c.note_looked.new.parts)
    c.word-word.ensures (looks_since (Settle c.in-Ok.slot true) c.in-Ok.slot c.word-word.result (LOOK_UNITS + REMAP_UNITS) c.args.v.now.parts
    c.insert.new.fact c.note_looked.new.parts c.note_looked.ensures.looks)) c.note_looked.ensures.fact

pub returns-in-Ok-clause-event : goal.returns-in-Ok-clause-event
returns-in-Ok-clause-event g c = λ d v.
    let S = g.D.Pm.state in
    let change = subst (λ (word : ℕ). Looks (Settle c.in-Ok.slot true) c.in-Ok.slot word (LOOK_UNITS + REMAP_UNITS) c.args.v.now.parts
    c.note_looked.new.parts) c.word-word.ensures (looks_since (Settle c.in-Ok.slot true) c.in-Ok.slot c.word-word.result (LOOK_UNITS + REMAP_UNITS)
    c.args.v.now.parts c.insert.new.fact c.note_looked.new.parts c.note_looked.ensures.looks) in (
      insert_moves S g.F.Fingerprint.print c.args.v.now c.args.print.now c.args.page
          (twenty_bytes c.args.print.now c.told-print c.fits-print) (λ d v. to_insert c.args.v.now.parts c.args.sharing c.requires.looking
          g.F.Fingerprint.print d c.args.page c.args.print.now (c.requires.place d v))
          (record { device = c.insert.new.device; print = c.args.v.now.print; kept = c.args.v.now.kept; parts = c.note_looked.new.parts }) c.insert.new.fact
          c.insert.ensures.only c.insert.ensures.images (g.met.D.Pm.agree c.insert.new.device) c.insert.ensures.faults d v c.in-Ok.slot
          c.in-Ok.ensures.done c.insert.ensures.others c.in-Ok.ensures.settles c.insert.ensures.spare change c.note_looked.ensures.fact,
      look_work d c.args.v.now.parts (at_look c.args.v.now.parts c.args.sharing c.requires.looking),
      subst (λ (n : ℕ). DaemonLowers c.args.v.now.parts c.note_looked.new.parts n) (sym c.events_left.ensures)
          (insert_lowers S g.F.Fingerprint.print c.args.v.now c.args.print.now c.args.page
          (twenty_bytes c.args.print.now c.told-print c.fits-print) (λ d v. to_insert c.args.v.now.parts c.args.sharing c.requires.looking
          g.F.Fingerprint.print d c.args.page c.args.print.now (c.requires.place d v))
          (record { device = c.insert.new.device; print = c.args.v.now.print; kept = c.args.v.now.kept; parts = c.note_looked.new.parts }) c.insert.new.fact
          c.insert.ensures.only c.insert.ensures.images (g.met.D.Pm.agree c.insert.new.device) c.insert.ensures.faults d v c.in-Ok.slot
          c.in-Ok.ensures.done c.insert.ensures.others c.in-Ok.ensures.settles c.insert.ensures.spare change c.note_looked.ensures.fact),
    )

pub returns-in-Err-clause-agrees : goal.returns-in-Err-clause-agrees
returns-in-Err-clause-agrees g c =
    let S = g.D.Pm.state in
    let found = running_disk S c.args.v.now c.requires.running c.requires.agrees in
    insert_stops S g.F.Fingerprint.print c.args.v.now c.args.print.now c.args.page (twenty_bytes c.args.print.now c.told-print c.fits-print)
    (λ d v. to_insert c.args.v.now.parts c.args.sharing c.requires.looking g.F.Fingerprint.print d c.args.page c.args.print.now (c.requires.place d
    v)) (record { device = c.insert.new.device; print = c.args.v.now.print; kept = c.args.v.now.kept; parts = c.stop.new.parts }) c.insert.new.fact
    c.insert.ensures.only c.insert.ensures.images (g.met.D.Pm.agree c.insert.new.device) c.insert.ensures.faults found.0 found.1
    (stops_since c.args.v.now.parts c.insert.new.fact c.stop.new.parts c.stop.ensures)

pub returns-in-Err-clause-event : goal.returns-in-Err-clause-event
returns-in-Err-clause-event g c = λ d v.
    let S = g.D.Pm.state in (
      insert_breaks S g.F.Fingerprint.print c.args.v.now c.args.print.now c.args.page
          (twenty_bytes c.args.print.now c.told-print c.fits-print) (λ d v. to_insert c.args.v.now.parts c.args.sharing c.requires.looking
          g.F.Fingerprint.print d c.args.page c.args.print.now (c.requires.place d v))
          (record { device = c.insert.new.device; print = c.args.v.now.print; kept = c.args.v.now.kept; parts = c.stop.new.parts }) c.insert.new.fact
          c.insert.ensures.only c.insert.ensures.images (g.met.D.Pm.agree c.insert.new.device) c.insert.ensures.faults d v
          (stops_since c.args.v.now.parts c.insert.new.fact c.stop.new.parts c.stop.ensures)
          (c.insert.ensures.failed (err_is c.insert.result _ c.in-Err.is)),
      look_work d c.args.v.now.parts (at_look c.args.v.now.parts c.args.sharing c.requires.looking),
    )
