use Rattle.dn_volume.specs.Agrees.{agrees_with, is_stopped}
use Rattle.dn_volume.proofs.Tables.{running_disk}
use Rattle.count_events.proofs.Ends.{err_is}
use Rattle.dedupe_daemon.proofs.Passed.{begun_work}
use Rattle.dedupe_daemon.proofs.Ended.{end_lowers}
use Rattle.dedupe_daemon.proofs.EndEnds.{end_slot, end_there, end_units, end_spare, end_moves, end_breaks}
use Rattle.dedupe_daemon.proofs.end.end_item.Goals as goal

pub set_flag-requires-clause-slot : goal.set_flag-requires-clause-slot
set_flag-requires-clause-slot g c = end_slot g.D.Pm.state c.args.v.now c.args.sharing c.requires.begun c.requires.look c.requires.all_done
    c.requires.agrees c.requires.running

pub set_flag-requires-clause-room : goal.set_flag-requires-clause-room
set_flag-requires-clause-room g c = end_spare g.D.Pm.state c.args.v.now c.args.sharing c.requires.begun c.requires.look c.requires.all_done
    c.requires.agrees c.requires.running

pub note_end-requires-clause-there : goal.note_end-requires-clause-there
note_end-requires-clause-there g c = end_there g.D.Pm.state c.args.v.now c.args.sharing c.requires.begun c.requires.look c.requires.all_done
    c.requires.agrees c.requires.running

pub note_end-requires-clause-units : goal.note_end-requires-clause-units
note_end-requires-clause-units g c = end_units g.D.Pm.state c.args.v.now c.args.sharing c.requires.begun c.requires.look c.requires.all_done
    c.requires.agrees c.requires.running

pub returns-in-Ok-clause-agrees : goal.returns-in-Ok-clause-agrees
returns-in-Ok-clause-agrees g c =
    let found = running_disk g.D.Pm.state c.args.v.now c.requires.running c.requires.agrees in
    let moves = end_moves g.D.Pm.state c.args.v.now c.args.sharing c.requires.begun c.requires.look c.requires.all_done g.F.Fingerprint.print
    (record { device = c.set_flag.new.device; print = c.args.v.now.print; kept = c.args.v.now.kept; parts = c.note_end.new.parts })
    (record {
      any_moment = c.set_flag.ensures.committed;
      only = c.set_flag.ensures.only;
      others = c.set_flag.ensures.others;
      spare = c.set_flag.ensures.spare;
      faults = c.set_flag.ensures.faults;
    }) (g.met.D.Pm.agree c.set_flag.new.device) found.0 found.1 c.note_end.ensures c.in-Ok.ensures.done c.in-Ok.ensures.settles in
    agrees_with moves.after moves.moves.volume

pub returns-in-Ok-clause-event : goal.returns-in-Ok-clause-event
returns-in-Ok-clause-event g c = λ d v. (
  end_moves g.D.Pm.state c.args.v.now c.args.sharing c.requires.begun c.requires.look c.requires.all_done g.F.Fingerprint.print
      (record { device = c.set_flag.new.device; print = c.args.v.now.print; kept = c.args.v.now.kept; parts = c.note_end.new.parts })
      (record {
        any_moment = c.set_flag.ensures.committed;
        only = c.set_flag.ensures.only;
        others = c.set_flag.ensures.others;
        spare = c.set_flag.ensures.spare;
        faults = c.set_flag.ensures.faults;
      }) (g.met.D.Pm.agree c.set_flag.new.device) d v c.note_end.ensures c.in-Ok.ensures.done c.in-Ok.ensures.settles,
  begun_work d c.args.v.now.parts c.args.sharing c.requires.begun,
  end_lowers d c.args.v.now.parts (g.D.Pm.state c.args.v.now.device) v c.args.sharing c.requires.begun c.requires.look c.requires.all_done
      c.note_end.new.parts c.note_end.ensures,
)

pub returns-in-Err-clause-agrees : goal.returns-in-Err-clause-agrees
returns-in-Err-clause-agrees g c =
    let found = running_disk g.D.Pm.state c.args.v.now c.requires.running c.requires.agrees in
    is_stopped (end_breaks g.D.Pm.state c.args.v.now c.args.sharing c.requires.begun c.requires.look c.requires.all_done g.F.Fingerprint.print
    (record { device = c.set_flag.new.device; print = c.args.v.now.print; kept = c.args.v.now.kept; parts = c.stop.new.parts })
    (record {
      any_moment = c.set_flag.ensures.committed;
      only = c.set_flag.ensures.only;
      others = c.set_flag.ensures.others;
      spare = c.set_flag.ensures.spare;
      faults = c.set_flag.ensures.faults;
    }) (g.met.D.Pm.agree c.set_flag.new.device) found.0 found.1 c.stop.ensures
    (c.set_flag.ensures.failed (err_is c.set_flag.result _ c.in-Err.is))).stopped

pub returns-in-Err-clause-event : goal.returns-in-Err-clause-event
returns-in-Err-clause-event g c = λ d v. (
  end_breaks g.D.Pm.state c.args.v.now c.args.sharing c.requires.begun c.requires.look c.requires.all_done g.F.Fingerprint.print
      (record { device = c.set_flag.new.device; print = c.args.v.now.print; kept = c.args.v.now.kept; parts = c.stop.new.parts })
      (record {
        any_moment = c.set_flag.ensures.committed;
        only = c.set_flag.ensures.only;
        others = c.set_flag.ensures.others;
        spare = c.set_flag.ensures.spare;
        faults = c.set_flag.ensures.faults;
      }) (g.met.D.Pm.agree c.set_flag.new.device) d v c.stop.ensures (c.set_flag.ensures.failed (err_is c.set_flag.result _ c.in-Err.is)),
  begun_work d c.args.v.now.parts c.args.sharing c.requires.begun,
)
