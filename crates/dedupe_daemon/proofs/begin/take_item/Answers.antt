use Rattle.dn_volume.specs.Agrees.{agrees_with, is_stopped}
use Rattle.dn_volume.proofs.Tables.{running_disk}
use Rattle.count_events.proofs.Ends.{err_is}
use Rattle.dedupe_daemon.proofs.BeginEnds.{begin_slot, begin_there, begin_work, begin_moves, begin_breaks, begin_less}
use Rattle.dedupe_daemon.proofs.begin.take_item.Goals as goal

pub set_flag-requires-clause-slot : goal.set_flag-requires-clause-slot
set_flag-requires-clause-slot g c = begin_slot g.D.Pm.state c.args.v.now c.args.sharing c.requires.none_begun c.requires.front c.requires.fresh
    c.requires.item c.requires.loose
    c.requires.agrees c.requires.running

pub note_begin-requires-clause-there : goal.note_begin-requires-clause-there
note_begin-requires-clause-there g c = begin_there g.D.Pm.state c.args.v.now c.args.sharing c.requires.none_begun c.requires.front c.requires.fresh
    c.requires.item c.requires.loose
    c.requires.agrees c.requires.running

pub returns-in-Ok-clause-agrees : goal.returns-in-Ok-clause-agrees
returns-in-Ok-clause-agrees g c =
    let found = running_disk g.D.Pm.state c.args.v.now c.requires.running c.requires.agrees in
    let moves = begin_moves g.D.Pm.state c.args.v.now c.args.sharing c.requires.none_begun c.requires.front c.requires.fresh c.requires.item
    c.requires.loose
    found.0 found.1 g.F.Fingerprint.print
    (record { device = c.set_flag.new.device; print = c.args.v.now.print; kept = c.args.v.now.kept; parts = c.note_begin.new.parts })
    (record {
      any_moment = c.set_flag.ensures.committed;
      only = c.set_flag.ensures.only;
      others = c.set_flag.ensures.others;
      spare = c.set_flag.ensures.spare;
      faults = c.set_flag.ensures.faults;
    }) (g.met.D.Pm.agree c.set_flag.new.device) c.note_begin.ensures c.requires.room c.in-Ok.ensures.done c.in-Ok.ensures.settles in
    agrees_with moves.after moves.moves.volume

pub returns-in-Ok-clause-event : goal.returns-in-Ok-clause-event
returns-in-Ok-clause-event g c = λ d v. (
  begin_moves g.D.Pm.state c.args.v.now c.args.sharing c.requires.none_begun c.requires.front c.requires.fresh c.requires.item c.requires.loose
      d v g.F.Fingerprint.print (record { device = c.set_flag.new.device; print = c.args.v.now.print; kept = c.args.v.now.kept; parts = c.note_begin.new.parts })
      (record {
        any_moment = c.set_flag.ensures.committed;
        only = c.set_flag.ensures.only;
        others = c.set_flag.ensures.others;
        spare = c.set_flag.ensures.spare;
        faults = c.set_flag.ensures.faults;
      }) (g.met.D.Pm.agree c.set_flag.new.device) c.note_begin.ensures c.requires.room c.in-Ok.ensures.done c.in-Ok.ensures.settles,
  begin_work g.D.Pm.state c.args.v.now c.args.sharing c.requires.none_begun c.requires.front c.requires.fresh c.requires.item c.requires.loose d v,
  begin_less g.D.Pm.state c.args.v.now c.args.sharing c.requires.none_begun c.requires.front c.requires.fresh c.requires.item c.requires.loose d v
      (record { device = c.set_flag.new.device; print = c.args.v.now.print; kept = c.args.v.now.kept; parts = c.note_begin.new.parts }) c.note_begin.ensures,
)

pub returns-in-Err-clause-agrees : goal.returns-in-Err-clause-agrees
returns-in-Err-clause-agrees g c =
    let found = running_disk g.D.Pm.state c.args.v.now c.requires.running c.requires.agrees in
    is_stopped (begin_breaks g.D.Pm.state c.args.v.now c.args.sharing c.requires.none_begun c.requires.front c.requires.fresh c.requires.item
    c.requires.loose
    found.0 found.1 g.F.Fingerprint.print
    (record { device = c.set_flag.new.device; print = c.args.v.now.print; kept = c.args.v.now.kept; parts = c.stop.new.parts })
    (record {
      any_moment = c.set_flag.ensures.committed;
      only = c.set_flag.ensures.only;
      others = c.set_flag.ensures.others;
      spare = c.set_flag.ensures.spare;
      faults = c.set_flag.ensures.faults;
    }) (g.met.D.Pm.agree c.set_flag.new.device) c.stop.ensures
    (c.set_flag.ensures.failed (err_is c.set_flag.result _ c.in-Err.is))).stopped

pub returns-in-Err-clause-event : goal.returns-in-Err-clause-event
returns-in-Err-clause-event g c = λ d v. (
  begin_breaks g.D.Pm.state c.args.v.now c.args.sharing c.requires.none_begun c.requires.front c.requires.fresh c.requires.item c.requires.loose
      d v g.F.Fingerprint.print
      (record { device = c.set_flag.new.device; print = c.args.v.now.print; kept = c.args.v.now.kept; parts = c.stop.new.parts })
      (record {
        any_moment = c.set_flag.ensures.committed;
        only = c.set_flag.ensures.only;
        others = c.set_flag.ensures.others;
        spare = c.set_flag.ensures.spare;
        faults = c.set_flag.ensures.faults;
      }) (g.met.D.Pm.agree c.set_flag.new.device) c.stop.ensures (c.set_flag.ensures.failed (err_is c.set_flag.result _ c.in-Err.is)),
  begin_work g.D.Pm.state c.args.v.now c.args.sharing c.requires.none_begun c.requires.front c.requires.fresh c.requires.item c.requires.loose d v,
)
