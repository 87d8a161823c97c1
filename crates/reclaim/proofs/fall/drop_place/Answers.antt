use Rattle.std.proofs.Common.{ℕ, ◌/◌, ◌*◌, ◌+◌, ◌≤◌, length, sym, subst, arith}
use Rattle.dn_volume.specs.Agrees.{is_stopped}
use Rattle.dn_volume.proofs.Tables.{running_disk}
use Rattle.count_events.proofs.Ends.{err_is}
use Rattle.count_events.proofs.EventsLeft.{left_falls}
use Rattle.count_events.proofs.UsedPages.{used_same}
use Rattle.reclaim.proofs.WorkEnds.{
  sets_at,
  done_at,
  moved_agrees,
  some_work,
  less_work,
  drop_ino,
  drop_there,
  drop_line,
  drop_waits,
  drop_units,
  drop_spare,
  drop_release,
  drop_room,
  drop_moves,
  drop_breaks,
}
use Rattle.reclaim.proofs.fall.drop_place.Goals as goal

pub inode_word-word-requires-clause-ino : goal.inode_word-word-requires-clause-ino
inode_word-word-requires-clause-ino g c = drop_ino g.D.Pm.state c.args.v.now c.in-Some.p c.in-Some.is c.requires.agrees c.requires.running

pub set_word-requires-clause-inside : goal.set_word-requires-clause-inside
set_word-requires-clause-inside g c =
    subst (λ (a : ℕ). a / 8 * 8 + 8 ≤ length (g.D.Pm.state c.args.v.now.device).now) (sym c.inode_word-word.ensures)
    (drop_line g.D.Pm.state c.args.v.now c.in-Some.p c.in-Some.is c.requires.agrees c.requires.running)

pub set_word-requires-clause-room : goal.set_word-requires-clause-room
set_word-requires-clause-room g c = drop_spare g.D.Pm.state c.args.v.now c.in-Some.p c.in-Some.is c.requires.agrees c.requires.running

pub note_drop-requires-clause-there : goal.note_drop-requires-clause-there
note_drop-requires-clause-there g c = drop_there g.D.Pm.state c.args.v.now c.in-Some.p c.in-Some.is c.requires.agrees c.requires.running

pub note_drop-requires-clause-room : goal.note_drop-requires-clause-room
note_drop-requires-clause-room g c = drop_room g.D.Pm.state c.args.v.now c.in-Some.p c.in-Some.is c.requires.agrees c.requires.running

pub note_drop-requires-clause-waiting : goal.note_drop-requires-clause-waiting
note_drop-requires-clause-waiting g c = drop_waits g.D.Pm.state c.args.v.now c.in-Some.p c.in-Some.is c.requires.agrees c.requires.running

pub note_drop-requires-clause-units : goal.note_drop-requires-clause-units
note_drop-requires-clause-units g c = drop_units g.D.Pm.state c.args.v.now c.in-Some.p c.in-Some.is c.requires.agrees c.requires.running

pub note_drop-requires-clause-releases : goal.note_drop-requires-clause-releases
note_drop-requires-clause-releases g c = drop_release g.D.Pm.state c.args.v.now c.in-Some.p c.in-Some.is c.requires.agrees c.requires.running

pub left_to_reclaim-requires : goal.left_to_reclaim-requires
left_to_reclaim-requires g c =
    left_falls g.D.Pm.state c.args.v.now c.requires.agrees c.requires.running c.note_drop.new.parts
    (omega (arith, c.note_drop.ensures.waiting)) c.note_drop.ensures.kept.cleaning

pub returns-in-Ok-clause-agrees : goal.returns-in-Ok-clause-agrees
returns-in-Ok-clause-agrees g c =
    let S = g.D.Pm.state in
    let found = running_disk S c.args.v.now c.requires.running c.requires.agrees in
    let sets = sets_at _ _ c.in-Some.p.place (S c.args.v.now.device) (S c.set_word.new.device) c.inode_word-word.ensures (record {
      any_moment = c.set_word.ensures.any_moment;
      only = c.set_word.ensures.only;
      others = c.set_word.ensures.others;
      spare = c.set_word.ensures.spare;
      faults = c.set_word.ensures.faults;
    }) in
    moved_agrees S c.args.v.now g.F.Fingerprint.print _ found.0 (drop_moves S c.args.v.now c.in-Some.p c.in-Some.is g.F.Fingerprint.print _ sets
    (g.met.D.Pm.agree c.set_word.new.device) found.0 found.1
    (done_at _ _ c.in-Some.p.place (S c.args.v.now.device) (S c.set_word.new.device) c.inode_word-word.ensures c.in-Ok.ensures.done)
    c.in-Ok.ensures.settles c.note_drop.ensures)

pub returns-in-Ok-clause-event : goal.returns-in-Ok-clause-event
returns-in-Ok-clause-event g c = λ d v.
    let S = g.D.Pm.state in
    let sets = sets_at _ _ c.in-Some.p.place (S c.args.v.now.device) (S c.set_word.new.device) c.inode_word-word.ensures (record {
      any_moment = c.set_word.ensures.any_moment;
      only = c.set_word.ensures.only;
      others = c.set_word.ensures.others;
      spare = c.set_word.ensures.spare;
      faults = c.set_word.ensures.faults;
    }) in (
      drop_moves S c.args.v.now c.in-Some.p c.in-Some.is g.F.Fingerprint.print _ sets (g.met.D.Pm.agree c.set_word.new.device) d v
          (done_at _ _ c.in-Some.p.place (S c.args.v.now.device) (S c.set_word.new.device) c.inode_word-word.ensures c.in-Ok.ensures.done)
          c.in-Ok.ensures.settles c.note_drop.ensures,
      some_work c.args.v.now.parts (drop_waits S c.args.v.now c.in-Some.p c.in-Some.is c.requires.agrees c.requires.running),
      less_work c.args.v.now.parts c.note_drop.new.parts c.left_to_reclaim.result c.note_drop.ensures.kept
          (omega (arith, c.note_drop.ensures.waiting))
          (used_same c.args.v.now.parts c.note_drop.new.parts c.note_drop.ensures.free c.note_drop.ensures.kept.cleaning) c.left_to_reclaim.ensures,
    )

pub returns-in-Err-clause-agrees : goal.returns-in-Err-clause-agrees
returns-in-Err-clause-agrees g c =
    let S = g.D.Pm.state in
    let found = running_disk S c.args.v.now c.requires.running c.requires.agrees in
    let sets = sets_at _ _ c.in-Some.p.place (S c.args.v.now.device) (S c.set_word.new.device) c.inode_word-word.ensures (record {
      any_moment = c.set_word.ensures.any_moment;
      only = c.set_word.ensures.only;
      others = c.set_word.ensures.others;
      spare = c.set_word.ensures.spare;
      faults = c.set_word.ensures.faults;
    }) in
    is_stopped (drop_breaks S c.args.v.now c.in-Some.p c.in-Some.is g.F.Fingerprint.print
    (record { device = c.set_word.new.device; print = c.args.v.now.print; kept = c.args.v.now.kept; parts = c.stop.new.parts }) sets
    (g.met.D.Pm.agree c.set_word.new.device) found.0 found.1 c.stop.ensures
    (c.set_word.ensures.failed (err_is c.set_word.result _ c.in-Err.is))).stopped

pub returns-in-Err-clause-event : goal.returns-in-Err-clause-event
returns-in-Err-clause-event g c = λ d v.
    let S = g.D.Pm.state in
    let sets = sets_at _ _ c.in-Some.p.place (S c.args.v.now.device) (S c.set_word.new.device) c.inode_word-word.ensures (record {
      any_moment = c.set_word.ensures.any_moment;
      only = c.set_word.ensures.only;
      others = c.set_word.ensures.others;
      spare = c.set_word.ensures.spare;
      faults = c.set_word.ensures.faults;
    }) in (
      drop_breaks S c.args.v.now c.in-Some.p c.in-Some.is g.F.Fingerprint.print
          (record { device = c.set_word.new.device; print = c.args.v.now.print; kept = c.args.v.now.kept; parts = c.stop.new.parts }) sets
          (g.met.D.Pm.agree c.set_word.new.device) d v c.stop.ensures (c.set_word.ensures.failed (err_is c.set_word.result _ c.in-Err.is)),
      some_work c.args.v.now.parts (drop_waits S c.args.v.now c.in-Some.p c.in-Some.is c.requires.agrees c.requires.running),
    )
