use Rattle.std.proofs.Common.{ℕ, ◌/◌, ◌*◌, ◌+◌, ◌≤◌, length, sym, ◌∙◌, ap, subst, arith}
use Rattle.pm_layout.specs.Geometry.{IsAccepted}
use Rattle.dn_volume.specs.Agrees.{is_stopped}
use Rattle.dn_volume.proofs.Tables.{running_disk}
use Rattle.std.specs.Prelude.{Contains}
use Rattle.count_events.proofs.Ends.{err_is}
use Rattle.count_events.proofs.EventsLeft.{left_falls}
use Rattle.reclaim.proofs.NextPlace.{may_end}
use Rattle.reclaim.proofs.EndedInode.{ends_since}
use Rattle.reclaim.proofs.Zeroed.{stops_freed}
use Rattle.reclaim.proofs.LogWalk.{can_give_log}
use Rattle.reclaim.proofs.WorkEnds.{
  sets_at,
  done_at,
  moved_agrees,
  some_work,
  less_work,
  gives_used,
  end_gives,
  end_ino,
  end_there,
  end_line,
  end_waits,
  end_moves,
  end_breaks,
}
use Rattle.reclaim.proofs.end.end_inode.Goals as goal

pub inode_word-requires-clause-ino : goal.inode_word-requires-clause-ino
inode_word-requires-clause-ino g c = end_ino g.D.Pm.state c.args.v.now c.args.ino c.requires.none c.requires.unraised c.requires.agrees
    c.requires.running

pub give_back_log-requires-clause-ino : goal.give_back_log-requires-clause-ino
give_back_log-requires-clause-ino g c = end_ino g.D.Pm.state c.args.v.now c.args.ino c.requires.none c.requires.unraised c.requires.agrees
    c.requires.running

pub note_end-requires-clause-there : goal.note_end-requires-clause-there
note_end-requires-clause-there g c = end_there g.D.Pm.state c.args.v.now c.args.ino c.requires.none c.requires.unraised c.requires.agrees
    c.requires.running

pub note_end-requires-clause-waiting : goal.note_end-requires-clause-waiting
note_end-requires-clause-waiting g c = end_waits g.D.Pm.state c.args.v.now c.args.ino c.requires.none c.requires.unraised c.requires.agrees
    c.requires.running

pub give_back_log-requires-clause-accepted : goal.give_back_log-requires-clause-accepted
give_back_log-requires-clause-accepted g c =
    let found = running_disk g.D.Pm.state c.args.v.now c.requires.running c.requires.agrees in
    subst IsAccepted found.1.fast.geometry found.1.fast.valid.accepted

pub give_back_log-requires-clause-size : goal.give_back_log-requires-clause-size
give_back_log-requires-clause-size g c =
    let found = running_disk g.D.Pm.state c.args.v.now c.requires.running c.requires.agrees in
    found.1.fast.long ∙ ap (λ k. 512 * k.pages) found.1.fast.geometry

pub give_back_log-requires-clause-can : goal.give_back_log-requires-clause-can
give_back_log-requires-clause-can g c =
    let S = g.D.Pm.state in
    let found = running_disk S c.args.v.now c.requires.running c.requires.agrees in
    can_give_log found.0 c.args.v.now.parts (S c.args.v.now.device) found.1 c.args.ino (may_end found.0 c.args.v.now.parts (S c.args.v.now.device)
    found.1 c.args.ino c.requires.none)

pub set_word-requires-clause-inside : goal.set_word-requires-clause-inside
set_word-requires-clause-inside g c =
    subst (λ (a : ℕ). a / 8 * 8 + 8 ≤ length (g.D.Pm.state c.args.v.now.device).now) (sym c.inode_word.ensures)
    (end_line g.D.Pm.state c.args.v.now c.args.ino c.requires.none c.requires.unraised c.requires.agrees c.requires.running)

pub left_to_reclaim-requires : goal.left_to_reclaim-requires
left_to_reclaim-requires g c =
    left_falls g.D.Pm.state c.args.v.now c.requires.agrees c.requires.running c.note_end.new.parts
    (omega (arith, c.note_end.ensures.ends.waiting)) c.note_end.ensures.ends.kept.cleaning

pub returns-in-Ok-clause-agrees : goal.returns-in-Ok-clause-agrees
returns-in-Ok-clause-agrees g c =
    let S = g.D.Pm.state in
    let found = running_disk S c.args.v.now c.requires.running c.requires.agrees in
    let sets = sets_at _ _ 0 (S c.args.v.now.device) (S c.set_word.new.device) c.inode_word.ensures (record {
      any_moment = c.set_word.ensures.any_moment;
      only = c.set_word.ensures.only;
      others = c.set_word.ensures.others;
      spare = c.set_word.ensures.spare;
      faults = c.set_word.ensures.faults;
    }) in
    moved_agrees S c.args.v.now g.F.Fingerprint.print _ found.0 (end_moves S c.args.v.now c.args.ino c.requires.none c.requires.unraised
    g.F.Fingerprint.print _ sets (g.met.D.Pm.agree c.set_word.new.device) found.0 found.1
    (done_at _ _ 0 (S c.args.v.now.device) (S c.set_word.new.device) c.inode_word.ensures c.in-Ok.ensures.done) c.in-Ok.ensures.settles
    c.requires.units (ends_since c.args.ino c.args.v.now.parts c.give_back_log.new.free _ c.note_end.ensures.ends)
    (end_gives c.args.v.now.parts (S c.args.v.now.device) found.0 found.1 c.args.ino c.requires.none c.give_back_log.new.free _
    c.give_back_log.ensures.gives c.note_end.ensures.free))

pub returns-in-Ok-clause-event : goal.returns-in-Ok-clause-event
returns-in-Ok-clause-event g c = λ d v.
    let S = g.D.Pm.state in
    let sets = sets_at _ _ 0 (S c.args.v.now.device) (S c.set_word.new.device) c.inode_word.ensures (record {
      any_moment = c.set_word.ensures.any_moment;
      only = c.set_word.ensures.only;
      others = c.set_word.ensures.others;
      spare = c.set_word.ensures.spare;
      faults = c.set_word.ensures.faults;
    }) in (
      end_moves S c.args.v.now c.args.ino c.requires.none c.requires.unraised g.F.Fingerprint.print _ sets (g.met.D.Pm.agree c.set_word.new.device) d
          v
          (done_at _ _ 0 (S c.args.v.now.device) (S c.set_word.new.device) c.inode_word.ensures c.in-Ok.ensures.done) c.in-Ok.ensures.settles
          c.requires.units (ends_since c.args.ino c.args.v.now.parts c.give_back_log.new.free _ c.note_end.ensures.ends)
          (end_gives c.args.v.now.parts (S c.args.v.now.device) d v c.args.ino c.requires.none c.give_back_log.new.free _ c.give_back_log.ensures.gives
          c.note_end.ensures.free),
      some_work c.args.v.now.parts (end_waits S c.args.v.now c.args.ino c.requires.none c.requires.unraised c.requires.agrees c.requires.running),
      less_work c.args.v.now.parts c.note_end.new.parts c.left_to_reclaim.result
          (ends_since c.args.ino c.args.v.now.parts c.give_back_log.new.free c.note_end.new.parts c.note_end.ensures.ends).kept
          (omega (arith, c.note_end.ensures.ends.waiting))
          (gives_used (Contains (d.inode c.args.ino).log.pages) c.args.v.now.parts c.note_end.new.parts
          (end_gives c.args.v.now.parts (S c.args.v.now.device) d v c.args.ino c.requires.none c.give_back_log.new.free _ c.give_back_log.ensures.gives
          c.note_end.ensures.free) c.note_end.ensures.ends.kept.cleaning)
          c.left_to_reclaim.ensures,
    )

pub returns-in-Err-clause-agrees : goal.returns-in-Err-clause-agrees
returns-in-Err-clause-agrees g c =
    let S = g.D.Pm.state in
    let found = running_disk S c.args.v.now c.requires.running c.requires.agrees in
    let sets = sets_at _ _ 0 (S c.args.v.now.device) (S c.set_word.new.device) c.inode_word.ensures (record {
      any_moment = c.set_word.ensures.any_moment;
      only = c.set_word.ensures.only;
      others = c.set_word.ensures.others;
      spare = c.set_word.ensures.spare;
      faults = c.set_word.ensures.faults;
    }) in
    is_stopped (end_breaks S c.args.v.now c.args.ino c.requires.none c.requires.unraised g.F.Fingerprint.print
    (record { device = c.set_word.new.device; print = c.args.v.now.print; kept = c.args.v.now.kept; parts = c.stop.new.parts }) sets
    (g.met.D.Pm.agree c.set_word.new.device) found.0 found.1 (stops_freed c.args.v.now.parts c.give_back_log.new.free c.stop.new.parts
    c.stop.ensures)
    (c.set_word.ensures.failed (err_is c.set_word.result _ c.in-Err.is))).stopped

pub returns-in-Err-clause-event : goal.returns-in-Err-clause-event
returns-in-Err-clause-event g c = λ d v.
    let S = g.D.Pm.state in
    let sets = sets_at _ _ 0 (S c.args.v.now.device) (S c.set_word.new.device) c.inode_word.ensures (record {
      any_moment = c.set_word.ensures.any_moment;
      only = c.set_word.ensures.only;
      others = c.set_word.ensures.others;
      spare = c.set_word.ensures.spare;
      faults = c.set_word.ensures.faults;
    }) in (
      end_breaks S c.args.v.now c.args.ino c.requires.none c.requires.unraised g.F.Fingerprint.print
          (record { device = c.set_word.new.device; print = c.args.v.now.print; kept = c.args.v.now.kept; parts = c.stop.new.parts }) sets
          (g.met.D.Pm.agree c.set_word.new.device) d v (stops_freed c.args.v.now.parts c.give_back_log.new.free c.stop.new.parts c.stop.ensures)
          (c.set_word.ensures.failed (err_is c.set_word.result _ c.in-Err.is)),
      some_work c.args.v.now.parts (end_waits S c.args.v.now c.args.ino c.requires.none c.requires.unraised c.requires.agrees c.requires.running),
    )
