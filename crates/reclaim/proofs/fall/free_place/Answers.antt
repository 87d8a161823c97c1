use Rattle.std.proofs.Common.{◌≡◌, ℕ, ◌/◌, ◌*◌, ◌+◌, ◌≤◌, length, sym, subst, arith}
use Rattle.dn_volume.specs.Agrees.{is_stopped}
use Rattle.dn_volume.proofs.Tables.{running_disk}
use Rattle.count_events.proofs.Ends.{err_is}
use Rattle.count_events.proofs.EventsLeft.{left_falls}
use Rattle.reclaim.proofs.WorkEnds.{
  sets_at,
  done_at,
  moved_agrees,
  some_work,
  less_work,
  gives_used,
  free_ino,
  free_there,
  free_line,
  free_waits,
  free_below,
  free_taken,
  free_moves,
  free_breaks,
}
use Rattle.reclaim.proofs.fall.free_place.Goals as goal

pub inode_word-word-requires-clause-ino : goal.inode_word-word-requires-clause-ino
inode_word-word-requires-clause-ino g c = free_ino g.D.Pm.state c.args.v.now c.args.ino c.args.place c.args.page c.requires.place c.requires.no_row
    c.requires.unraised c.requires.agrees c.requires.running

pub note_freed-requires-clause-there : goal.note_freed-requires-clause-there
note_freed-requires-clause-there g c = free_there g.D.Pm.state c.args.v.now c.args.ino c.args.place c.args.page c.requires.place c.requires.no_row
    c.requires.unraised c.requires.agrees c.requires.running

pub note_freed-requires-clause-waiting : goal.note_freed-requires-clause-waiting
note_freed-requires-clause-waiting g c = free_waits g.D.Pm.state c.args.v.now c.args.ino c.args.place c.args.page c.requires.place c.requires.no_row
    c.requires.unraised c.requires.agrees c.requires.running

pub note_freed-requires-clause-below : goal.note_freed-requires-clause-below
note_freed-requires-clause-below g c = free_below g.D.Pm.state c.args.v.now c.args.ino c.args.place c.args.page c.requires.place c.requires.no_row
    c.requires.unraised c.requires.agrees c.requires.running

pub note_freed-requires-clause-taken : goal.note_freed-requires-clause-taken
note_freed-requires-clause-taken g c = free_taken g.D.Pm.state c.args.v.now c.args.ino c.args.place c.args.page c.requires.place c.requires.no_row
    c.requires.unraised c.requires.agrees c.requires.running

pub set_word-requires-clause-inside : goal.set_word-requires-clause-inside
set_word-requires-clause-inside g c =
    subst (λ (a : ℕ). a / 8 * 8 + 8 ≤ length (g.D.Pm.state c.args.v.now.device).now) (sym c.inode_word-word.ensures)
    (free_line g.D.Pm.state c.args.v.now c.args.ino c.args.place c.args.page c.requires.place c.requires.no_row c.requires.unraised
    c.requires.agrees c.requires.running)

pub left_to_reclaim-requires : goal.left_to_reclaim-requires
left_to_reclaim-requires g c =
    left_falls g.D.Pm.state c.args.v.now c.requires.agrees c.requires.running c.note_freed.new.parts
    (omega (arith, c.note_freed.ensures.waiting)) c.note_freed.ensures.kept.cleaning

pub returns-in-Ok-clause-agrees : goal.returns-in-Ok-clause-agrees
returns-in-Ok-clause-agrees g c =
    let S = g.D.Pm.state in
    let found = running_disk S c.args.v.now c.requires.running c.requires.agrees in
    let sets = sets_at _ _ c.args.place (S c.args.v.now.device) (S c.set_word.new.device) c.inode_word-word.ensures (record {
      any_moment = c.set_word.ensures.any_moment;
      only = c.set_word.ensures.only;
      others = c.set_word.ensures.others;
      spare = c.set_word.ensures.spare;
      faults = c.set_word.ensures.faults;
    }) in
    moved_agrees S c.args.v.now g.F.Fingerprint.print _ found.0 (free_moves S c.args.v.now c.args.ino c.args.place c.args.page c.requires.place
    c.requires.no_row c.requires.unraised g.F.Fingerprint.print _ sets (g.met.D.Pm.agree c.set_word.new.device) found.0 found.1
    (done_at _ _ c.args.place (S c.args.v.now.device) (S c.set_word.new.device) c.inode_word-word.ensures c.in-Ok.ensures.done)
    c.in-Ok.ensures.settles c.requires.units c.note_freed.ensures)

pub returns-in-Ok-clause-event : goal.returns-in-Ok-clause-event
returns-in-Ok-clause-event g c = λ d v.
    let S = g.D.Pm.state in
    let sets = sets_at _ _ c.args.place (S c.args.v.now.device) (S c.set_word.new.device) c.inode_word-word.ensures (record {
      any_moment = c.set_word.ensures.any_moment;
      only = c.set_word.ensures.only;
      others = c.set_word.ensures.others;
      spare = c.set_word.ensures.spare;
      faults = c.set_word.ensures.faults;
    }) in (
      free_moves S c.args.v.now c.args.ino c.args.place c.args.page c.requires.place c.requires.no_row c.requires.unraised g.F.Fingerprint.print _
          sets (g.met.D.Pm.agree c.set_word.new.device) d v
          (done_at _ _ c.args.place (S c.args.v.now.device) (S c.set_word.new.device) c.inode_word-word.ensures c.in-Ok.ensures.done)
          c.in-Ok.ensures.settles c.requires.units c.note_freed.ensures,
      some_work c.args.v.now.parts (let four = free_waits S c.args.v.now c.args.ino c.args.place c.args.page c.requires.place c.requires.no_row
          c.requires.unraised c.requires.agrees c.requires.running in omega (arith, four)),
      less_work c.args.v.now.parts c.note_freed.new.parts c.left_to_reclaim.result c.note_freed.ensures.kept
          (omega (arith, c.note_freed.ensures.waiting))
          (gives_used (λ p. p ≡ c.args.page) c.args.v.now.parts c.note_freed.new.parts c.note_freed.ensures.free c.note_freed.ensures.kept.cleaning)
          c.left_to_reclaim.ensures,
    )

pub returns-in-Err-clause-agrees : goal.returns-in-Err-clause-agrees
returns-in-Err-clause-agrees g c =
    let S = g.D.Pm.state in
    let found = running_disk S c.args.v.now c.requires.running c.requires.agrees in
    let sets = sets_at _ _ c.args.place (S c.args.v.now.device) (S c.set_word.new.device) c.inode_word-word.ensures (record {
      any_moment = c.set_word.ensures.any_moment;
      only = c.set_word.ensures.only;
      others = c.set_word.ensures.others;
      spare = c.set_word.ensures.spare;
      faults = c.set_word.ensures.faults;
    }) in
    is_stopped (free_breaks S c.args.v.now c.args.ino c.args.place c.args.page c.requires.place c.requires.no_row c.requires.unraised
    g.F.Fingerprint.print (record { device = c.set_word.new.device; print = c.args.v.now.print; kept = c.args.v.now.kept; parts = c.stop.new.parts }) sets
    (g.met.D.Pm.agree c.set_word.new.device) found.0 found.1 c.stop.ensures
    (c.set_word.ensures.failed (err_is c.set_word.result _ c.in-Err.is))).stopped

pub returns-in-Err-clause-event : goal.returns-in-Err-clause-event
returns-in-Err-clause-event g c = λ d v.
    let S = g.D.Pm.state in
    let sets = sets_at _ _ c.args.place (S c.args.v.now.device) (S c.set_word.new.device) c.inode_word-word.ensures (record {
      any_moment = c.set_word.ensures.any_moment;
      only = c.set_word.ensures.only;
      others = c.set_word.ensures.others;
      spare = c.set_word.ensures.spare;
      faults = c.set_word.ensures.faults;
    }) in (
      free_breaks S c.args.v.now c.args.ino c.args.place c.args.page c.requires.place c.requires.no_row c.requires.unraised g.F.Fingerprint.print
          (record { device = c.set_word.new.device; print = c.args.v.now.print; kept = c.args.v.now.kept; parts = c.stop.new.parts }) sets
          (g.met.D.Pm.agree c.set_word.new.device) d v c.stop.ensures (c.set_word.ensures.failed (err_is c.set_word.result _ c.in-Err.is)),
      some_work c.args.v.now.parts (let four = free_waits S c.args.v.now c.args.ino c.args.place c.args.page c.requires.place c.requires.no_row
          c.requires.unraised c.requires.agrees c.requires.running in omega (arith, four)),
    )
