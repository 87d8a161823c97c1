use Rattle.std.proofs.Common.{refl, arith}
use Rattle.dn_volume.proofs.Tables.{running_disk}
use Rattle.count_events.proofs.EventsLeft.{left_falls}
use Rattle.count_events.proofs.UsedPages.{used_same}
use Rattle.reclaim.proofs.WorkEnds.{moved_agrees, some_work, less_work}
use Rattle.reclaim.proofs.ZeroEnds.{zero_table, zero_slot, zero_waits, zero_units, stays_moves}
use Rattle.reclaim.proofs.zero.check_zero.Goals as goal

pub zero_page-requires-clause-table : goal.zero_page-requires-clause-table
zero_page-requires-clause-table g c = zero_table g.D.Pm.state c.args.v.now c.in-Some.slot c.in-Some.is c.requires.agrees c.requires.running

pub zero_page-requires-clause-slot : goal.zero_page-requires-clause-slot
zero_page-requires-clause-slot g c = zero_slot g.D.Pm.state c.args.v.now c.in-Some.slot c.in-Some.is c.requires.agrees c.requires.running

pub note_checked-requires-clause-waiting : goal.note_checked-requires-clause-waiting
note_checked-requires-clause-waiting g c = zero_waits g.D.Pm.state c.args.v.now c.in-Some.slot c.in-Some.is c.requires.agrees c.requires.running

pub note_checked-requires-clause-units : goal.note_checked-requires-clause-units
note_checked-requires-clause-units g c = zero_units g.D.Pm.state c.args.v.now c.in-Some.slot c.in-Some.is c.requires.agrees c.requires.running

pub left_to_reclaim-requires : goal.left_to_reclaim-requires
left_to_reclaim-requires g c =
    left_falls g.D.Pm.state c.args.v.now c.requires.agrees c.requires.running c.note_checked.new.parts
    (omega (arith, c.note_checked.ensures.checks.waiting)) c.note_checked.ensures.checks.kept.cleaning

pub returns-in-None-clause-agrees : goal.returns-in-None-clause-agrees
returns-in-None-clause-agrees g c =
    let S = g.D.Pm.state in
    let found = running_disk S c.args.v.now c.requires.running c.requires.agrees in
    moved_agrees S c.args.v.now g.F.Fingerprint.print _ found.0 (stays_moves S c.args.v.now c.in-Some.slot c.in-Some.is
    (record { device = c.args.v.now.device; print = c.args.v.now.print; kept = c.args.v.now.kept; parts = c.note_checked.new.parts }) refl c.note_checked.ensures.checks
    c.note_checked.ensures.free c.note_checked.ensures.fact
    c.in-None.ensures.counted (g.met.D.Pm.agree c.args.v.now.device) g.F.Fingerprint.print found.0 found.1)

pub returns-in-None-clause-event : goal.returns-in-None-clause-event
returns-in-None-clause-event g c = λ d v. (
  stays_moves g.D.Pm.state c.args.v.now c.in-Some.slot c.in-Some.is
      (record { device = c.args.v.now.device; print = c.args.v.now.print; kept = c.args.v.now.kept; parts = c.note_checked.new.parts }) refl c.note_checked.ensures.checks
      c.note_checked.ensures.free c.note_checked.ensures.fact
      c.in-None.ensures.counted (g.met.D.Pm.agree c.args.v.now.device) g.F.Fingerprint.print d v,
  some_work c.args.v.now.parts (zero_waits g.D.Pm.state c.args.v.now c.in-Some.slot c.in-Some.is c.requires.agrees c.requires.running),
  less_work c.args.v.now.parts c.note_checked.new.parts c.left_to_reclaim.result c.note_checked.ensures.checks.kept
      (omega (arith, c.note_checked.ensures.checks.waiting))
      (used_same c.args.v.now.parts c.note_checked.new.parts c.note_checked.ensures.free c.note_checked.ensures.checks.kept.cleaning)
      c.left_to_reclaim.ensures,
)
