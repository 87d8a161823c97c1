use Rattle.std.proofs.Common.{◌≡◌, sym, subst, arith}
use Rattle.fact_changes.specs.Removal.{MakesRemoved}
use Rattle.dn_volume.specs.Agrees.{is_stopped}
use Rattle.dn_volume.proofs.Tables.{running_disk}
use Rattle.reclaim.specs.Worked.{Gives}
use Rattle.count_events.proofs.Ends.{err_is}
use Rattle.count_events.proofs.EventsLeft.{left_falls}
use Rattle.reclaim.proofs.SpaceGained.{gives_one}
use Rattle.reclaim.proofs.Zeroed.{checks_since, stops_since}
use Rattle.reclaim.proofs.WorkEnds.{moved_agrees, some_work, less_work, gives_used}
use Rattle.reclaim.proofs.ZeroEnds.{zero_waits, zero_units, zero_spare, zero_here, zero_below, zero_taken, gone_moves, gone_breaks}
use Rattle.reclaim.proofs.zero.remove_row.Goals as goal

pub remove_zero-requires-clause-row : goal.remove_zero-requires-clause-row
remove_zero-requires-clause-row g c =
    let found = running_disk g.D.Pm.state c.args.v.now c.requires.running c.requires.agrees in
    zero_here g.D.Pm.state c.args.v.now c.args.slot c.requires.pending c.args.page c.requires.zero found.0 found.1

pub remove_zero-requires-clause-room : goal.remove_zero-requires-clause-room
remove_zero-requires-clause-room g c = zero_spare g.D.Pm.state c.args.v.now c.args.slot c.requires.pending c.requires.agrees c.requires.running

pub give_back-requires-clause-below : goal.give_back-requires-clause-below
give_back-requires-clause-below g c =
    let found = running_disk g.D.Pm.state c.args.v.now c.requires.running c.requires.agrees in
    zero_below g.D.Pm.state c.args.v.now c.args.slot c.requires.pending c.args.page c.requires.zero found.0 found.1

pub give_back-requires-clause-taken : goal.give_back-requires-clause-taken
give_back-requires-clause-taken g c =
    let found = running_disk g.D.Pm.state c.args.v.now c.requires.running c.requires.agrees in
    zero_taken g.D.Pm.state c.args.v.now c.args.slot c.requires.pending c.args.page c.requires.zero found.0 found.1

pub note_checked-requires-clause-waiting : goal.note_checked-requires-clause-waiting
note_checked-requires-clause-waiting g c = zero_waits g.D.Pm.state c.args.v.now c.args.slot c.requires.pending c.requires.agrees c.requires.running

pub note_checked-requires-clause-units : goal.note_checked-requires-clause-units
note_checked-requires-clause-units g c = zero_units g.D.Pm.state c.args.v.now c.args.slot c.requires.pending c.requires.agrees c.requires.running

pub left_to_reclaim-requires : goal.left_to_reclaim-requires
left_to_reclaim-requires g c =
    left_falls g.D.Pm.state c.args.v.now c.requires.agrees c.requires.running c.note_checked.new.parts
    (omega (arith, c.note_checked.ensures.checks.waiting)) c.note_checked.ensures.checks.kept.cleaning

pub returns-in-Ok-clause-agrees : goal.returns-in-Ok-clause-agrees
returns-in-Ok-clause-agrees g c =
    let S = g.D.Pm.state in
    let found = running_disk S c.args.v.now c.requires.running c.requires.agrees in
    moved_agrees S c.args.v.now g.F.Fingerprint.print _ found.0
    (gone_moves S c.args.v.now c.args.slot c.requires.pending c.args.page c.requires.zero found.0 found.1
    (record { device = c.remove_zero.new.device; print = c.args.v.now.print; kept = c.args.v.now.kept; parts = c.note_checked.new.parts }) c.remove_zero.ensures.only
    c.remove_zero.ensures.images (g.met.D.Pm.agree c.remove_zero.new.device)
    c.remove_zero.ensures.faults g.F.Fingerprint.print (checks_since c.args.v.now.parts c.remove_zero.new.fact c.give_back.new.self
    c.note_checked.new.parts c.note_checked.ensures.checks) c.remove_zero.ensures.others
    (subst (λ t. MakesRemoved c.args.v.now.parts.fact t c.args.slot (S c.args.v.now.device) (S c.remove_zero.new.device))
    (sym c.note_checked.ensures.fact) c.in-Ok.ensures.done) c.in-Ok.ensures.settled
    (subst (Gives (λ p. p ≡ c.args.page) c.args.v.now.parts.free) (sym c.note_checked.ensures.free) (gives_one c.args.page c.args.v.now.parts.free
    c.give_back.new.self c.give_back.ensures.gives_back c.give_back.ensures.in_order))
    c.remove_zero.ensures.spare c.in-Ok.ensures.settles)

pub returns-in-Ok-clause-event : goal.returns-in-Ok-clause-event
returns-in-Ok-clause-event g c = λ d v.
    let S = g.D.Pm.state in (
      gone_moves S c.args.v.now c.args.slot c.requires.pending c.args.page c.requires.zero d v
          (record { device = c.remove_zero.new.device; print = c.args.v.now.print; kept = c.args.v.now.kept; parts = c.note_checked.new.parts }) c.remove_zero.ensures.only
          c.remove_zero.ensures.images (g.met.D.Pm.agree c.remove_zero.new.device)
          c.remove_zero.ensures.faults g.F.Fingerprint.print (checks_since c.args.v.now.parts c.remove_zero.new.fact c.give_back.new.self
          c.note_checked.new.parts c.note_checked.ensures.checks) c.remove_zero.ensures.others
          (subst (λ t. MakesRemoved c.args.v.now.parts.fact t c.args.slot (S c.args.v.now.device) (S c.remove_zero.new.device))
          (sym c.note_checked.ensures.fact) c.in-Ok.ensures.done) c.in-Ok.ensures.settled
          (subst (Gives (λ p. p ≡ c.args.page) c.args.v.now.parts.free) (sym c.note_checked.ensures.free)
          (gives_one c.args.page c.args.v.now.parts.free c.give_back.new.self c.give_back.ensures.gives_back c.give_back.ensures.in_order))
          c.remove_zero.ensures.spare c.in-Ok.ensures.settles,
      some_work c.args.v.now.parts (zero_waits S c.args.v.now c.args.slot c.requires.pending c.requires.agrees c.requires.running),
      less_work c.args.v.now.parts c.note_checked.new.parts c.left_to_reclaim.result
          (checks_since c.args.v.now.parts c.remove_zero.new.fact c.give_back.new.self c.note_checked.new.parts c.note_checked.ensures.checks).kept
          (omega (arith, c.note_checked.ensures.checks.waiting))
          (gives_used (λ p. p ≡ c.args.page) c.args.v.now.parts c.note_checked.new.parts
          (subst (Gives (λ p. p ≡ c.args.page) c.args.v.now.parts.free) (sym c.note_checked.ensures.free)
          (gives_one c.args.page c.args.v.now.parts.free c.give_back.new.self c.give_back.ensures.gives_back c.give_back.ensures.in_order))
          c.note_checked.ensures.checks.kept.cleaning)
          c.left_to_reclaim.ensures,
    )

pub returns-in-Err-clause-agrees : goal.returns-in-Err-clause-agrees
returns-in-Err-clause-agrees g c =
    let S = g.D.Pm.state in
    let found = running_disk S c.args.v.now c.requires.running c.requires.agrees in
    is_stopped (gone_breaks S c.args.v.now c.args.slot c.requires.pending c.args.page c.requires.zero found.0 found.1
    (record { device = c.remove_zero.new.device; print = c.args.v.now.print; kept = c.args.v.now.kept; parts = c.stop.new.parts }) c.remove_zero.ensures.only
    c.remove_zero.ensures.images (g.met.D.Pm.agree c.remove_zero.new.device)
    c.remove_zero.ensures.faults g.F.Fingerprint.print (stops_since c.args.v.now.parts c.remove_zero.new.fact c.stop.new.parts c.stop.ensures)
    (c.remove_zero.ensures.failed (err_is c.remove_zero.result _ c.in-Err.is))).stopped

pub returns-in-Err-clause-event : goal.returns-in-Err-clause-event
returns-in-Err-clause-event g c = λ d v.
    let S = g.D.Pm.state in (
      gone_breaks S c.args.v.now c.args.slot c.requires.pending c.args.page c.requires.zero d v
          (record { device = c.remove_zero.new.device; print = c.args.v.now.print; kept = c.args.v.now.kept; parts = c.stop.new.parts }) c.remove_zero.ensures.only
          c.remove_zero.ensures.images (g.met.D.Pm.agree c.remove_zero.new.device)
          c.remove_zero.ensures.faults g.F.Fingerprint.print (stops_since c.args.v.now.parts c.remove_zero.new.fact c.stop.new.parts c.stop.ensures)
          (c.remove_zero.ensures.failed (err_is c.remove_zero.result _ c.in-Err.is)),
      some_work c.args.v.now.parts (zero_waits S c.args.v.now c.args.slot c.requires.pending c.requires.agrees c.requires.running),
    )
