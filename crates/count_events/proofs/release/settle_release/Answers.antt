use Rattle.count_events.proofs.Ends.{may_settle, two_wait, may_work, lowers, left_small, stopped_agrees, fails, succeeds, agrees_after, err_is}
use Rattle.count_events.proofs.release.settle_release.Goals as goal

pub settle_row-requires-clause-row : goal.settle_row-requires-clause-row
settle_row-requires-clause-row g c =
    may_settle g.D.Pm.state c.args.v.now c.index-slot.result.now c.requires.some c.index-slot.ensures c.requires.agrees c.requires.running

pub returns-in-Ok-clause-agrees : goal.returns-in-Ok-clause-agrees
returns-in-Ok-clause-agrees g c =
    agrees_after g.D.Pm.state c.args.v.now c.index-slot.result.now c.requires.some c.index-slot.ensures _ c.settle_row.ensures.only
    (g.met.D.Pm.agree c.settle_row.new.device) c.settle_row.ensures.images c.settle_row.ensures.faults
    c.in-Ok.word c.note_release.ensures c.requires.unchecked c.requires.unraised c.in-Ok.ensures.settled c.in-Ok.ensures.settles
    c.settle_row.ensures.others c.in-Ok.ensures.word c.requires.units c.settle_row.ensures.spare c.requires.trace
    g.F.Fingerprint.print c.requires.agrees c.requires.running

pub returns-in-Ok-clause-event : goal.returns-in-Ok-clause-event
returns-in-Ok-clause-event g c = λ d v. (
  succeeds g.D.Pm.state c.args.v.now c.index-slot.result.now c.requires.some c.index-slot.ensures _ c.settle_row.ensures.only
      (g.met.D.Pm.agree c.settle_row.new.device) c.settle_row.ensures.images c.settle_row.ensures.faults
      c.in-Ok.word c.note_release.ensures c.requires.unchecked c.requires.unraised c.in-Ok.ensures.settled c.in-Ok.ensures.settles
      c.settle_row.ensures.others c.in-Ok.ensures.word c.requires.units c.settle_row.ensures.spare c.requires.trace
      g.F.Fingerprint.print d v,
  may_work g.D.Pm.state c.args.v.now c.index-slot.result.now c.requires.some c.index-slot.ensures c.requires.agrees c.requires.running
      c.requires.unraised,
  lowers g.D.Pm.state c.args.v.now c.index-slot.result.now c.requires.some c.index-slot.ensures c.note_release.new.parts c.in-Ok.word
      c.left_to_reclaim.result c.note_release.ensures c.left_to_reclaim.ensures,
)

pub returns-in-Err-clause-event : goal.returns-in-Err-clause-event
returns-in-Err-clause-event g c = λ d v. (
  fails g.D.Pm.state c.args.v.now c.index-slot.result.now c.requires.some c.index-slot.ensures _ c.settle_row.ensures.only
      (g.met.D.Pm.agree c.settle_row.new.device)
      c.settle_row.ensures.images c.settle_row.ensures.faults
      c.stop.ensures g.F.Fingerprint.print d v (c.settle_row.ensures.failed (err_is c.settle_row.result _ c.in-Err.is)),
  may_work g.D.Pm.state c.args.v.now c.index-slot.result.now c.requires.some c.index-slot.ensures c.requires.agrees c.requires.running
      c.requires.unraised,
)

pub left_to_reclaim-requires : goal.left_to_reclaim-requires
left_to_reclaim-requires g c =
    left_small g.D.Pm.state c.args.v.now c.index-slot.result.now c.requires.some c.index-slot.ensures c.note_release.new.parts c.in-Ok.word
    c.note_release.ensures c.requires.agrees c.requires.running

pub note_release-requires-clause-waiting : goal.note_release-requires-clause-waiting
note_release-requires-clause-waiting g c =
    two_wait g.D.Pm.state c.args.v.now c.index-slot.result.now c.requires.some c.index-slot.ensures c.requires.agrees c.requires.running
    c.requires.unraised

pub returns-in-Err-clause-agrees : goal.returns-in-Err-clause-agrees
returns-in-Err-clause-agrees g c =
    stopped_agrees g.D.Pm.state c.args.v.now c.index-slot.result.now c.requires.some c.index-slot.ensures _ c.settle_row.ensures.only
    (g.met.D.Pm.agree c.settle_row.new.device)
    c.settle_row.ensures.images c.settle_row.ensures.faults c.stop.ensures g.F.Fingerprint.print c.requires.agrees c.requires.running
