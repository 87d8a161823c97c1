use Rattle.std.proofs.Common.{ℕ, ◌+◌, refl, ◌∙◌, ap}
use Rattle.dn_volume.specs.Agrees.{agrees_with}
use Rattle.log_clean.proofs.Remaining.{volume_of}
use Rattle.log_clean.proofs.BeginEnds.{may_work, not_begun, untouched_as, takes_still, untouched_back, begun_now, works}
use Rattle.log_clean.proofs.begin.begin_cleaning.Goals as goal

pub returns-in_default-plan-clause-agrees : goal.returns-in_default-plan-clause-agrees
returns-in_default-plan-clause-agrees g c =
    let S = g.D.Pm.state in
    let found = volume_of S c.args.v.now c.requires.agrees c.requires.running in
    agrees_with found.0
    (untouched_as S c.args.v.now c.plan.new.v (c.in_default-plan.ensures.none refl) (g.met.D.Pm.agree c.args.v.now.device) found.0 found.1).volume

pub returns-in_default-plan-clause-event : goal.returns-in_default-plan-clause-event
returns-in_default-plan-clause-event g c = λ d volume. (
  untouched_as g.D.Pm.state c.args.v.now c.plan.new.v (c.in_default-plan.ensures.none refl) (g.met.D.Pm.agree c.args.v.now.device) d volume,
  may_work c.args.v.now.parts c.in-Some.ino c.in-Some.ensures.inside c.in-Some.ensures.found,
  not_begun c.args.v.now.parts.reclaiming.cleaning c.requires.none_begun,
)

pub returns-then-not-make_room-clause-agrees : goal.returns-then-not-make_room-clause-agrees
returns-then-not-make_room-clause-agrees g c =
    let S = g.D.Pm.state in
    let found = volume_of S c.args.v.now c.requires.agrees c.requires.running in
    let back = c.untake_pages.ensures c.args.v.now.parts.free found.1.space.in_order
    (takes_still S c.args.v.now c.plan.new.v c.make_room.new.v c.in-Some.ino c.in-Ok.cleaning c.in-Ok.ensures.plans
    (g.met.D.Pm.agree c.args.v.now.device) c.make_room.ensures.device c.make_room.ensures.spare c.make_room.ensures.makes) in
    agrees_with found.0
    (untouched_back S c.args.v.now c.plan.new.v c.make_room.new.v c.in-Some.ino c.in-Ok.cleaning c.in-Ok.ensures.plans
    (g.met.D.Pm.agree c.args.v.now.device) c.make_room.ensures.device c.make_room.ensures.spare c.make_room.ensures.makes
    (record c.make_room.new.v { parts = record c.make_room.new.v.parts { free = c.untake_pages.new.free } }) refl refl
    back found.0 found.1).volume

pub returns-then-not-make_room-clause-event : goal.returns-then-not-make_room-clause-event
returns-then-not-make_room-clause-event g c = λ d volume.
    let S = g.D.Pm.state in
    let back = c.untake_pages.ensures c.args.v.now.parts.free volume.space.in_order
    (takes_still S c.args.v.now c.plan.new.v c.make_room.new.v c.in-Some.ino c.in-Ok.cleaning c.in-Ok.ensures.plans
    (g.met.D.Pm.agree c.args.v.now.device) c.make_room.ensures.device c.make_room.ensures.spare c.make_room.ensures.makes) in (
      untouched_back S c.args.v.now c.plan.new.v c.make_room.new.v c.in-Some.ino c.in-Ok.cleaning c.in-Ok.ensures.plans
          (g.met.D.Pm.agree c.args.v.now.device) c.make_room.ensures.device c.make_room.ensures.spare c.make_room.ensures.makes
          (record c.make_room.new.v { parts = record c.make_room.new.v.parts { free = c.untake_pages.new.free } }) refl refl
          back d volume,
      may_work c.args.v.now.parts c.in-Some.ino c.in-Some.ensures.inside c.in-Some.ensures.found,
      not_begun c.args.v.now.parts.reclaiming.cleaning c.requires.none_begun,
    )

pub returns-clause-agrees : goal.returns-clause-agrees
returns-clause-agrees g c =
    let S = g.D.Pm.state in
    let found = volume_of S c.args.v.now c.requires.agrees c.requires.running in
    agrees_with found.0
    (begun_now S c.args.v.now c.plan.new.v c.make_room.new.v c.in-Some.ino c.in-Ok.cleaning c.in-Ok.ensures.plans
    (g.met.D.Pm.agree c.args.v.now.device) c.make_room.ensures.device c.make_room.ensures.spare c.make_room.ensures.makes
    (record c.make_room.new.v { parts = c.note_begun.new.parts }) g.F.Fingerprint.print found.0 found.1 c.requires.none_begun c.requires.none_waits
    c.in-Some.ensures.inside c.in-Some.ensures.found (g.met.D.Pm.agree c.make_room.new.v.device) (c.if-not-make_room.ensures.room refl) refl
    c.note_begun.ensures)

pub returns-clause-event : goal.returns-clause-event
returns-clause-event g c = λ d volume.
    works g.D.Pm.state c.args.v.now c.plan.new.v c.make_room.new.v c.in-Some.ino c.in-Ok.cleaning c.in-Ok.ensures.plans
    (g.met.D.Pm.agree c.args.v.now.device) c.make_room.ensures.device c.make_room.ensures.spare c.make_room.ensures.makes
    (record c.make_room.new.v { parts = c.note_begun.new.parts }) g.F.Fingerprint.print d volume c.requires.none_begun c.requires.none_waits
    c.in-Some.ensures.inside c.in-Some.ensures.found (g.met.D.Pm.agree c.make_room.new.v.device) (c.if-not-make_room.ensures.room refl) refl
    c.note_begun.ensures (c.len.result + 1) (ap (λ (k : ℕ). k + 1) (c.len.ensures ∙ c.in-Ok.cleaning.pages.ok.0))
