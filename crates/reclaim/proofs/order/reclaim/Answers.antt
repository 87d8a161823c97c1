use Rattle.dn_volume.proofs.Tables.{running_disk}
use Rattle.reclaim.proofs.RoomThen.{room_is, room_untouched, room_agrees, reclaim_since}
use Rattle.reclaim.proofs.Machine.{untouched, waits_some, none_begun}
use Rattle.reclaim.proofs.order.reclaim.Goals as goal

pub returns-then-v-eq0-clause-event : goal.returns-then-v-eq0-clause-event
returns-then-v-eq0-clause-event g c = λ d v. (untouched g.D.Pm.state c.args.v.now d v, c.if-v-eq0.true)

pub begin_work-requires-clause-agrees : goal.begin_work-requires-clause-agrees
begin_work-requires-clause-agrees g c =
    let found = running_disk g.D.Pm.state c.args.v.now c.requires.running c.requires.agrees in
    room_agrees g.D.Pm.state c.args.v.now c.make_room.new.v c.make_room.ensures.makes (g.met.D.Pm.agree c.args.v.now.device) found.0 found.1

pub returns-then-make_room-clause-event : goal.returns-then-make_room-clause-event
returns-then-make_room-clause-event g c = λ d v.
    reclaim_since g.D.Pm.state c.args.v.now c.make_room.new.v c.make_room.ensures.makes c.begin_work.new.v g.F.Fingerprint.print d c.begin_work.result
    (c.begin_work.ensures.event d (room_is g.D.Pm.state c.args.v.now c.make_room.new.v c.make_room.ensures.makes
    (g.met.D.Pm.agree c.args.v.now.device) d v))

pub returns-else-make_room-clause-agrees : goal.returns-else-make_room-clause-agrees
returns-else-make_room-clause-agrees g c =
    let found = running_disk g.D.Pm.state c.args.v.now c.requires.running c.requires.agrees in
    room_agrees g.D.Pm.state c.args.v.now c.make_room.new.v c.make_room.ensures.makes (g.met.D.Pm.agree c.args.v.now.device) found.0 found.1

pub returns-else-make_room-clause-event : goal.returns-else-make_room-clause-event
returns-else-make_room-clause-event g c = λ d v. (
  room_untouched g.D.Pm.state c.args.v.now c.make_room.new.v c.make_room.ensures.makes (g.met.D.Pm.agree c.args.v.now.device) d v,
  waits_some c.args.v.now.parts c.if-v-eq0.false,
  none_begun c.args.v.now.parts c.if-is_some.ensures c.if-is_some-2.ensures,
)
