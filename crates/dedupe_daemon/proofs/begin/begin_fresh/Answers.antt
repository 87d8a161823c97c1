use Rattle.std.proofs.Common.{◌≡◌, ap, subst, sym, ◌∙◌}
use Rattle.std.specs.Prelude.{slice_get, Some}
use Rattle.dn_volume.specs.declared.background.Sharing.{Sharing as KeptSharing}
use Rattle.dn_volume.proofs.Tables.{running_disk}
use Rattle.reclaim.proofs.Machine.{untouched}
use Rattle.reclaim.proofs.RoomThen.{room_is, room_untouched, room_agrees}
use Rattle.dedupe_daemon.proofs.RoomSince.{stand_made, daemon_since}
use Rattle.dedupe_daemon.proofs.Stale.{held_up, node_loose, loose_work, item_inside, item_small, item_few, none_is_begun}
use Rattle.dedupe_daemon.proofs.begin.begin_fresh.Goals as goal

pub returns-in-Some-clause-event : goal.returns-in-Some-clause-event
returns-in-Some-clause-event g c = λ d v. (
  untouched g.D.Pm.state c.args.v.now d v,
  held_up g.D.Pm.state c.args.v.now c.args.work c.requires.none_begun c.requires.front c.requires.fresh c.index.result.now c.index.ensures
      c.in-Some.holder
      c.in-Some.is d v,
)

pub item_at-sharing-requires-clause-small : goal.item_at-sharing-requires-clause-small
item_at-sharing-requires-clause-small g c = item_small g.D.Pm.state c.args.v.now c.args.work c.requires.none_begun c.requires.front c.requires.fresh
    c.requires.agrees c.requires.running

pub item_at-sharing-requires-clause-inside : goal.item_at-sharing-requires-clause-inside
item_at-sharing-requires-clause-inside g c = item_inside g.D.Pm.state c.args.v.now c.args.work c.requires.none_begun c.requires.front c.requires.fresh
    c.requires.agrees c.requires.running

pub make_room-requires : goal.make_room-requires
make_room-requires g c = item_few g.D.Pm.state c.args.v.now c.args.work c.requires.none_begun c.requires.front c.requires.fresh c.requires.agrees
    c.requires.running c.index.result.now c.index.ensures c.in_default.is c.item_at-sharing.result c.item_at-sharing.ensures

pub take_item-requires-clause-agrees : goal.take_item-requires-clause-agrees
take_item-requires-clause-agrees g c =
    let found = running_disk g.D.Pm.state c.args.v.now c.requires.running c.requires.agrees in
    room_agrees g.D.Pm.state c.args.v.now c.make_room.new.v c.make_room.ensures.makes (g.met.D.Pm.agree c.args.v.now.device) found.0 found.1

pub take_item-requires-clause-loose : goal.take_item-requires-clause-loose
take_item-requires-clause-loose g c = λ n at.
    let same = stand_made g.D.Pm.state c.args.v.now c.make_room.new.v c.make_room.ensures.makes in
    node_loose g.D.Pm.state c.args.v.now c.args.work c.requires.none_begun c.requires.front c.requires.fresh c.index.result.now c.index.ensures
    c.in_default.is n
    (ap (λ ns. slice_get ns c.args.work.ino) (sym same.inodes) ∙ subst (λ (x : KeptSharing). slice_get c.make_room.new.v.parts.inodes.items
    x.work.ino ≡ Some
    n) c.item_at-sharing.ensures at)

pub returns-then-make_room-clause-event : goal.returns-then-make_room-clause-event
returns-then-make_room-clause-event g c = λ d v.
    daemon_since g.D.Pm.state c.args.v.now c.make_room.new.v c.make_room.ensures.makes (g.met.D.Pm.agree c.args.v.now.device) c.take_item.new.v
    g.F.Fingerprint.print d v c.take_item.result
    (c.take_item.ensures.event d (room_is g.D.Pm.state c.args.v.now c.make_room.new.v c.make_room.ensures.makes
    (g.met.D.Pm.agree c.args.v.now.device) d v))

pub returns-else-make_room-clause-agrees : goal.returns-else-make_room-clause-agrees
returns-else-make_room-clause-agrees g c =
    let found = running_disk g.D.Pm.state c.args.v.now c.requires.running c.requires.agrees in
    room_agrees g.D.Pm.state c.args.v.now c.make_room.new.v c.make_room.ensures.makes (g.met.D.Pm.agree c.args.v.now.device) found.0 found.1

pub returns-else-make_room-clause-event : goal.returns-else-make_room-clause-event
returns-else-make_room-clause-event g c = λ d v. (
  room_untouched g.D.Pm.state c.args.v.now c.make_room.new.v c.make_room.ensures.makes (g.met.D.Pm.agree c.args.v.now.device) d v,
  loose_work g.D.Pm.state c.args.v.now c.args.work c.requires.none_begun c.requires.front c.requires.fresh c.index.result.now c.index.ensures
      c.in_default.is d v,
  λ begun. none_is_begun c.args.v.now.parts.sharing c.requires.none_begun begun,
)
