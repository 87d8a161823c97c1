use Rattle.std.proofs.Common.{length, sym, ap, arith}
use Rattle.inode_log.specs.Prepare.{CanPrepare, Prepares, IsNextTail}
use Rattle.dn_volume.specs.Flights.{IsNameFlight}
use Rattle.name_ops.specs.Preparing.{IsToPrepare, StoresFlight}
use Rattle.name_ops.proofs.NameFlight.{flight_of}
use Rattle.name_ops.proofs.Stored.{can_prepare, root_there, node_there, node_kept, stores_flight}
use Rattle.name_ops.proofs.Kept.{to_here, at_read, two_lists, node_at, units_to_prepare}
use Rattle.name_ops.proofs.prepare.store_flight.Goals as goal

pub prepare-tail-requires-clause-ino : goal.prepare-tail-requires-clause-ino
prepare-tail-requires-clause-ino g c =
    let s = g.D.Pm.state c.args.device.now in
    let d = c.requires.stands in
    let to = to_here c.args.parts.now c.args.who c.requires.next _ c.index.ensures c.in-Some.flight c.in-Some.is c.in-Names.change c.in-Names.is in
    root_there d.0 c.args.parts.now s c.args.who c.in-Some.flight c.in-Names.change (flight_of d.0 c.args.parts.now s c.args.who c.in-Some.flight
    c.in-Names.change d.1 to.flies to.change_is) d.1 to

pub prepare-tail-requires-clause-can : goal.prepare-tail-requires-clause-can
prepare-tail-requires-clause-can g c =
    let s = g.D.Pm.state c.args.device.now in
    let d = c.requires.stands in
    let to = to_here c.args.parts.now c.args.who c.requires.next _ c.index.ensures c.in-Some.flight c.in-Some.is c.in-Names.change c.in-Names.is in
    two_lists (λ slots fresh. CanPrepare c.args.parts.now.geometry c.in-Some.flight.ino slots fresh s) _ _ _ _ (sym c.deref.ensures.value)
    (sym c.deref-2.ensures.value)
    (can_prepare d.0 c.args.parts.now s c.args.who c.in-Some.flight c.in-Names.change (flight_of d.0 c.args.parts.now s c.args.who c.in-Some.flight
    c.in-Names.change d.1 to.flies to.change_is) d.1 to)

pub prepare-tail-requires-clause-room : goal.prepare-tail-requires-clause-room
prepare-tail-requires-clause-room g c =
    let s = g.D.Pm.state c.args.device.now in
    let d = c.requires.stands in
    let to = to_here c.args.parts.now c.args.who c.requires.next _ c.index.ensures c.in-Some.flight c.in-Some.is c.in-Names.change c.in-Names.is in
    let slots = ap length c.deref.ensures.value in
    let fresh = ap length c.deref-2.ensures.value in
    let units = units_to_prepare d.0 c.args.parts.now s c.args.who c.in-Some.flight c.in-Names.change d.1 to in
    omega (arith, slots, fresh, units)

pub index-requires-2 : goal.index-requires-2
index-requires-2 g c =
    let s = g.D.Pm.state c.args.device.now in
    let d = c.requires.stands in
    let to = to_here c.args.parts.now c.args.who c.requires.next _ c.index.ensures c.in-Some.flight c.in-Some.is c.in-Names.change c.in-Names.is in
    let kept = node_kept d.0 c.args.parts.now s c.args.who c.in-Some.flight c.in-Names.change (flight_of d.0 c.args.parts.now s c.args.who
    c.in-Some.flight c.in-Names.change d.1 to.flies to.change_is) d.1 to in
    omega (arith, kept, c.args.parts.now.inodes.ok.0)

pub store_turn-requires-clause-node : goal.store_turn-requires-clause-node
store_turn-requires-clause-node g c =
    let s = g.D.Pm.state c.args.device.now in
    let d = c.requires.stands in
    let to = to_here c.args.parts.now c.args.who c.requires.next _ c.index.ensures c.in-Some.flight c.in-Some.is c.in-Names.change c.in-Names.is in
    node_there d.0 c.args.parts.now s c.args.who c.in-Some.flight c.in-Names.change (flight_of d.0 c.args.parts.now s c.args.who c.in-Some.flight
    c.in-Names.change d.1 to.flies to.change_is) d.1 to

pub store_turn-requires-clause-room : goal.store_turn-requires-clause-room
store_turn-requires-clause-room g c =
    let s = g.D.Pm.state c.args.device.now in
    let d = c.requires.stands in
    let to = to_here c.args.parts.now c.args.who c.requires.next _ c.index.ensures c.in-Some.flight c.in-Some.is c.in-Names.change c.in-Names.is in
    let slots = ap length c.deref.ensures.value in
    let fresh = ap length c.deref-2.ensures.value in
    let units = units_to_prepare d.0 c.args.parts.now s c.args.who c.in-Some.flight c.in-Names.change d.1 to in
    omega (arith, slots, fresh, units, c.prepare-tail.ensures.spare)

pub returns : goal.returns
returns g c = λ d f x flight v to.
    let S = g.D.Pm.state in
    let b = c.args.parts.now in
    let kept = node_kept d b (S c.args.device.now) c.args.who f x flight v to in
    at_read b c.args.who f x to _ c.index.ensures c.in-Some.flight c.in-Some.is c.in-Names.change c.in-Names.is
    (λ h y. (fl : IsNameFlight d c.args.who h y (S c.args.device.now)) → IsToPrepare b c.args.who h y
    → StoresFlight d c.args.who h fl.change c.prepare-tail.result (S c.args.device.now) (S c.store_turn.new.device))
    (λ fl at.
    let same_slots = c.deref.ensures.value in
    let same_fresh = c.deref-2.ensures.value in
    let slots_long = ap length same_slots in
    let fresh_long = ap length same_fresh in
    let spare = c.prepare-tail.ensures.spare in
    stores_flight d b (S c.args.device.now) c.args.who c.in-Some.flight c.in-Names.change fl v at (S c.prepare-tail.new.device)
    (S c.store_turn.new.device) (g.met.D.Pm.agree c.prepare-tail.new.device)
    (two_lists (λ slots fresh. Prepares b.geometry c.args.who c.in-Some.flight.ino slots fresh (S c.args.device.now) (S c.prepare-tail.new.device))
    _ _ _ _ same_slots same_fresh c.prepare-tail.ensures.prepared)
    c.prepare-tail.result
    (two_lists (λ slots fresh. IsNextTail b.geometry c.in-Some.flight.ino slots fresh (S c.args.device.now) c.prepare-tail.result)
    _ _ _ _ same_slots same_fresh c.prepare-tail.ensures.tail)
    c.prepare-tail.ensures.flushes (omega (arith, spare, slots_long, fresh_long)) c.prepare-tail.ensures.faults
    c.index-2.result.now (node_at b.inodes.items c.in-Names.change.node c.index-2.result.now
    (node_kept d b (S c.args.device.now) c.args.who c.in-Some.flight c.in-Names.change fl v at) c.index-2.ensures)
    c.store_turn.ensures.stores c.store_turn.ensures.flushes c.store_turn.ensures.spare c.store_turn.ensures.faults)
    flight to
