use Rattle.std.proofs.Common.{◌≡◌, ℕ, ◌+◌, ◌-◌, ◌*◌, ◌<◌, ◌≤◌, [], length, get_or, refl, sym, ◌∙◌, ap, subst, arith}
use Rattle.std.specs.Prelude.{slice_index}
use Rattle.pm_layout.specs.Geometry.{inode_word}
use Rattle.dn_model.specs.Log.{Log, count, tail_at}
use Rattle.pm_device.specs.Reading.{Said}
use Rattle.dn_model.specs.Growth.{Prepared}
use Rattle.inode_log.proofs.OthersStand.{prepared_there, others_stand}
use Rattle.inode_log.specs.Prepare.{IsFull, IsToPrepare, IsPreparedTo, HasRoomAt}
use Rattle.inode_log.proofs.Preparing.{
  count_new,
  fresh_within,
  tail_below,
  enough_fresh,
  full_at,
  nothing_prepared,
  all_prepared,
  prepared_flushes,
  slot_stored,
  used_within,
  used_after,
}
use Rattle.inode_log.proofs.prepare.prepare.Goals as goal

pub loop-slot-init : goal.loop-slot-init
loop-slot-init g c =
    let S = g.D.Pm.state in
    record {
      so_far = λ old new is.
          let start = nothing_prepared c.args.g.now c.args.ino c.args.slots.now c.args.fresh.now old new (S c.args.device.now) is c.requires.accepted
          c.requires.ino c.args.who (g.met.D.Pm.agree c.args.device.now) in
          let read : slice_index (S c.args.device.now).now (inode_word c.args.ino 2) ≡ c.read_field-tail.result = sym c.read_field-tail.ensures in
          let none : count old ≡ count old + 0 = omega arith in
          subst (λ (m : ℕ). IsPreparedTo c.args.who c.args.ino old new (S c.args.device.now) m c.read_field-tail.result 0 (S c.args.device.now)) none
          (subst (λ (tail : ℕ). IsPreparedTo c.args.who c.args.ino old new (S c.args.device.now) (count old) tail 0 (S c.args.device.now)) read
          start);
      same_size = refl;
      spare = omega arith;
      faults = omega arith;
    }

pub make_room-line-requires-clause-tail : goal.make_room-line-requires-clause-tail
make_room-line-requires-clause-tail g c =
    let can = c.requires.can in
    let at = c.loop-slot.invariant.so_far can.old can.new can.is in
    let within = count_new c.args.g.now c.args.ino c.args.slots.now c.args.fresh.now can.old can.new _ can.is c.requires.accepted c.requires.ino in
    let below = tail_below c.args.g.now c.args.ino c.args.slots.now c.args.fresh.now can.old can.new _ can.is c.requires.accepted c.requires.ino
    (count can.old + c.loop-slot.slot-index) (omega (arith, c.loop-slot-test.true)) in
    omega (arith, at.tail_is, below)

pub make_room-line-requires-clause-pages : goal.make_room-line-requires-clause-pages
make_room-line-requires-clause-pages g c =
    let can = c.requires.can in fresh_within c.args.g.now c.args.ino c.args.slots.now c.args.fresh.now can.old can.new _ can.is c.requires.accepted
    c.requires.ino

pub make_room-line-requires-clause-enough : goal.make_room-line-requires-clause-enough
make_room-line-requires-clause-enough g c = λ full.
    let can = c.requires.can in
    let at = c.loop-slot.invariant.so_far can.old can.new can.is in
    let within = count_new c.args.g.now c.args.ino c.args.slots.now c.args.fresh.now can.old can.new _ can.is c.requires.accepted c.requires.ino in
    enough_fresh c.args.g.now c.args.ino c.args.slots.now c.args.fresh.now can.old can.new _ can.is c.requires.accepted c.requires.ino
    (count can.old + c.loop-slot.slot-index) c.loop-slot.used
    (omega (arith, c.loop-slot-test.true)) (full_at can.new.pages (count can.old + c.loop-slot.slot-index) (subst IsFull at.tail_is full)) at.used_are

pub make_room-line-requires-clause-room : goal.make_room-line-requires-clause-room
make_room-line-requires-clause-room g c =
    let can = c.requires.can in
    let at = c.loop-slot.invariant.so_far can.old can.new can.is in
    let within = count_new c.args.g.now c.args.ino c.args.slots.now c.args.fresh.now can.old can.new _ can.is c.requires.accepted c.requires.ino in
    let used = used_within c.args.g.now c.args.ino c.args.slots.now c.args.fresh.now can.old can.new _ can.is (count can.old + c.loop-slot.slot-index)
    c.loop-slot.used (omega (arith, c.loop-slot-test.true)) at.used_are in
    omega (arith, c.requires.room, c.loop-slot.invariant.spare, c.loop-slot-test.true)

-- the room that was made
module _ (g : _) (c : goal.After-store_line-arg-in-loop-slot-1 g) where
  pub room_at : (old new : Log) → IsToPrepare c.args.g.now c.args.ino c.args.slots.now c.args.fresh.now old new (g.D.Pm.state c.args.device.now)
      → HasRoomAt c.args.who c.args.ino old new (g.D.Pm.state c.args.device.now) (count old + c.loop-slot.slot-index) c.make_room-line.result.0
      c.make_room-line.result.1 (g.D.Pm.state c.make_room-line.new.device)
  room_at old new is =
      let within = count_new c.args.g.now c.args.ino c.args.slots.now c.args.fresh.now old new _ is c.requires.accepted c.requires.ino in
      c.make_room-line.ensures.links c.args.slots.now old new (g.D.Pm.state c.args.device.now) (count old + c.loop-slot.slot-index) is
      (omega (arith, c.loop-slot-test.true)) (c.loop-slot.invariant.so_far old new is)

  pub used_few : c.make_room-line.result.1 ≤ length c.args.fresh.now
  used_few =
      let can = c.requires.can in
      let within = count_new c.args.g.now c.args.ino c.args.slots.now c.args.fresh.now can.old can.new _ can.is c.requires.accepted c.requires.ino in
      used_after c.args.g.now c.args.ino c.args.slots.now c.args.fresh.now can.old can.new _ can.is (count can.old + c.loop-slot.slot-index)
      c.make_room-line.result.1 (omega (arith, c.loop-slot-test.true)) (room_at can.old can.new can.is).used_are

pub store_line-requires-clause-small : goal.store_line-requires-clause-small
store_line-requires-clause-small g c = omega (arith, c.make_room-line.ensures.line, c.requires.accepted.few_pages)

pub store_line-requires-clause-inside : goal.store_line-requires-clause-inside
store_line-requires-clause-inside g c = omega (
  arith,
  c.make_room-line.ensures.line,
  c.make_room-line.ensures.size,
  c.loop-slot.invariant.same_size,
  c.requires.size,
)

pub store_line-requires-clause-room : goal.store_line-requires-clause-room
store_line-requires-clause-room g c = omega (
  arith,
  used_few g c,
  c.make_room-line.ensures.spare,
  c.loop-slot.invariant.spare,
  c.requires.room,
  c.loop-slot-test.true,
)

pub overflow_add-tail : goal.overflow_add-tail
overflow_add-tail g c = omega (arith, c.make_room-line.ensures.line, c.requires.accepted.few_pages)

pub loop-slot-preserved : goal.loop-slot-preserved
loop-slot-preserved g c =
    let S = g.D.Pm.state in
    record {
      so_far = λ old new is.
          let within = count_new c.args.g.now c.args.ino c.args.slots.now c.args.fresh.now old new (S c.args.device.now) is c.requires.accepted
          c.requires.ino in
          let lt : count old + c.loop-slot.slot-index < count new = omega (arith, c.loop-slot-test.true) in
          let room = c.make_room-line.ensures.links c.args.slots.now old new (S c.args.device.now) (count old + c.loop-slot.slot-index) is lt
          (c.loop-slot.invariant.so_far old new is) in
          let place : c.loop-slot.slot-index ≡ count old + c.loop-slot.slot-index - count old = omega arith in
          let long : length (S c.make_room-line.new.device).now ≡ 512 * c.args.g.now.pages = c.make_room-line.ensures.size ∙
          c.loop-slot.invariant.same_size ∙ c.requires.size in
          let after = slot_stored c.args.g.now c.args.ino c.args.slots.now c.args.fresh.now old new (S c.args.device.now) is c.requires.accepted
          c.requires.ino c.args.who (S c.make_room-line.new.device) (S c.store_line.new.device)
          (count old + c.loop-slot.slot-index) c.make_room-line.result.1 c.make_room-line.result.0 (get_or c.args.slots.now c.loop-slot.slot-index [])
          lt (c.told-slots c.loop-slot.slot-index c.loop-slot-test.true) (ap (λ (i : ℕ). get_or c.args.slots.now i []) place) long room
          c.store_line.ensures.stores in
          let next : count old + c.loop-slot.slot-index + 1 ≡ count old + (c.loop-slot.slot-index + 1) = omega arith in
          subst (λ (m : ℕ). IsPreparedTo c.args.who c.args.ino old new (S c.args.device.now) m (c.make_room-line.result.0 + 1)
          c.make_room-line.result.1 (S c.store_line.new.device)) next after;
      same_size = c.store_line.ensures.stores.only.words ∙ c.make_room-line.ensures.size ∙ c.loop-slot.invariant.same_size;
      spare = omega (arith, c.loop-slot.invariant.spare, c.make_room-line.ensures.spare, c.store_line.ensures.spare);
      faults = omega (arith, c.loop-slot.invariant.faults, c.make_room-line.ensures.faults, c.store_line.ensures.faults);
    }

pub returns-clause-tail : goal.returns-clause-tail
returns-clause-tail g c old new is =
    let within = count_new c.args.g.now c.args.ino c.args.slots.now c.args.fresh.now old new _ is c.requires.accepted c.requires.ino in
    let all : count old + c.loop-slot.slot-index ≡ count new = omega (arith, c.loop-slot-test.false, c.loop-slot.auto.slot-index-end) in
    (c.loop-slot.invariant.so_far old new is).tail_is ∙ ap (tail_at new.pages) all

pub returns-clause-prepared : goal.returns-clause-prepared
returns-clause-prepared g c old new is =
    let within = count_new c.args.g.now c.args.ino c.args.slots.now c.args.fresh.now old new _ is c.requires.accepted c.requires.ino in
    all_prepared c.args.g.now c.args.ino c.args.slots.now c.args.fresh.now old new _ is c.requires.accepted c.requires.ino c.args.who
    (count old + c.loop-slot.slot-index) c.loop-slot.tail c.loop-slot.used _
    (omega (arith, c.loop-slot-test.false, c.loop-slot.auto.slot-index-end)) (c.loop-slot.invariant.so_far old new is)

pub returns-clause-flushes : goal.returns-clause-flushes
returns-clause-flushes g c =
    let can = c.requires.can in
    prepared_flushes c.args.who c.args.ino can.old can.new _ _ (returns-clause-prepared g c can.old can.new can.is)

pub returns-clause-other_logs : goal.returns-clause-other_logs
returns-clause-other_logs g c old new is =
    let S = g.D.Pm.state in
    others_stand c.args.g.now c.args.ino new.pages c.requires.ino is.paged'.in_data (S c.args.device.now) (S c.loop-slot.device)
    (Said (Prepared c.args.ino old new)) (returns-clause-prepared g c old new is).only
    (λ a said. prepared_there c.args.g.now c.args.ino old new is.paged' a said.value said.told)

pub returns-clause-spare : goal.returns-clause-spare
returns-clause-spare g c =
    let can = c.requires.can in
    let at = c.loop-slot.invariant.so_far can.old can.new can.is in
    let within = count_new c.args.g.now c.args.ino c.args.slots.now c.args.fresh.now can.old can.new _ can.is c.requires.accepted c.requires.ino in
    let used = used_within c.args.g.now c.args.ino c.args.slots.now c.args.fresh.now can.old can.new _ can.is (count can.old + c.loop-slot.slot-index)
    c.loop-slot.used (omega (arith, c.loop-slot.auto.slot-index-end)) at.used_are in
    omega (arith, c.loop-slot.invariant.spare, c.loop-slot.auto.slot-index-end, used)
