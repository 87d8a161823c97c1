-- The room that is owed, through an event of reclaim that leaves what operations and the daemon have.
use Rattle.std.proofs.Common.{◌≡◌, ℕ, ◌+◌, ◌≤◌, length, ap, arith}
use Rattle.std.specs.Prelude.{slice_get, Some, vec_len, vec_capacity}
use Rattle.std.specs.VecDeque.{deque_len, deque_capacity}
use Rattle.pm_device.specs.State.{State}
use Rattle.dn_volume.specs.declared.flight.Flight.{Flight}
use Rattle.dn_volume.specs.declared.flight.Change.TheVariants.{Data}
use Rattle.dn_volume.specs.declared.flight.DataChange.{DataChange}
use Rattle.dn_volume.specs.declared.volume.InodeState.{InodeState}
use Rattle.dn_volume.specs.declared.volume.Parts.{Parts}
use Rattle.dn_volume.specs.declared.volume.Room.{Room}
use Rattle.dn_volume.specs.Parties.{Flies}
use Rattle.dn_volume.specs.Reclaims.{one_if}
use Rattle.dn_volume.specs.Reserve.{owed_sum, units_to_reclaim, units_to_share, changes_to_share, queue_to_clean, Owes, HasRoom}
use Rattle.dn_volume.proofs.HandsKept.{owed_same}
use Rattle.reclaim.specs.Worked.{KeepsWork}
use Rattle.reclaim.proofs.WorkEvent.{flies_back}

-- how what is owed to reclaim moves: `owes` units before and after, and the releases
pub record MovesRoom (b b' : Parts) (s u : State) : Type 0 where
  pub units : b'.owed.units + units_to_reclaim b ≡ b.owed.units + units_to_reclaim b'
  pub spare : b'.owed.units ≤ u.spare
  pub releases : b'.owed.releases + one_if b.reclaiming.raised ≡ b.owed.releases + one_if b'.reclaiming.raised
  pub room : deque_len b'.reclaiming.releases + b'.owed.releases ≤ deque_len b.reclaiming.releases + b.owed.releases
  pub capacity : deque_capacity b.reclaiming.releases ≤ deque_capacity b'.reclaiming.releases

module _ (b b' : Parts) (s u : State) (kept : KeepsWork b b') (moves : MovesRoom b b' s u) (was : HasRoom b s)
    (nodes : (who : ℕ) (f : Flight) (c : DataChange) (y : InodeState) → Flies b who f → f.change ≡ Data c → slice_get b'.inodes.items f.ino ≡ Some y
    → length c.blocks.items ≤ y.map.room) where
  sum_same : (kind : Room → ℕ) → owed_sum b' kind ≡ owed_sum b kind
  sum_same = owed_same b b' (ap (λ (fs : _). fs.items) kept.flights)

  units_shared : units_to_share b'.sharing ≡ units_to_share b.sharing
  units_shared = ap (λ (x : _). units_to_share x) kept.sharing

  changes_shared : changes_to_share b'.sharing ≡ changes_to_share b.sharing
  changes_shared = ap (λ (x : _). changes_to_share x) kept.sharing

  due_same : queue_to_clean b'.reclaiming.cleaning ≡ queue_to_clean b.reclaiming.cleaning
  due_same = ap (λ (x : _). queue_to_clean x) kept.cleaning

  owes : Owes b'
  owes = record {
    units = omega (arith, was.owes.units, sum_same (λ room. room.units), units_shared, moves.units);
    trace = omega (arith, was.owes.trace, sum_same (λ room. room.trace), changes_shared, kept.owed_trace);
    history = omega (arith, was.owes.history, sum_same (λ room. room.history), kept.owed_history);
    queue = omega (arith, was.owes.queue, sum_same (λ room. room.queue), due_same, kept.owed_queue);
    releases = omega (arith, was.owes.releases, sum_same (λ room. room.releases), moves.releases);
  }

  pub room_worked : HasRoom b' u
  room_worked = record {
    owes = owes;
    units = moves.spare;
    trace = let len = ap (λ (t : _). vec_len t) kept.trace in let capacity = ap (λ (t : _). vec_capacity t) kept.trace in
        omega (arith, was.trace, len, capacity, kept.owed_trace);
    history = let len = ap (λ (t : _). vec_len t) kept.history in let capacity = ap (λ (t : _). vec_capacity t) kept.history in
        omega (arith, was.history, len, capacity, kept.owed_history);
    queue = let room = ap (λ (q : _). q.room) kept.queue in omega (arith, was.queue, room, kept.owed_queue);
    releases = omega (arith, was.releases, moves.room, moves.capacity);
    names = let room = ap (λ (n : _). n.room) kept.names in omega (arith, was.names, room, kept.owed_history);
    places = λ who f c y flies is at. nodes who f c y (flies_back b b' kept who f flies) is at;
  }
