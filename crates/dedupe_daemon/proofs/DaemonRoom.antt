-- The room that is owed, through an event of the daemon that leaves what operations and reclaim have.
use Rattle.std.proofs.Common.{◌≡◌, ℕ, ◌+◌, ◌≤◌, length, ap, arith}
use Rattle.std.specs.Prelude.{slice_get, Some, vec_len, vec_capacity}
use Rattle.std.specs.VecDeque.{deque_len, deque_capacity}
use Rattle.pm_device.specs.State.{State}
use Rattle.dn_volume.specs.declared.flight.Flight.{Flight}
use Rattle.dn_volume.specs.declared.flight.Change.TheVariants.{Data}
use Rattle.dn_volume.specs.declared.flight.DataChange.{DataChange}
use Rattle.dn_volume.specs.declared.volume.InodeState.{InodeState}
use Rattle.dn_volume.specs.declared.volume.Parts.{Parts}
use Rattle.dn_volume.specs.declared.volume.Room.{Room}
use Rattle.dn_volume.specs.Parties.{Flies}
use Rattle.dn_volume.specs.Reclaims.{one_if}
use Rattle.dn_volume.specs.Reserve.{owed_sum, units_to_reclaim, units_to_share, changes_to_share, units_to_clean, queue_to_clean, Owes, HasRoom}
use Rattle.dn_volume.proofs.HandsKept.{owed_same, flies_before}
use Rattle.dedupe_daemon.specs.Daemon.{KeepsAll}
use Rattle.dedupe_daemon.proofs.DaemonEvent.{flights_same}

-- how what is owed to the daemon moves
pub record MovesRoom (b b' : Parts) (u : State) : Type 0 where
  pub units : b'.owed.units + units_to_share b.sharing ≡ b.owed.units + units_to_share b'.sharing
  pub changes : b'.owed.trace + changes_to_share b.sharing ≡ b.owed.trace + changes_to_share b'.sharing
  pub spare : b'.owed.units ≤ u.spare
  pub trace : vec_len b.trace + b'.owed.trace ≤ vec_capacity b.trace
  pub queue : b.queue.room ≤ b'.queue.room

module _ (b b' : Parts) (s u : State) (kept : KeepsAll b b') (moves : MovesRoom b b' u) (was : HasRoom b s)
    (nodes : (who : ℕ) (f : Flight) (c : DataChange) (y : InodeState) → Flies b who f → f.change ≡ Data c → slice_get b'.inodes.items f.ino ≡ Some y
    → length c.blocks.items ≤ y.map.room) where
  sum_same : (kind : Room → ℕ) → owed_sum b' kind ≡ owed_sum b kind
  sum_same = owed_same b b' (flights_same b b' kept)

  to_reclaim : units_to_reclaim b' ≡ units_to_reclaim b
  to_reclaim =
      let one = ap (λ (r : _). one_if r.raised) kept.reclaiming in
      let zero = ap (λ (r : _). one_if r.zero_check) kept.reclaiming in
      let clean = ap (λ (r : _). units_to_clean r.cleaning) kept.reclaiming in
      omega (arith, one, zero, clean)

  owes : Owes b'
  owes = record {
    units = omega (arith, was.owes.units, sum_same (λ room. room.units), to_reclaim, moves.units);
    trace = omega (arith, was.owes.trace, sum_same (λ room. room.trace), moves.changes);
    history = omega (arith, was.owes.history, sum_same (λ room. room.history), kept.owed_history);
    queue = let due = ap (λ (r : _). queue_to_clean r.cleaning) kept.reclaiming in
        omega (arith, was.owes.queue, sum_same (λ room. room.queue), due, kept.owed_queue);
    releases = let one = ap (λ (r : _). one_if r.raised) kept.reclaiming in
        omega (arith, was.owes.releases, sum_same (λ room. room.releases), one, kept.owed_releases);
  }

  pub room_kept : HasRoom b' u
  room_kept = record {
    owes = owes;
    units = moves.spare;
    trace = let len = ap (λ (t : _). vec_len t) kept.trace in let capacity = ap (λ (t : _). vec_capacity t) kept.trace in
        omega (arith, moves.trace, len, capacity);
    history = let len = ap (λ (t : _). vec_len t) kept.history in let capacity = ap (λ (t : _). vec_capacity t) kept.history in
        omega (arith, was.history, len, capacity, kept.owed_history);
    queue = omega (arith, was.queue, moves.queue, kept.owed_queue);
    releases = let len = ap (λ (r : _). deque_len r.releases) kept.reclaiming in let capacity = ap (λ (r : _). deque_capacity r.releases)
        kept.reclaiming in
        omega (arith, was.releases, len, capacity, kept.owed_releases);
    names = let room = ap (λ (n : _). n.room) kept.names in omega (arith, was.names, room, kept.owed_history);
    places = λ who f c y flies is at. nodes who f c y (flies_before b b' (flights_same b b' kept) who f flies) is at;
  }
