-- A place of the daemon's item is done: what is kept in memory then.
use Rattle.std.proofs.Common.{◌≡◌, inl, inr, ℕ, ◌+◌, ◌<◌, ◌≤◌, List, [], length, refl, sym, ◌∙◌, ap, subst, arith}
use Rattle.std.specs.Prelude.{slice_get, Option, Some, None, Contains}
use Rattle.std.proofs.lemmas.Bool.{cases_lt}
use Rattle.std.proofs.lemmas.Bool.Decides.{nat_tests}
use Rattle.pm_device.specs.State.{State, Agree}
use Rattle.dn_model.specs.Disk.{Disk, maps}
use Rattle.dn_volume.specs.declared.units.TheConstants.{PLACE_UNITS}
use Rattle.dn_volume.specs.declared.background.Sharing.{Sharing}
use Rattle.dn_volume.specs.declared.background.SharingStep.{SharingStep}
use Rattle.dn_volume.specs.declared.background.SharingStep.TheVariants.{Look}
use Rattle.dn_volume.specs.declared.volume.InodeState.{InodeState}
use Rattle.dn_volume.specs.declared.volume.Parts.{Parts}
use Rattle.dn_volume.specs.Parties.{Holds, by_client, by_daemon, by_cleaning}
use Rattle.dn_volume.specs.Inodes.{AreInodesOf}
use Rattle.dn_volume.specs.Balance.{times, raised_at, added_at, raised_to_share, added_to_share}
use Rattle.dn_volume.specs.Shares.{IsWaiting, in_queue, is_begun, IsBegun, IsSharing, Shares}
use Rattle.dn_volume.specs.Reserve.{units_spent, changes_spent, units_to_share, changes_to_share, HasRoom}
use Rattle.dn_volume.specs.Agrees.{IsVolume}
use Rattle.dn_volume.specs.Works.{DaemonLowers, sharing_events, step_events, MayWork, daemon_stand}
use Rattle.dn_volume.proofs.HandsKept.{flies_before, flies_still}
use Rattle.dn_volume.proofs.Stills.{still_same}
use Rattle.dedupe_daemon.specs.Daemon.{PassesPlace, after_place}
use Rattle.dedupe_daemon.specs.Looked.{IsLooking, IsPassed}
use Rattle.count_events.proofs.UsedPages.{used_same}
use Rattle.dedupe_daemon.proofs.DaemonEvent.{DaemonEvent, flights_same, cleaning_same}
use Rattle.dedupe_daemon.proofs.DaemonRoom.{room_kept}
use Rattle.dedupe_daemon.proofs.QuietEvent.{disk_same, leaves_same}

pub one_item : (o : Option Sharing) (x y : Sharing) → o ≡ Some x → o ≡ Some y → x ≡ y
one_item o x y here there = cc

pub none_some : (o : Option Sharing) (x : Sharing) → o ≡ None → o ≡ Some x → ⊥
none_some o x none some = cc

-- an item that is begun has events left
pub events_some : (sharing : Sharing) → 1 ≤ sharing_events (Some sharing)
events_some sharing = grind (arith, nat_tests)

-- an item that is begun is work, and nobody holds it up
pub begun_work : (d : Disk) (b : Parts) (sharing : Sharing) → b.sharing ≡ Some sharing → MayWork (daemon_stand d b)
begun_work d b sharing begun = record {
  some = λ rests. none_some b.sharing sharing rests.none_begun begun;
  loose = λ holder held. none_some b.sharing sharing held.none_begun begun;
}

-- what is owed to an item at a place that is looked at
look_units : (sharing : Sharing) → sharing.step ≡ Look → units_spent sharing.step ≡ 0
look_units sharing look = ap units_spent look

look_changes : (sharing : Sharing) → sharing.step ≡ Look → changes_spent sharing.step ≡ 0
look_changes sharing look = ap changes_spent look

module _ (b : Parts) (sharing : Sharing) (looking : IsLooking b sharing) where
  pub units_here : units_to_share b.sharing ≡ units_to_share (Some sharing)
  units_here = ap units_to_share looking.begun

  pub place_owed : (s : State) → HasRoom b s → PLACE_UNITS ≤ b.owed.units
  place_owed s room = omega (arith, room.owes.units, units_here, look_units sharing looking.step, looking.some)

  pub changes_owed : (s : State) → HasRoom b s → 2 ≤ b.owed.trace
  changes_owed s room =
      let here = ap changes_to_share looking.begun in
      omega (arith, room.owes.trace, here, look_changes sharing looking.step, looking.some)

  module _ (b' : Parts) (change : PassesPlace sharing b b') where
    pub nodes_same : b'.inodes.items ≡ b.inodes.items
    nodes_same = ap (λ (ns : _). ns.items) change.inodes

    pub holds_on : (who ino : ℕ) → Holds b who ino → Holds b' who ino
    holds_on who ino (by_client f flies has) = by_client f (flies_still b b' (flights_same b b' change.kept) who f flies) has
    holds_on who ino (by_daemon item him is same) =
        by_daemon (after_place sharing) him change.passed (ap (λ (x : Sharing). x.work.ino) (one_item b.sharing sharing item looking.begun is) ∙ same)
    holds_on who ino (by_cleaning c him is same) = by_cleaning c him (cleaning_same b b' change.kept ∙ is) same

    pub holds_back : (who ino : ℕ) → Holds b' who ino → Holds b who ino
    holds_back who ino (by_client f flies has) = by_client f (flies_before b b' (flights_same b b' change.kept) who f flies) has
    holds_back who ino (by_daemon item him is same) =
        by_daemon sharing him looking.begun (ap (λ (x : Sharing). x.work.ino) (one_item b'.sharing (after_place sharing) item change.passed is) ∙
        same)
    holds_back who ino (by_cleaning c him is same) = by_cleaning c him (sym (cleaning_same b b' change.kept) ∙ is) same

    pub waits_on : (ino slot : ℕ) → IsWaiting b ino slot → IsWaiting b' ino slot
    waits_on ino slot (in_queue work n has of_ino of_slot at round) =
        in_queue work n (subst (λ (q : _). Contains q.items work) (sym change.queue) has) of_ino of_slot
        (ap (λ (ns : List InodeState). slice_get ns ino) nodes_same ∙ at) round
    waits_on ino slot (is_begun item is of_ino of_slot) =
        let same = one_item b.sharing sharing item looking.begun is in
        is_begun (after_place sharing) change.passed (ap (λ (x : Sharing). x.work.ino) same ∙ of_ino) (ap (λ (x : Sharing). x.work.slot) same ∙
        of_slot)

    pub pass_room : (s u : State) → HasRoom b s → b'.owed.units ≤ u.spare → HasRoom b' u
    pass_room s u room spare = room_kept b b' s u change.kept (record {
      units =
          let now = ap units_to_share change.passed in
          omega (arith, units_here, now, look_units sharing looking.step, looking.some, change.units);
      changes =
          let was = ap changes_to_share looking.begun in
          let now = ap changes_to_share change.passed in
          omega (arith, was, now, look_changes sharing looking.step, looking.some, change.trace);
      spare = spare;
      trace = omega (arith, room.trace, change.trace);
      queue = let same = ap (λ (q : _). q.room) change.queue in omega (arith, same);
    }) room (λ who f c y flies is at. room.places who f c y flies is (ap (λ (ns : List InodeState). slice_get ns f.ino) (sym nodes_same) ∙ at))

    pub raises_none : (slot : ℕ) → times slot (raised_to_share b'.sharing) ≡ times slot (raised_to_share b.sharing)
    raises_none slot = ap (λ (o : Option Sharing). times slot (raised_to_share o)) change.passed ∙ sym
        (ap (λ (o : Option Sharing). times slot (raised_to_share o)) looking.begun ∙ ap (λ (x : SharingStep). times slot (raised_at x)) looking.step)

    pub adds_none : (slot : ℕ) → times slot (added_to_share b'.sharing) ≡ times slot (added_to_share b.sharing)
    adds_none slot = ap (λ (o : Option Sharing). times slot (added_to_share o)) change.passed ∙ sym
        (ap (λ (o : Option Sharing). times slot (added_to_share o)) looking.begun ∙ ap (λ (x : SharingStep). times slot (added_at x)) looking.step)

    -- one place less is left
    pub pass_lowers : DaemonLowers b b' (sharing_events b'.sharing)
    pass_lowers = record {
      left_is = refl;
      less =
          let queued = ap (λ (q : _). length q.items) change.queue in
          let before = ap (λ (o : Option Sharing). sharing_events o) looking.begun in
          let after = ap (λ (o : Option Sharing). sharing_events o) change.passed in
          let one = falls in
          omega (arith, queued, before, after, one);
      waiting = ap (λ (r : _). r.waiting) change.kept.reclaiming;
      pages = used_same b b' change.kept.free (cleaning_same b b' change.kept);
    }
      where
        falls : sharing_events (Some (after_place sharing)) < sharing_events (Some sharing)
        falls =
            let step = ap step_events looking.step in
            grind (arith, nat_tests, looking.some, step)

    -- what was done is done, and so is this place
    pub sharing_next : (d e : Disk) → IsBegun d sharing → IsBegun e (after_place sharing) → Shares e b'
    sharing_next d e begun next x is = subst (IsSharing e) (one_item b'.sharing (after_place sharing) x change.passed is)
        (record { begun = next; step = next.done_few })

module _ (d : Disk) (b b' : Parts) (s : State) (v : IsVolume d b s) (sharing : Sharing) (looking : IsLooking b sharing) (passed : IsPassed d sharing)
    (change : PassesPlace sharing b b') (agree : Agree s.now s.past) where
  was : IsBegun d sharing
  was = (v.sharing sharing looking.begun).begun

  next : IsBegun d (after_place sharing)
  next = record {
    file = was.file;
    in_table = was.in_table;
    live = was.live;
    block = was.block;
    size = was.size;
    mask = was.mask;
    item = was.item;
    done_few = omega (arith, looking.some);
    done_so = λ i m lt mapped by_item. elim (cases_lt i sharing.done) [
      | inl before ↦ was.done_so i m before mapped by_item
      | inr here ↦
          let same : i ≡ sharing.done = omega (arith, lt, here) in
          passed m (subst (λ (j : ℕ). maps d sharing.work.ino (sharing.first + j) ≡ Some m) same mapped) by_item
    ];
  }

  pub pass_event : DaemonEvent [] d d b b' s s
  pass_event = record {
    fast = v.fast;
    leaves = leaves_same d s agree;
    live = λ i has. absurd (omega (arith, has.1));
    loose = λ q f flies i held has. absurd (omega (arith, has.1));
    apart = λ c at has. absurd (omega (arith, has.1));
    disk = disk_same d;
    kept = change.kept;
    inodes_are = subst (λ (ns : List InodeState). AreInodesOf d ns) (sym (nodes_same b sharing looking b' change)) v.inodes;
    holders = record {
      told = λ ino who n at.
          let was = v.holders.told ino who n (ap (λ (ns : List InodeState). slice_get ns ino) (sym (nodes_same b sharing looking b'
          change)) ∙ at) in (
            (λ holder. holds_on b sharing looking b' change who ino (was.0 holder)),
            (λ holds. was.1 (holds_back b sharing looking b' change who ino
                holds)),
          );
      in_table = λ ino who holds. v.holders.in_table ino who (holds_back b sharing looking b' change who ino holds);
    };
    queue = record { waits = λ ino idx m place undone. waits_on b sharing looking b' change ino m.slot (v.queue.waits ino idx m place undone) };
    sharing = sharing_next b sharing looking b' change d d was next;
    raises = raises_none b sharing looking b' change;
    adds = adds_none b sharing looking b' change;
    room = pass_room b sharing looking b' change s s v.room (omega (arith, v.room.units, change.units));
    still = still_same b b' s s (record { now = refl; past = refl; faults = refl })
        (λ q f flies. flies_still b b' (flights_same b b' change.kept) q f flies) v.still;
  }
