-- A place was looked up: what of the parts is what it was, and what is owed then.
use Rattle.std.proofs.Common.{◌≡◌, ℕ, ◌+◌, ◌*◌, ◌-◌, ◌<◌, ◌≤◌, Bool, true, List, length, refl, sym, ◌∙◌, ap, subst, arith}
use Rattle.std.specs.Prelude.{slice_get, Option, Some, None, Contains, nat_lt, if◌then◌else◌, vec_len, vec_capacity}
use Rattle.std.proofs.lemmas.Bool.Decides.{nat_tests}
use Rattle.pm_device.specs.State.{State}
use Rattle.dedupe_queue.specs.declared.Work.{Work}
use Rattle.fact_table.specs.Table.{Table}
use Rattle.dn_model.specs.Disk.{Disk}
use Rattle.dn_model.specs.Counts.{total}
use Rattle.dn_volume.specs.declared.units.TheConstants.{END_UNITS, PLACE_UNITS}
use Rattle.dn_volume.specs.declared.flight.Flight.{Flight}
use Rattle.dn_volume.specs.declared.background.Cleaning.{Cleaning}
use Rattle.dn_volume.specs.declared.background.Sharing.{Sharing}
use Rattle.dn_volume.specs.declared.background.SharingStep.{SharingStep}
use Rattle.dn_volume.specs.declared.background.DyingPlace.{DyingPlace}
use Rattle.dn_volume.specs.declared.volume.InodeState.{InodeState}
use Rattle.dn_volume.specs.declared.volume.Parts.{Parts}
use Rattle.dn_volume.specs.declared.volume.Room.{Room}
use Rattle.dn_volume.specs.Parties.{flight_at, Holds, by_client, by_daemon, by_cleaning, Takes, for_client, for_cleaning}
use Rattle.dn_volume.specs.Balance.{times, raised_by, raised_at, added_at, raised_to_share, added_to_share, raised_to_die, raised, added, dropped}
use Rattle.dn_volume.specs.Shares.{IsWaiting, in_queue, is_begun}
use Rattle.dn_volume.specs.Reclaims.{one_if}
use Rattle.dn_volume.specs.Reserve.{owed_sum, units_to_share, changes_to_share, units_spent, changes_spent, units_to_clean, queue_to_clean, Owes, HasRoom}
use Rattle.dn_volume.specs.Agrees.{IsVolume}
use Rattle.dn_volume.specs.Works.{MayWork, DaemonLowers, daemon_stand, sharing_events, step_events}
use Rattle.dn_volume.proofs.Hands.{SameHands}
use Rattle.dn_volume.proofs.HandsKept.{flies_still, flies_before, owed_same}
use Rattle.count_events.proofs.ShareParts.{same_sharing}
use Rattle.count_events.proofs.UsedPages.{used_same}
use Rattle.dedupe_daemon.proofs.AtPlace.{IsAtLook}
use Rattle.dedupe_daemon.specs.Stepped.{Looks}

-- so it is where only the table came in between
pub looks_since : (next : SharingStep) (slot word units : ℕ) (b : Parts) (t : Table) (b' : Parts)
    → Looks next slot word units (record b { fact = t }) b' → Looks next slot word units b b'
looks_since next slot word units b t b' is = record {
  geometry = is.geometry;
  free = is.free;
  names = is.names;
  names_room = is.names_room;
  inodes = is.inodes;
  queue = is.queue;
  queue_room = is.queue_room;
  history = is.history;
  history_len = is.history_len;
  history_capacity = is.history_capacity;
  flights = is.flights;
  sharing = is.sharing;
  stopped = is.stopped;
  releases = is.releases;
  len = is.len;
  capacity = is.capacity;
  raised = is.raised;
  zero_check = is.zero_check;
  waiting = is.waiting;
  cleaning = is.cleaning;
  trace = is.trace;
  trace_len = is.trace_len;
  trace_capacity = is.trace_capacity;
  owed = is.owed;
  made = is.made;
}

-- an item that is begun is work, and nobody holds it up
pub look_work : (d : Disk) (b : Parts) → IsAtLook b → MayWork (daemon_stand d b)
look_work d b looks = record {
  some = λ rests. clash b.sharing rests.none_begun looks.begun;
  loose = λ holder held. clash b.sharing held.none_begun looks.begun;
}
  where
    clash : (o : Option Sharing) → o ≡ None → o ≡ Some looks.sharing → ⊥
    clash o none some = cc

module _ (b : Parts) (looks : IsAtLook b) where
  abbrev item : Sharing
  item = looks.sharing

  units_was : units_to_share b.sharing ≡ END_UNITS + PLACE_UNITS * (item.count - item.done) - 0
  units_was = ap (λ (r : Option Sharing). units_to_share r) looks.begun ∙ ap (λ (st : SharingStep). END_UNITS + PLACE_UNITS
      * (item.count - item.done) - units_spent st) looks.step

  changes_was : changes_to_share b.sharing ≡ 2 * (item.count - item.done) - 0
  changes_was = ap (λ (r : Option Sharing). changes_to_share r) looks.begun ∙ ap (λ (st : SharingStep). 2 * (item.count - item.done)
      - changes_spent st) looks.step

  -- what the next event is owed is there
  module _ (d : Disk) (s : State) (v : IsVolume d b s) where
    pub look_owes_units : PLACE_UNITS ≤ b.owed.units
    look_owes_units = omega (arith, v.room.owes.units, units_was, looks.some)

    pub look_owes_change : 1 ≤ b.owed.trace
    look_owes_change = omega (arith, v.room.owes.trace, changes_was, looks.some)

    pub look_has_trace : vec_len b.trace < vec_capacity b.trace
    look_has_trace = omega (arith, look_owes_change, v.room.trace)

    pub look_has_units : PLACE_UNITS ≤ s.spare
    look_has_units = omega (arith, look_owes_units, v.room.units)

  raised_was : (x : ℕ) → times x (raised_to_share b.sharing) ≡ 0
  raised_was x = ap (λ (r : Option Sharing). times x (raised_to_share r)) looks.begun ∙ ap (λ (st : SharingStep). times x (raised_at st)) looks.step

  pub added_was : (x : ℕ) → added b x ≡ 0
  added_was x = ap (λ (r : Option Sharing). times x (added_to_share r)) looks.begun ∙ ap (λ (st : SharingStep). times x (added_at st)) looks.step

  module _ (b' : Parts) (next : SharingStep) (slot word units : ℕ) (change : Looks next slot word units b b') where
    abbrev now : Sharing
    now = record item { step = next }

    pub now_is : b'.sharing ≡ Some now
    now_is = change.sharing item looks.begun

    pub same_now : (x : Sharing) → b'.sharing ≡ Some x → now ≡ x
    same_now x is = same_sharing b' now x now_is is

    -- what is under way
    flown_same : (x : ℕ) → total 14 (λ k. times x (raised_by (flight_at b'.flights.items k))) ≡ total 14
        (λ k. times x (raised_by (flight_at b.flights.items k)))
    flown_same x = ap (λ (fs : List (Option Flight)). total 14 (λ k. times x (raised_by (flight_at fs k)))) change.flights

    pub raised_more : (x : ℕ) → raised b' x ≡ raised b x + times x (raised_at next)
    raised_more x =
        let died : times x (raised_to_die b'.reclaiming.raised) ≡ times x (raised_to_die b.reclaiming.raised) = ap
        (λ (r : Option DyingPlace). times x (raised_to_die r)) change.raised in
        let shared : times x (raised_to_share b'.sharing) ≡ times x (raised_at next) = ap (λ (r : Option Sharing). times x (raised_to_share r))
        now_is in
        omega (arith, flown_same x, raised_was x, shared, died)

    pub added_now : (x : ℕ) → added b' x ≡ times x (added_at next)
    added_now x = ap (λ (r : Option Sharing). times x (added_to_share r)) now_is

    pub dropped_still : (x : ℕ) → dropped b' x ≡ dropped b x
    dropped_still x = ap (times x) change.releases

    pub one_raised : one_if b'.reclaiming.raised ≡ one_if b.reclaiming.raised
    one_raised = ap (λ (x : Option DyingPlace). one_if x) change.raised

    pub one_zero : one_if b'.reclaiming.zero_check ≡ one_if b.reclaiming.zero_check
    one_zero = ap (λ (x : Option ℕ). one_if x) change.zero_check

    pub long_still : length b'.reclaiming.releases.items ≡ length b.reclaiming.releases.items
    long_still = ap (λ (xs : List ℕ). length xs) change.releases

    pub owed_still : (kind : Room → ℕ) → owed_sum b' kind ≡ owed_sum b kind
    owed_still = owed_same b b' change.flights

    -- who holds and waits
    holds_still : (who ino : ℕ) → Holds b who ino → Holds b' who ino
    holds_still who ino (by_client f flies has) = by_client f (flies_still b b' change.flights who f flies) has
    holds_still who ino (by_daemon x him is same) = by_daemon now him now_is
        (ap (λ (y : Sharing). y.work.ino) (same_sharing b item x looks.begun is) ∙ same)
    holds_still who ino (by_cleaning c him is same) = by_cleaning c him (change.cleaning ∙ is) same

    holds_before : (who ino : ℕ) → Holds b' who ino → Holds b who ino
    holds_before who ino (by_client f flies has) = by_client f (flies_before b b' change.flights who f flies) has
    holds_before who ino (by_daemon x him is same) = by_daemon item him looks.begun (ap (λ (y : Sharing). y.work.ino) (same_now x is) ∙ same)
    holds_before who ino (by_cleaning c him is same) = by_cleaning c him (sym change.cleaning ∙ is) same

    takes_still : (who page : ℕ) → Takes b who page → Takes b' who page
    takes_still who page (for_client f flies has) = for_client f (flies_still b b' change.flights who f flies) has
    takes_still who page (for_cleaning c him is has) = for_cleaning c him (change.cleaning ∙ is) has

    takes_before : (who page : ℕ) → Takes b' who page → Takes b who page
    takes_before who page (for_client f flies has) = for_client f (flies_before b b' change.flights who f flies) has
    takes_before who page (for_cleaning c him is has) = for_cleaning c him (sym change.cleaning ∙ is) has

    waits_still : (ino at : ℕ) → IsWaiting b ino at → IsWaiting b' ino at
    waits_still ino at (in_queue work n has of_ino of_slot is round) =
        in_queue work n (subst (λ (ws : List Work). Contains ws work) (sym change.queue) has) of_ino of_slot
        (ap (λ (ns : List InodeState). slice_get ns ino) change.inodes ∙ is) round
    waits_still ino at (is_begun x is of_ino of_slot) =
        let same = same_sharing b item x looks.begun is in
        is_begun now now_is (ap (λ (y : Sharing). y.work.ino) same ∙ of_ino) (ap (λ (y : Sharing). y.work.slot) same ∙ of_slot)

    pub look_hands : SameHands b b'
    look_hands = record { holds = holds_still; held = holds_before; takes = takes_still; taken = takes_before; waits = waits_still }

    -- the room
    units_now : units_to_share b'.sharing ≡ END_UNITS + PLACE_UNITS * (item.count - item.done) - units_spent next
    units_now = ap (λ (r : Option Sharing). units_to_share r) now_is

    changes_now : changes_to_share b'.sharing ≡ 2 * (item.count - item.done) - changes_spent next
    changes_now = ap (λ (r : Option Sharing). changes_to_share r) now_is

    clean_still : units_to_clean b'.reclaiming.cleaning ≡ units_to_clean b.reclaiming.cleaning
    clean_still = ap (λ (x : Option Cleaning). units_to_clean x) change.cleaning

    due_still : queue_to_clean b'.reclaiming.cleaning ≡ queue_to_clean b.reclaiming.cleaning
    due_still = ap (λ (x : Option Cleaning). queue_to_clean x) change.cleaning

    owed_units : b'.owed.units ≡ b.owed.units - units
    owed_units = ap (λ (r : Room). r.units) change.owed

    owed_trace : b'.owed.trace ≡ b.owed.trace - 1
    owed_trace = ap (λ (r : Room). r.trace) change.owed

    owed_history : b'.owed.history ≡ b.owed.history
    owed_history = ap (λ (r : Room). r.history) change.owed

    owed_queue : b'.owed.queue ≡ b.owed.queue
    owed_queue = ap (λ (r : Room). r.queue) change.owed

    owed_releases : b'.owed.releases ≡ b.owed.releases
    owed_releases = ap (λ (r : Room). r.releases) change.owed

    module _ (d : Disk) (s u : State) (v : IsVolume d b s) (spent : units_spent next ≡ units) (few : units ≤ PLACE_UNITS)
        (one : changes_spent next ≡ 1) where
      owes : Owes b'
      owes = record {
        units = omega (
          arith,
          v.room.owes.units,
          owed_still (λ room. room.units),
          units_was,
          units_now,
          clean_still,
          looks.some,
          one_raised,
          one_zero,
          owed_units,
          spent,
          few,
        );
        trace = omega (arith, v.room.owes.trace, owed_still (λ room. room.trace), changes_was, changes_now, looks.some, owed_trace, one);
        history = omega (arith, v.room.owes.history, owed_still (λ room. room.history), owed_history);
        queue = omega (arith, v.room.owes.queue, owed_still (λ room. room.queue), due_still, owed_queue);
        releases = omega (arith, v.room.owes.releases, owed_still (λ room. room.releases), one_raised, owed_releases);
      }

      pub look_room : s.spare ≤ u.spare + units → HasRoom b' u
      look_room spare = record {
        owes = owes;
        units = omega (arith, v.room.units, owed_units, spare, look_owes_units d s v, few);
        trace = omega (arith, v.room.trace, change.trace_len, change.trace_capacity, owed_trace, look_owes_change d s v);
        history = omega (arith, v.room.history, change.history_len, change.history_capacity, owed_history);
        queue = omega (arith, v.room.queue, change.queue_room, owed_queue);
        releases = omega (arith, v.room.releases, change.len, change.capacity, owed_releases);
        names = omega (arith, v.room.names, change.names_room, owed_history);
        places = λ who f c n flies is at. v.room.places who f c n (flies_before b b' change.flights who f flies) is
            (ap (λ (ns : List InodeState). slice_get ns f.ino) (sym change.inodes) ∙ at);
      }

    -- fewer events are left
    less_test : (x y : ℕ) → x < y → nat_lt x y ≡ true
    less_test x y lt = grind (arith, nat_tests, lt)

    events_at : (step : SharingStep) → sharing_events (Some (record item { step = step })) ≡ 3 * (item.count - item.done - 1) + step_events step + 1
    events_at step = ap (λ (t : Bool). if t then 3 * (item.count - item.done - 1) + step_events step + 1 else 1)
        (less_test item.done item.count looks.some)

    pub events_now : sharing_events b'.sharing ≡ 3 * (item.count - item.done - 1) + step_events next + 1
    events_now = ap (λ (o : Option Sharing). sharing_events o) now_is ∙ events_at next

    events_was : sharing_events b.sharing ≡ 3 * (item.count - item.done - 1) + 3 + 1
    events_was =
        ap (λ (o : Option Sharing). sharing_events o) looks.begun
        ∙ ap (λ (t : Bool). if t then 3 * (item.count - item.done - 1) + step_events item.step + 1 else 1)
        (less_test item.done item.count looks.some)
        ∙ ap (λ (st : SharingStep). 3 * (item.count - item.done - 1) + step_events st + 1) looks.step

    pub look_lowers : step_events next < 3 → DaemonLowers b b' (sharing_events b'.sharing)
    look_lowers fewer = record {
      left_is = refl;
      less = let queued = ap (λ (ws : List Work). length ws) change.queue in omega (arith, queued, events_was, events_now, fewer);
      waiting = change.waiting;
      pages = used_same b b' change.free change.cleaning;
    }
