-- The first release was settled.
use Rattle.std.proofs.Common.{◌≡◌, ◌≢◌, ◌⊎◌, inl, inr, ⊎_elim, ℕ, ◌+◌, ◌*◌, ◌-◌, ◌^◌, ◌≤◌, Bool, List, ◌∷◌, length, refl, sym, ◌∙◌, ap, subst, arith}
use Rattle.std.specs.Prelude.{slice_get, Option, Some, None, if◌then◌else◌, ◌==◌, vec_len, vec_capacity}
use Rattle.std.proofs.lemmas.Bool.{cases_eq}
use Rattle.std.proofs.lemmas.Option.{slice_get_cases}
use Rattle.pm_device.specs.State.{State}
use Rattle.dn_model.specs.Table.{Row}
use Rattle.dn_model.specs.Disk.{Disk}
use Rattle.dn_model.specs.Counts.{total}
use Rattle.law_table.proofs.Rows.{same_test, other_test}
use Rattle.law_table_on_disk.specs.BalanceLaws.{RecountsBalanced}
use Rattle.law_table_on_disk.proofs.Balanced.{settle_down_balance}
use Rattle.fact_table.specs.Table.{HasRow}
use Rattle.fact_counts.specs.Counted.{down}
use Rattle.dn_volume.specs.declared.flight.Flight.{Flight}
use Rattle.dn_volume.specs.declared.background.Sharing.{Sharing}
use Rattle.dn_volume.specs.declared.background.DyingPlace.{DyingPlace}
use Rattle.dn_volume.specs.declared.background.Cleaning.{Cleaning}
use Rattle.dn_volume.specs.declared.volume.InodeState.{InodeState}
use Rattle.dn_volume.specs.declared.volume.Parts.{Parts}
use Rattle.dn_volume.specs.declared.volume.Room.{Room}
use Rattle.dn_volume.specs.Parties.{Flies, flight_at, opened}
use Rattle.dn_volume.specs.declared.units.TheConstants.{ZERO_CHECK_UNITS}
use Rattle.count_events.specs.declared.release.TheConstants.{RELEASE_UNITS}
use Rattle.dn_volume.specs.Balance.{times, raised, added, dropped}
use Rattle.dn_volume.specs.Reclaims.{one_if, dying_units}
use Rattle.dn_volume.specs.Reserve.{owed_sum, units_to_share, changes_to_share, units_to_clean, queue_to_clean, Owes, HasRoom}
use Rattle.dn_volume.specs.Agrees.{IsVolume}
use Rattle.dn_volume.proofs.Kept.{ops_same}
use Rattle.dn_volume.proofs.Tables.{is_table}
use Rattle.count_events.specs.Released.{SettlesRelease, IsWordAfter}
use Rattle.dn_volume.proofs.CountsMoved.{MovesCounts}
use Rattle.dn_volume.proofs.HandsKept.{hands_same, others_same, owed_same, added_same, raised_same, flies_before}
use Rattle.count_events.proofs.Event.{CountsOne, CountEvent}
use Rattle.dn_volume.proofs.Times.{times_other}
use Rattle.dn_volume.proofs.RowSlots.{balance_at}
use Rattle.count_events.proofs.Front.{front_row, front_may, dropped_here}

some_none : {X : Type 0} (x : X) (r : Option X) → r ≡ None → r ≡ Some x → ⊥
some_none x r none some = cc

past_none : {X : Type 0} (xs : List X) (k : ℕ) → length xs ≤ k → slice_get xs k ≡ None
past_none xs k le = ⊎_elim (λ found. absurd (omega (arith, found.1, le))) (λ past. past.1) (slice_get_cases xs k).1

-- there is no client past the last
pub no_client : (b : Parts) (who : ℕ) (f : Flight) → length b.flights.items ≡ 14 → 15 ≤ who → Flies b who f → ⊥
no_client b who f clients high flies = some_none f (flight_at b.flights.items (who - 1)) (ap (λ (x : Option (Option Flight)). opened x)
    (past_none b.flights.items (who - 1) (omega (arith, clients, high)))) flies.is

module _ (d : Disk) (b : Parts) (s : State) (v : IsVolume d b s) (slot : ℕ) (rest : List ℕ) (front : b.reclaiming.releases.items ≡ slot ∷ rest) where
  abbrev has : HasRow d slot
  has = front_row d b s v slot rest front

  abbrev row : Row
  row = has.row

  pub front_down : RecountsBalanced d row (row.rfc - 1) (row.uc - 1) (raised b slot) (added b slot) (times slot rest)
  front_down =
      let balance = balance_at d b s v slot row has.is in
      let here = dropped_here d b s v slot rest front in
      settle_down_balance d row v.fast.valid has.is.there (raised b slot) (added b slot) (times slot rest)
      (record { updates = omega (arith, balance.updates, here); references = omega (arith, balance.references, here) })
      (front_may d b s v slot rest front).1

module _ (d : Disk) (b b' : Parts) (s u : State) (v : IsVolume d b s) (slot word : ℕ) (change : SettlesRelease slot word b b')
    (unchecked : b.reclaiming.zero_check ≡ None) (unraised : b.reclaiming.raised ≡ None) where
  abbrev rest : List ℕ
  rest = b'.reclaiming.releases.items

  abbrev found : HasRow d slot
  found = front_row d b s v slot rest change.releases

  abbrev its : Row
  its = found.row

  module _ (counted : CountsOne down 16 d b s u slot its) (is_word : IsWordAfter down s.now b.fact slot word)
      (units : b.owed.units + RELEASE_UNITS ≤ s.spare) (spare : s.spare ≤ u.spare + 3)
      (trace_room : vec_len b.trace + b.owed.trace + 1 ≤ vec_capacity b.trace) where
    word_is : word ≡ (its.rfc - 1) * 2 ^ 32 + (its.uc - 1)
    word_is = is_word d its (is_table d b s v) found.is

    record IsZero : Type 0 where
      is : word ≡ 0
      checked : b'.reclaiming.zero_check ≡ Some slot
      fell : b'.reclaiming.waiting + 1 ≡ b.reclaiming.waiting
      owed : b'.owed.units ≡ b.owed.units + ZERO_CHECK_UNITS

    record IsSome : Type 0 where
      is : word ≢ 0
      checked : b'.reclaiming.zero_check ≡ None
      fell : b'.reclaiming.waiting + 2 ≡ b.reclaiming.waiting
      owed : b'.owed.units ≡ b.owed.units + 0

    owed_units : b'.owed.units ≡ b.owed.units + (if word == 0 then ZERO_CHECK_UNITS else 0)
    owed_units = ap (λ (r : Room). r.units) change.owed

    cases : IsZero ⊎ IsSome
    cases = elim (cases_eq word 0) [
      | inl none ↦ inl (let test = same_test word 0 none in record {
        is = none;
        checked = change.zero_check ∙ ap (λ (t : Bool). if t then Some slot else b.reclaiming.zero_check) test;
        fell = ap (λ (t : Bool). b'.reclaiming.waiting + (if t then 1 else 2)) (sym test) ∙ change.waiting;
        owed = owed_units ∙ ap (λ (t : Bool). b.owed.units + (if t then ZERO_CHECK_UNITS else 0)) test;
      })
      | inr some ↦ inr (let test = other_test word 0 some in record {
        is = some;
        checked = change.zero_check ∙ ap (λ (t : Bool). if t then Some slot else b.reclaiming.zero_check) test ∙ unchecked;
        fell = ap (λ (t : Bool). b'.reclaiming.waiting + (if t then 1 else 2)) (sym test) ∙ change.waiting;
        owed = owed_units ∙ ap (λ (t : Bool). b.owed.units + (if t then ZERO_CHECK_UNITS else 0)) test;
      })
    ]

    -- what is under way
    raised_still : (x : ℕ) → raised b' x ≡ raised b x
    raised_still = raised_same b b' change.flights change.sharing change.raised

    added_still : (x : ℕ) → added b' x ≡ added b x
    added_still = added_same b b' change.flights change.sharing

    dropped_other : (x : ℕ) → x ≢ slot → dropped b' x ≡ dropped b x
    dropped_other x ne = sym (ap (times x) change.releases ∙ times_other x slot rest ne)

    balanced_after : RecountsBalanced d its (its.rfc - 1) (its.uc - 1) (raised b' slot) (added b' slot) (dropped b' slot)
    balanced_after =
        let may = front_down d b s v slot rest change.releases in
        record {
          may = may.may;
          balanced = record {
            updates = omega (arith, may.balanced.updates, raised_still slot, added_still slot);
            references = omega (arith, may.balanced.references, added_still slot);
          };
        }

    zero_now : its.rfc - 1 ≡ 0 → its.uc - 1 ≡ 0 → b'.reclaiming.zero_check ≡ Some slot
    zero_now none no_update = ⊎_elim (λ (zero : IsZero). zero.checked) (λ (some : IsSome). absurd (some.is (omega (arith, word_is, none, no_update))))
        cases

    rest_len : length b.reclaiming.releases.items ≡ 1 + length b'.reclaiming.releases.items
    rest_len = ap (λ (xs : List ℕ). length xs) change.releases ∙ omega arith

    none_raised : b'.reclaiming.raised ≡ None
    none_raised = change.raised ∙ unraised

    one_raised : one_if b'.reclaiming.raised ≡ 0
    one_raised = ap (λ (x : Option DyingPlace). one_if x) none_raised

    no_raised : one_if b.reclaiming.raised ≡ 0
    no_raised = ap (λ (x : Option DyingPlace). one_if x) unraised

    no_zero : one_if b.reclaiming.zero_check ≡ 0
    no_zero = ap (λ (x : Option ℕ). one_if x) unchecked

    owed_still : (kind : Room → ℕ) → owed_sum b' kind ≡ owed_sum b kind
    owed_still = owed_same b b' change.flights

    moves : MovesCounts d b b' its (its.rfc - 1) (its.uc - 1)
    moves = record {
      here = subst (λ (x : ℕ). RecountsBalanced d its (its.rfc - 1) (its.uc - 1) (raised b' x) (added b' x) (dropped b' x)) (sym found.is.slot_is)
          balanced_after;
      others = λ x ne. record {
        raised_same = raised_still x;
        added_same = added_still x;
        dropped_same = dropped_other x
            (λ is. ne (is ∙ sym found.is.slot_is));
      };
      zero = λ none no_update. zero_now none no_update ∙ ap (λ (n : ℕ). Some n) (sym found.is.slot_is);
      zero_kept = λ x ne checked. absurd (some_none x b.reclaiming.zero_check unchecked checked);
      few = omega (arith, v.counts.few, rest_len, owed_still (λ room. room.releases), one_raised, no_raised);
    }

    -- what waits
    one_zero : IsZero → one_if b'.reclaiming.zero_check ≡ 1
    one_zero zero = ap (λ (x : Option ℕ). one_if x) zero.checked

    zero_none : IsSome → one_if b'.reclaiming.zero_check ≡ 0
    zero_none some = ap (λ (x : Option ℕ). one_if x) some.checked

    waits : b'.reclaiming.waiting + one_if b'.reclaiming.raised ≡ one_if b'.reclaiming.zero_check + 2 * length b'.reclaiming.releases.items + total
        d.geometry.inodes (dying_units d)
    waits = ⊎_elim
        (λ (zero : IsZero). omega (arith, v.reclaiming.waiting, zero.fell, one_zero zero, rest_len, one_raised, no_raised, no_zero))
        (λ (some : IsSome). omega (arith, v.reclaiming.waiting, some.fell, zero_none some, rest_len, one_raised, no_raised, no_zero)) cases

    checked_row : (x : ℕ) → b'.reclaiming.zero_check ≡ Some x → HasRow d x
    checked_row x at = ⊎_elim
        (λ (zero : IsZero). subst (HasRow d) (same_some slot x (sym zero.checked ∙ at)) found)
        (λ (some : IsSome). absurd (some_none x b'.reclaiming.zero_check some.checked at)) cases
      where
        same_some : (p q : ℕ) → Some p ≡ Some q → p ≡ q
        same_some p q is = cc

    -- the room
    units_still : units_to_share b'.sharing ≡ units_to_share b.sharing
    units_still = ap (λ (x : Option Sharing). units_to_share x) change.sharing

    changes_still : changes_to_share b'.sharing ≡ changes_to_share b.sharing
    changes_still = ap (λ (x : Option Sharing). changes_to_share x) change.sharing

    clean_still : units_to_clean b'.reclaiming.cleaning ≡ units_to_clean b.reclaiming.cleaning
    clean_still = ap (λ (x : Option Cleaning). units_to_clean x) change.kept.cleaning

    due_still : queue_to_clean b'.reclaiming.cleaning ≡ queue_to_clean b.reclaiming.cleaning
    due_still = ap (λ (x : Option Cleaning). queue_to_clean x) change.kept.cleaning

    owed_trace : b'.owed.trace ≡ b.owed.trace
    owed_trace = ap (λ (r : Room). r.trace) change.owed

    owed_history : b'.owed.history ≡ b.owed.history
    owed_history = ap (λ (r : Room). r.history) change.owed

    owed_queue : b'.owed.queue ≡ b.owed.queue
    owed_queue = ap (λ (r : Room). r.queue) change.owed

    owed_releases : b'.owed.releases ≡ b.owed.releases
    owed_releases = ap (λ (r : Room). r.releases) change.owed

    owes : Owes b'
    owes = record {
      units = ⊎_elim
          (λ (zero : IsZero). omega (
            arith,
            v.room.owes.units,
            owed_still (λ room. room.units),
            units_still,
            clean_still,
            one_raised,
            no_raised,
            no_zero,
            one_zero zero,
            zero.owed,
          ))
          (λ (some : IsSome). omega (
            arith,
            v.room.owes.units,
            owed_still (λ room. room.units),
            units_still,
            clean_still,
            one_raised,
            no_raised,
            no_zero,
            zero_none some,
            some.owed,
          )) cases;
      trace = omega (arith, v.room.owes.trace, owed_still (λ room. room.trace), changes_still, owed_trace);
      history = omega (arith, v.room.owes.history, owed_still (λ room. room.history), owed_history);
      queue = omega (arith, v.room.owes.queue, owed_still (λ room. room.queue), due_still, owed_queue);
      releases = omega (arith, v.room.owes.releases, owed_still (λ room. room.releases), one_raised, no_raised, owed_releases);
    }

    room : HasRoom b' u
    room = record {
      owes = owes;
      units = ⊎_elim (λ (zero : IsZero). omega (arith, zero.owed, units, spare)) (λ (some : IsSome). omega (arith, some.owed, units, spare)) cases;
      trace = omega (arith, trace_room, change.trace_len, change.trace_capacity, owed_trace);
      history = omega (arith, v.room.history, change.kept.history_len, change.kept.history_capacity, owed_history);
      queue = omega (arith, v.room.queue, change.kept.queue_room, owed_queue);
      releases = omega (arith, v.room.releases, change.len, change.capacity, owed_releases);
      names = omega (arith, v.room.names, change.kept.names_room, owed_history);
      places = λ who f c n flies is at. v.room.places who f c n (flies_before b b' change.flights who f flies) is
          (ap (λ (ns : List InodeState). slice_get ns f.ino) (sym change.kept.inodes) ∙ at);
    }

    pub release_event : CountEvent down 16 d b b' s u slot word its
    release_event = record {
      counted = counted;
      moves = moves;
      kept = change.kept;
      hands = hands_same b b' change.flights change.sharing change.kept.cleaning change.kept.inodes change.kept.queue;
      same = others_same b b' change.flights change.sharing change.kept.cleaning 16;
      ops = ops_same b b' change.flights;
      running = change.stopped;
      clients = ap (λ (fs : List (Option Flight)). length fs) change.flights;
      mine = λ f flies. absurd (no_client b 16 f v.flights.clients (omega arith) (flies_before b b' change.flights 16 f flies));
      shares = λ e. absurd (omega (arith, e));
      dying = λ ne. absurd (ne refl);
      raised = λ me p at. absurd (some_none p b'.reclaiming.raised none_raised at);
      waiting = waits;
      checked = checked_row;
      room = room;
      trace = change.trace;
      word_is = word_is;
      made = change.made;
    }
