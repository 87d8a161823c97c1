-- The row of the page of a dying inode's last place was raised.
use Rattle.std.proofs.Common.{◌≡◌, ℕ, ◌+◌, ◌≤◌, false, List, [], ◌∷◌, length, refl, sym, ◌∙◌, ap, subst, arith}
use Rattle.std.specs.Prelude.{slice_get, Option, Some, None, vec_len, vec_capacity}
use Rattle.std.specs.VecDeque.{deque_len, deque_capacity}
use Rattle.pm_device.specs.State.{State, Agree, Rose}
use Rattle.pm_device.specs.Settled.{StoresOnly, KeepsFlushed, Others, SettlesAll}
use Rattle.pm_layout.specs.Geometry.{slot_word}
use Rattle.dn_model.specs.Table.{Row}
use Rattle.dn_model.specs.Disk.{Disk}
use Rattle.dn_model.specs.Counts.{total}
use Rattle.dn_model.specs.Own.{Print}
use Rattle.law_table_on_disk.specs.BalanceLaws.{RecountsBalanced}
use Rattle.law_table_on_disk.proofs.Balanced.{raise_balance}
use Rattle.law_table.specs.Changes.{recount}
use Rattle.law_table.proofs.Counted.{recounts_rows}
use Rattle.law_table_on_disk.proofs.Frame.{maps_same}
use Rattle.fact_counts.specs.Standing.{HasRowWith}
use Rattle.fact_counts.specs.Counted.{raised as raised_counts, MayRaise, LeavesTables, SettlesTable, count_changed}
use Rattle.dn_volume.specs.declared.units.TheConstants.{FALL_UNITS}
use Rattle.count_events.specs.declared.release.TheConstants.{RELEASE_UNITS}
use Rattle.dn_volume.specs.declared.flight.Flight.{Flight}
use Rattle.dn_volume.specs.declared.background.Sharing.{Sharing}
use Rattle.dn_volume.specs.declared.background.DyingPlace.{DyingPlace}
use Rattle.dn_volume.specs.declared.volume.InodeState.{InodeState}
use Rattle.dn_volume.specs.declared.volume.Parts.{Parts}
use Rattle.dn_volume.specs.declared.volume.Room.{Room}
use Rattle.dn_volume.specs.declared.volume.Volume.{Volume}
use Rattle.dn_volume.specs.Balance.{times, raised_by, raised_to_share, raised_to_die, raised, added, dropped}
use Rattle.dn_volume.specs.Parties.{flight_at}
use Rattle.dn_volume.specs.Reclaims.{one_if, IsRaised}
use Rattle.dn_volume.specs.Reserve.{owed_sum, units_to_share, changes_to_share, units_to_clean, queue_to_clean, HasRoom}
use Rattle.dn_volume.specs.Agrees.{IsVolume, Agrees}
use Rattle.dn_volume.specs.Events.{MovesOn, Breaks}
use Rattle.dn_volume.specs.Works.{ReleaseLowers, cleaning_events}
use Rattle.dn_volume.proofs.CountsMoved.{MovesCounts}
use Rattle.dn_volume.proofs.FewReleases.{dying_few}
use Rattle.dn_volume.proofs.HandsKept.{hands_same, others_same, owed_same, added_same, flies_before}
use Rattle.dn_volume.proofs.Kept.{ops_same}
use Rattle.dn_volume.proofs.RowSlots.{balance_at}
use Rattle.dn_volume.proofs.Tables.{is_table, running_disk}
use Rattle.dn_volume.proofs.Times.{times_first, times_other}
use Rattle.count_events.specs.Released.{Stops, IsWordAfter}
use Rattle.reclaim.specs.RoomMade.{HasRoomFor}
use Rattle.reclaim.specs.Worked.{RaisesPlace}
use Rattle.count_events.proofs.Event.{CountsOne, CountEvent, event_moves, event_breaks}
use Rattle.count_events.proofs.RowsHere.{may_raise}
use Rattle.count_events.proofs.Settled.{no_client}
use Rattle.count_events.proofs.UsedPages.{used_same}
use Rattle.reclaim.proofs.UnitsLost.{units_dying, units_some}

same_place : (p q : DyingPlace) (r : Option DyingPlace) → r ≡ Some p → r ≡ Some q → p ≡ q
same_place p q r a b = cc

module _ (d : Disk) (b b' : Parts) (s u : State) (v : IsVolume d b s) (p : DyingPlace) (word : ℕ) (at : IsRaised d p)
    (change : RaisesPlace p word b b') (unraised : b.reclaiming.raised ≡ None)
    (none_wait : b.reclaiming.releases.items ≡ []) where
  abbrev row : Row
  row = at.row

  abbrev e : Disk
  e = count_changed raised_counts d p.slot row

  raised_more : (slot : ℕ) → raised b' slot ≡ raised b slot + times slot (p.slot ∷ [])
  raised_more slot =
      let flown : total 14 (λ k. times slot (raised_by (flight_at b'.flights.items k))) ≡ total 14 (λ k. times slot (raised_by (flight_at b.flights.items k))) =
      ap (λ (fs : List (Option Flight)). total 14 (λ k. times slot (raised_by (flight_at fs k)))) change.flights in
      let shared : times slot (raised_to_share b'.sharing) ≡ times slot (raised_to_share b.sharing) = ap
      (λ (x : Option Sharing). times slot (raised_to_share x)) change.sharing in
      let now : times slot (raised_to_die b'.reclaiming.raised) ≡ times slot (p.slot ∷ []) = ap
      (λ (r : Option DyingPlace). times slot (raised_to_die r)) change.raised in
      let was : times slot (raised_to_die b.reclaiming.raised) ≡ 0 = ap (λ (r : Option DyingPlace). times slot (raised_to_die r)) unraised in
      omega (arith, flown, shared, now, was)

  added_still : (slot : ℕ) → added b' slot ≡ added b slot
  added_still = added_same b b' change.flights change.sharing

  dropped_still : (slot : ℕ) → dropped b' slot ≡ dropped b slot
  dropped_still slot = ap (λ (r : _). times slot r.items) change.releases

  here : RecountsBalanced d row row.rfc (row.uc + 1) (raised b' p.slot) (added b' p.slot) (dropped b' p.slot)
  here =
      let balance = balance_at d b s v p.slot row at.at_slot in
      let was = raise_balance d row v.fast.valid at.at_slot.there (raised b p.slot) (added b p.slot) (dropped b p.slot) balance
      (may_raise d b s v p.slot row at.at_slot) in
      record {
        may = was.may;
        balanced = record {
          updates = omega (arith, was.balanced.updates, raised_more p.slot, times_first p.slot [], added_still p.slot, dropped_still p.slot);
          references = omega (arith, was.balanced.references, added_still p.slot, dropped_still p.slot);
        };
      }

  one_now : one_if b'.reclaiming.raised ≡ 1
  one_now = ap (λ (r : Option DyingPlace). one_if r) change.raised

  none_was : one_if b.reclaiming.raised ≡ 0
  none_was = ap (λ (r : Option DyingPlace). one_if r) unraised

  zero_same : one_if b'.reclaiming.zero_check ≡ one_if b.reclaiming.zero_check
  zero_same = ap (λ (r : Option ℕ). one_if r) change.zero_check

  long_same : length b'.reclaiming.releases.items ≡ length b.reclaiming.releases.items
  long_same = ap (λ (r : _). length r.items) change.releases

  owed_still : (kind : Room → ℕ) → owed_sum b' kind ≡ owed_sum b kind
  owed_still = owed_same b b' change.flights

  moves : MovesCounts d b b' row row.rfc (row.uc + 1)
  moves = record {
    here = subst (λ (x : ℕ). RecountsBalanced d row row.rfc (row.uc + 1) (raised b' x) (added b' x) (dropped b' x)) (sym at.at_slot.slot_is) here;
    others = λ x ne. record {
      raised_same = let none = times_other x p.slot [] (λ same. ne (same ∙ sym at.at_slot.slot_is)) in omega (arith, raised_more x, none);
      added_same = added_still x;
      dropped_same = dropped_still x;
    };
    zero = λ none no_update. absurd (omega (arith, no_update));
    zero_kept = λ x ne is. change.zero_check ∙ is;
    few = omega (arith, dying_few d b s v none_wait, long_same, owed_still (λ room. room.releases), one_now);
  }

  -- the place is the one that is raised
  still_raised : IsRaised e p
  still_raised = record {
    in_table = at.in_table;
    before = at.before;
    dying = at.dying;
    by = at.by;
    mapped = maps_same d e.chain e.pointer p.ino p.place ∙ at.mapped;
    greatest = λ idx low high. maps_same d e.chain e.pointer p.ino idx ∙ at.greatest idx low high;
    row = recount p.slot row.rfc (row.uc + 1) row;
    at_slot = record { there = (recounts_rows d p.slot row.rfc (row.uc + 1)).kept row at.at_slot.there; slot_is = at.at_slot.slot_is };
    page = at.page;
  }

  module _ (counted : CountsOne raised_counts 16 d b s u p.slot row) (is_word : IsWordAfter raised_counts s.now b.fact p.slot word)
      (units : b.owed.units + RELEASE_UNITS ≤ s.spare) (spare : s.spare ≤ u.spare + 3)
      (trace_room : vec_len b.trace + b.owed.trace + 1 ≤ vec_capacity b.trace) (release_room : deque_len b.reclaiming.releases + b.owed.releases + 1 ≤
      deque_capacity b.reclaiming.releases) where
    owed_units : b'.owed.units ≡ b.owed.units + FALL_UNITS
    owed_units = ap (λ (r : Room). r.units) change.owed

    owed_trace : b'.owed.trace ≡ b.owed.trace
    owed_trace = ap (λ (r : Room). r.trace) change.owed

    owed_history : b'.owed.history ≡ b.owed.history
    owed_history = ap (λ (r : Room). r.history) change.owed

    owed_queue : b'.owed.queue ≡ b.owed.queue
    owed_queue = ap (λ (r : Room). r.queue) change.owed

    owed_releases : b'.owed.releases ≡ b.owed.releases + 1
    owed_releases = ap (λ (r : Room). r.releases) change.owed

    units_still : units_to_share b'.sharing ≡ units_to_share b.sharing
    units_still = ap (λ (x : Option Sharing). units_to_share x) change.sharing

    changes_still : changes_to_share b'.sharing ≡ changes_to_share b.sharing
    changes_still = ap (λ (x : Option Sharing). changes_to_share x) change.sharing

    clean_still : units_to_clean b'.reclaiming.cleaning ≡ units_to_clean b.reclaiming.cleaning
    clean_still = ap (λ (x : _). units_to_clean x) change.kept.cleaning

    due_still : queue_to_clean b'.reclaiming.cleaning ≡ queue_to_clean b.reclaiming.cleaning
    due_still = ap (λ (x : _). queue_to_clean x) change.kept.cleaning

    room : HasRoom b' u
    room = record {
      owes = record {
        units = omega (arith, v.room.owes.units, owed_still (λ room. room.units), units_still, clean_still, one_now, none_was, zero_same, owed_units);
        trace = omega (arith, v.room.owes.trace, owed_still (λ room. room.trace), changes_still, owed_trace);
        history = omega (arith, v.room.owes.history, owed_still (λ room. room.history), owed_history);
        queue = omega (arith, v.room.owes.queue, owed_still (λ room. room.queue), due_still, owed_queue);
        releases = omega (arith, v.room.owes.releases, owed_still (λ room. room.releases), one_now, none_was, owed_releases);
      };
      units = omega (arith, owed_units, units, spare);
      trace = omega (arith, trace_room, change.trace_len, change.trace_capacity, owed_trace);
      history = omega (arith, v.room.history, change.kept.history_len, change.kept.history_capacity, owed_history);
      queue = omega (arith, v.room.queue, change.kept.queue_room, owed_queue);
      releases = let len = ap (λ (r : _). deque_len r) change.releases in let capacity = ap (λ (r : _). deque_capacity r) change.releases in
          omega (arith, release_room, len, capacity, owed_releases);
      names = omega (arith, v.room.names, change.kept.names_room, owed_history);
      places = λ who f c n flies is there. v.room.places who f c n (flies_before b b' change.flights who f flies) is
          (ap (λ (ns : List InodeState). slice_get ns f.ino) (sym change.kept.inodes) ∙ there);
    }

    pub place_event : CountEvent raised_counts 16 d b b' s u p.slot word row
    place_event = record {
      counted = counted;
      moves = moves;
      kept = change.kept;
      hands = hands_same b b' change.flights change.sharing change.kept.cleaning change.kept.inodes change.kept.queue;
      same = others_same b b' change.flights change.sharing change.kept.cleaning 16;
      ops = ops_same b b' change.flights;
      running = change.stopped;
      clients = ap (λ (fs : List (Option Flight)). length fs) change.flights;
      mine = λ f flies. absurd (no_client b 16 f v.flights.clients (omega arith) (flies_before b b' change.flights 16 f flies));
      shares = λ same. absurd (omega (arith, same));
      dying = λ ne. absurd (ne refl);
      raised = λ me q is. subst (IsRaised e) (same_place p q b'.reclaiming.raised change.raised is) still_raised;
      waiting = omega (arith, v.reclaiming.waiting, change.waiting, one_now, none_was, zero_same, long_same);
      checked = λ x is. v.reclaiming.zero_check x (sym change.zero_check ∙ is);
      room = room;
      trace = change.trace;
      word_is = is_word d row (is_table d b s v) at.at_slot;
      made = change.made;
    }

-- from what the calls give
module _ {D F : Type 0} (state : D → State) (w : Volume D F) (p : DyingPlace) (place : (d : Disk) → IsVolume d w.parts (state w.device)
    → IsRaised d p) where
  pub place_row : Agrees state w → w.parts.stopped ≡ false → HasRowWith (state w.device).now w.parts.fact p.slot MayRaise
  place_row agrees running =
      let found = running_disk state w running agrees in
      let at = place found.0 found.1 in
      record {
        disk = found.0;
        table = is_table found.0 w.parts (state w.device) found.1;
        row = at.row;
        at_slot = at.at_slot;
        has = may_raise found.0
            w.parts (state w.device) found.1 p.slot at.row at.at_slot;
      }

  pub place_waits : Agrees state w → w.parts.stopped ≡ false → w.parts.reclaiming.raised ≡ None → 1 ≤ w.parts.reclaiming.waiting
  place_waits agrees running unraised =
      let found = running_disk state w running agrees in
      let at = place found.0 found.1 in
      let none : one_if w.parts.reclaiming.raised ≡ 0 = ap (λ (r : Option DyingPlace). one_if r) unraised in
      omega (arith, found.1.reclaiming.waiting, none, units_some found.0 p.ino at.in_table, units_dying found.0 p.ino at.before at.dying)

  module _ (w' : Volume D F) (only : StoresOnly (λ a. a ≡ slot_word w.parts.fact.geometry p.slot 4) (state w.device) (state w'.device))
      (agree : Agree (state w'.device).now (state w'.device).past)
      (leaves : LeavesTables raised_counts w.parts.fact p.slot (state w.device) (state w'.device))
      (faults : (state w.device).faults ≤ (state w'.device).faults) where
    pub place_fails : Stops w.parts w'.parts → (print : Print) (d : Disk) → IsVolume d w.parts (state w.device) → Rose (state w.device).faults
        (state w'.device).faults → Breaks state print 16 None w w' d
    place_fails stops print d v rose =
        let at = place d v in
        let balance = balance_at d w.parts (state w.device) v p.slot at.row at.at_slot in
        let may = (raise_balance d at.row v.fast.valid at.at_slot.there (raised w.parts p.slot) (added w.parts p.slot) (dropped w.parts p.slot)
        balance (may_raise d w.parts (state w.device) v p.slot at.row at.at_slot)).may in
        event_breaks state print raised_counts 16 w w' d p.slot 0 at.row v at.at_slot may stops only agree leaves faults rose

    module _ (word : ℕ) (change : RaisesPlace p word w.parts w'.parts) (unraised : w.parts.reclaiming.raised ≡ None)
        (none_wait : deque_len w.parts.reclaiming.releases ≡ 0)
        (settles : SettlesTable raised_counts w.parts.fact p.slot (state w.device) (state w'.device))
        (own : SettlesAll 16 (state w.device) (state w'.device))
        (others : KeepsFlushed (Others 16) (λ a. a ≡ slot_word w.parts.fact.geometry p.slot 4) (state w.device) (state w'.device))
        (is_word : IsWordAfter raised_counts (state w.device).now w.parts.fact p.slot word)
        (room : HasRoomFor state w) (spare : (state w.device).spare ≤ (state w'.device).spare + 3) where
      no_items : w.parts.reclaiming.releases.items ≡ []
      no_items = empty w.parts.reclaiming.releases.items (omega (arith, none_wait, w.parts.reclaiming.releases.ok.0))
        where
          empty : (xs : List ℕ) → length xs ≡ 0 → xs ≡ []
          empty [] none = refl
          empty (x ∷ xs) none = absurd (omega (arith, none))

      pub place_moves : (print : Print) (d : Disk) → IsVolume d w.parts (state w.device) → MovesOn state print 16 w w' d
      place_moves print d v =
          let at = place d v in
          event_moves state print raised_counts 16 w w' d p.slot word at.row v agree
          (place_event d w.parts w'.parts (state w.device) (state w'.device) v p word at change unraised no_items
          (record { at_slot = at.at_slot; only = only; leaves = leaves; settles = settles; own = own; others = others; faults = faults }) is_word
          room.units spare room.trace room.releases)

-- less work is left
pub place_lowers : (b b' : Parts) (p : DyingPlace) (word left : ℕ) → RaisesPlace p word b b'
    → left ≡ b'.reclaiming.waiting + cleaning_events b'.reclaiming.cleaning → ReleaseLowers b b' left
place_lowers b b' p word left change told = record {
  left_is = told;
  less = omega (arith, change.waiting);
  cleaning = change.kept.cleaning;
  sharing = change.sharing;
  queue = change.kept.queue;
  pages = used_same b b' change.kept.free change.kept.cleaning;
}
