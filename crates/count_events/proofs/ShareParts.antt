-- The daemon has settled a row: what it leaves of what is kept in memory.
use Rattle.std.proofs.Common.{
  ◌≡◌,
  ◌≢◌,
  ◌⊎◌,
  inl,
  inr,
  ⊎_elim,
  ℕ,
  ◌+◌,
  ◌*◌,
  ◌-◌,
  ◌^◌,
  ◌<◌,
  ◌≤◌,
  List,
  [],
  ◌∷◌,
  length,
  refl,
  sym,
  ◌∙◌,
  ap,
  subst,
  arith,
}
use Rattle.std.specs.Prelude.{slice_get, Option, Some, Contains, IsSome, vec_len, vec_capacity}
use Rattle.std.proofs.lemmas.Bool.{cases_eq}
use Rattle.pm_device.specs.State.{State}
use Rattle.dedupe_queue.specs.declared.Work.{Work}
use Rattle.dn_model.specs.Maps.{Mapping}
use Rattle.dn_model.specs.Table.{Row, row_of}
use Rattle.dn_model.specs.Disk.{Disk, maps, rows}
use Rattle.dn_model.specs.Counts.{total, mappings}
use Rattle.dn_model.specs.Own.{IsAlone, HasRow as PageHasRow}
use Rattle.law_table.specs.Changes.{recount}
use Rattle.law_table.proofs.Rows.{row_found, row_listed}
use Rattle.law_table.proofs.Counted.{recounts_rows}
use Rattle.law_table_on_disk.specs.CountLaws.{MayRecount}
use Rattle.law_table_on_disk.specs.BalanceLaws.{RecountsBalanced}
use Rattle.law_table_on_disk.proofs.Balanced.{settle_up_balance}
use Rattle.law_table_on_disk.proofs.Frame.{maps_same}
use Rattle.fact_table.specs.Table.{IsAtSlot, HasRow}
use Rattle.fact_counts.specs.Standing.{HasRowWith}
use Rattle.fact_counts.specs.Counted.{up, MaySettleUp, count_changed}
use Rattle.dn_volume.specs.declared.units.TheConstants.{END_UNITS, PLACE_UNITS, LOOK_UNITS, REMAP_UNITS}
use Rattle.dn_volume.specs.declared.flight.Flight.{Flight}
use Rattle.dn_volume.specs.declared.background.Sharing.{Sharing}
use Rattle.dn_volume.specs.declared.background.SharingStep.{SharingStep}
use Rattle.dn_volume.specs.declared.background.SharingStep.TheVariants.{Look}
use Rattle.dn_volume.specs.declared.background.DyingPlace.{DyingPlace}
use Rattle.dn_volume.specs.declared.background.Cleaning.{Cleaning}
use Rattle.dn_volume.specs.declared.volume.InodeState.{InodeState}
use Rattle.dn_volume.specs.declared.volume.Parts.{Parts}
use Rattle.dn_volume.specs.declared.volume.Room.{Room}
use Rattle.dn_volume.specs.Parties.{flight_at, Holds, by_client, by_daemon, by_cleaning, Takes, for_client, for_cleaning}
use Rattle.dn_volume.specs.Balance.{times, raised_by, raised_at, added_at, raised_to_share, added_to_share, raised_to_die, raised, added, dropped}
use Rattle.dn_volume.specs.Shares.{IsAtStep, IsBegun, IsSharing, IsToSettle, Shares, IsWaiting, in_queue, is_begun}
use Rattle.dn_volume.specs.Reclaims.{one_if}
use Rattle.dn_volume.specs.Reserve.{owed_sum, units_to_share, changes_to_share, units_spent, changes_spent, units_to_clean, queue_to_clean, Owes, HasRoom}
use Rattle.dn_volume.specs.Agrees.{IsVolume}
use Rattle.dn_volume.proofs.Kept.{ops_same}
use Rattle.dn_volume.proofs.Tables.{is_table}
use Rattle.count_events.specs.Released.{IsWordAfter}
use Rattle.count_events.specs.Shared.{IsAtSettle, SettlesShare}
use Rattle.dn_volume.proofs.CountsMoved.{MovesCounts}
use Rattle.dn_volume.proofs.Hands.{SameHands}
use Rattle.dn_volume.proofs.HandsKept.{flies_still, flies_before, owed_same}
use Rattle.count_events.proofs.Event.{CountsOne, CountEvent}
use Rattle.dn_volume.proofs.Times.{times_first, times_other}
use Rattle.dn_volume.proofs.RowSlots.{balance_at}
use Rattle.dn_volume.proofs.Times.{times-le}
use Rattle.dn_volume.proofs.FewMappings.{mappings_few}
use Rattle.count_events.proofs.Settled.{no_client}

pub same_sharing : (b : Parts) (x y : Sharing) → b.sharing ≡ Some x → b.sharing ≡ Some y → x ≡ y
same_sharing b x y here there = same b.sharing here there
  where
    same : (r : Option Sharing) → r ≡ Some x → r ≡ Some y → x ≡ y
    same r is at = cc

module _ (d : Disk) (b : Parts) (s : State) (v : IsVolume d b s) (slot : ℕ) (to : IsAtSettle b slot) where
  abbrev its_item : Sharing
  its_item = to.sharing

  pub to_settle : IsToSettle d to.sharing slot
  to_settle = subst (IsAtStep d to.sharing) to.step (v.sharing to.sharing to.begun).step

  pub settle_row : HasRow d slot
  settle_row = record { row = to_settle.row; is = to_settle.at_slot }

  pub settle_some : to.sharing.done < to.sharing.count
  settle_some = to_settle.some

  added_one : (x : ℕ) → added b x ≡ times x (slot ∷ [])
  added_one x = ap (λ (r : Option Sharing). times x (added_to_share r)) to.begun ∙ ap (λ (st : SharingStep). times x (added_at st)) to.step

  raised_none : (x : ℕ) → times x (raised_to_share b.sharing) ≡ 0
  raised_none x = ap (λ (r : Option Sharing). times x (raised_to_share r)) to.begun ∙ ap (λ (st : SharingStep). times x (raised_at st)) to.step

  added_here : added b slot ≡ 1
  added_here = added_one slot ∙ times_first slot []

  pub settle_may : (row : Row) → IsAtSlot d slot row → MaySettleUp row
  settle_may row is =
      let balance = balance_at d b s v slot row is in
      let few = mappings_few d row.page in
      let most = times-le slot b.reclaiming.releases.items in (
        omega (arith, balance.updates, added_here),
        fits row.rfc (mappings d row.page) d.geometry.inodes (times slot b.reclaiming.releases.items) (length b.reclaiming.releases.items)
            (owed_sum b (λ room. room.releases)) (one_if b.reclaiming.raised) (added b slot)
            balance.references few most v.counts.few v.fast.valid.accepted.few_inodes,
      )
    where
      fits : (rfc maps inodes z len sum one a : ℕ) → maps + z ≡ rfc + a → maps ≤ inodes * 4096 → z ≤ len → len + sum + one ≤ 1105920 → inodes ≤ 4096
          → rfc + 1 < 2 ^ 32
      fits rfc maps inodes z len sum one a refs few most all inodes_few = omega (arith, refs, few, most, all, inodes_few)

  pub settle_with : HasRowWith s.now b.fact slot MaySettleUp
  settle_with = record {
    disk = d;
    table = is_table d b s v;
    row = to_settle.row;
    at_slot = to_settle.at_slot;
    has = settle_may to_settle.row
        to_settle.at_slot;
  }

  pub settle_recounts : MayRecount d to_settle.row (to_settle.row.rfc + 1) (to_settle.row.uc - 1)
  settle_recounts =
      let balance = balance_at d b s v slot to_settle.row to_settle.at_slot in
      (settle_up_balance d to_settle.row v.fast.valid to_settle.at_slot.there (raised b slot) 0 (dropped b slot)
      (record { updates = omega (arith, balance.updates, added_here); references = omega (arith, balance.references, added_here) })
      (settle_may to_settle.row to_settle.at_slot).1).may

  -- what it is owed is there
  units_was : units_to_share b.sharing ≡ END_UNITS + PLACE_UNITS * (to.sharing.count - to.sharing.done) - (LOOK_UNITS + REMAP_UNITS)
  units_was = ap (λ (r : Option Sharing). units_to_share r) to.begun ∙ ap (λ (st : SharingStep). END_UNITS + PLACE_UNITS
      * (to.sharing.count - to.sharing.done) - units_spent st) to.step

  changes_was : changes_to_share b.sharing ≡ 2 * (to.sharing.count - to.sharing.done) - 1
  changes_was = ap (λ (r : Option Sharing). changes_to_share r) to.begun ∙ ap (λ (st : SharingStep). 2 * (to.sharing.count - to.sharing.done)
      - changes_spent st) to.step

  pub share_owes_units : 3 ≤ b.owed.units
  share_owes_units = omega (arith, v.room.owes.units, units_was, settle_some)

  pub share_owes_change : 1 ≤ b.owed.trace
  share_owes_change = omega (arith, v.room.owes.trace, changes_was, settle_some)

  pub share_has_trace : vec_len b.trace < vec_capacity b.trace
  share_has_trace = omega (arith, share_owes_change, v.room.trace)

  pub share_has_units : 3 ≤ s.spare
  share_has_units = omega (arith, share_owes_units, v.room.units)

  module _ (b' : Parts) (u : State) (word : ℕ) (change : SettlesShare slot word b b') where
    abbrev now : Sharing
    now = record its_item { done = to.sharing.done + 1; step = Look }

    now_is : b'.sharing ≡ Some now
    now_is = change.sharing to.sharing to.begun

    abbrev row : Row
    row = to_settle.row

    abbrev at_slot : IsAtSlot d slot row
    at_slot = to_settle.at_slot

    -- what is under way
    flown_same : (x : ℕ) → total 14 (λ k. times x (raised_by (flight_at b'.flights.items k))) ≡ total 14
        (λ k. times x (raised_by (flight_at b.flights.items k)))
    flown_same x = ap (λ (fs : List (Option Flight)). total 14 (λ k. times x (raised_by (flight_at fs k)))) change.flights

    raised_now : (x : ℕ) → times x (raised_to_share b'.sharing) ≡ 0
    raised_now x = ap (λ (r : Option Sharing). times x (raised_to_share r)) now_is

    added_now : (x : ℕ) → added b' x ≡ 0
    added_now x = ap (λ (r : Option Sharing). times x (added_to_share r)) now_is

    raised_still : (x : ℕ) → raised b' x ≡ raised b x
    raised_still x =
        let died : times x (raised_to_die b'.reclaiming.raised) ≡ times x (raised_to_die b.reclaiming.raised) = ap
        (λ (r : Option DyingPlace). times x (raised_to_die r)) change.raised in
        omega (arith, flown_same x, raised_now x, raised_none x, died)

    added_other : (x : ℕ) → x ≢ slot → added b' x ≡ added b x
    added_other x ne = added_now x ∙ sym (added_one x ∙ times_other x slot [] ne)

    dropped_still : (x : ℕ) → dropped b' x ≡ dropped b x
    dropped_still x = ap (times x) change.releases

    balanced_after : RecountsBalanced d row (row.rfc + 1) (row.uc - 1) (raised b' slot) (added b' slot) (dropped b' slot)
    balanced_after =
        let balance = balance_at d b s v slot row at_slot in
        settle_up_balance d row v.fast.valid at_slot.there (raised b' slot) (added b' slot) (dropped b' slot)
        (record {
          updates = omega (arith, balance.updates, raised_still slot, added_here, added_now slot, dropped_still slot);
          references = omega (arith, balance.references, added_here, added_now slot, dropped_still slot);
        }) (settle_may row at_slot).1

    one_raised : one_if b'.reclaiming.raised ≡ one_if b.reclaiming.raised
    one_raised = ap (λ (x : Option DyingPlace). one_if x) change.raised

    one_zero : one_if b'.reclaiming.zero_check ≡ one_if b.reclaiming.zero_check
    one_zero = ap (λ (x : Option ℕ). one_if x) change.zero_check

    long_still : length b'.reclaiming.releases.items ≡ length b.reclaiming.releases.items
    long_still = ap (λ (xs : List ℕ). length xs) change.releases

    owed_still : (kind : Room → ℕ) → owed_sum b' kind ≡ owed_sum b kind
    owed_still = owed_same b b' change.flights

    moves : MovesCounts d b b' row (row.rfc + 1) (row.uc - 1)
    moves = record {
      here = subst (λ (x : ℕ). RecountsBalanced d row (row.rfc + 1) (row.uc - 1) (raised b' x) (added b' x) (dropped b' x)) (sym at_slot.slot_is)
          balanced_after;
      others = λ x ne. record {
        raised_same = raised_still x;
        added_same = added_other x (λ is. ne (is ∙ sym at_slot.slot_is));
        dropped_same = dropped_still x;
      };
      zero = λ none no_update. absurd (omega (arith, none));
      zero_kept = λ x ne checked. change.zero_check ∙ checked;
      few = omega (arith, v.counts.few, long_still, owed_still (λ room. room.releases), one_raised);
    }

    -- who holds and waits
    holds_still : (who ino : ℕ) → Holds b who ino → Holds b' who ino
    holds_still who ino (by_client f flies has) = by_client f (flies_still b b' change.flights who f flies) has
    holds_still who ino (by_daemon item him is same) = by_daemon now him now_is
        (ap (λ (x : Sharing). x.work.ino) (same_sharing b to.sharing item to.begun is) ∙ same)
    holds_still who ino (by_cleaning c him is same) = by_cleaning c him (change.kept.cleaning ∙ is) same

    same_now : (item : Sharing) → b'.sharing ≡ Some item → now ≡ item
    same_now item is = same_sharing b' now item now_is is

    holds_before : (who ino : ℕ) → Holds b' who ino → Holds b who ino
    holds_before who ino (by_client f flies has) = by_client f (flies_before b b' change.flights who f flies) has
    holds_before who ino (by_daemon item him is same) = by_daemon to.sharing him to.begun (ap (λ (x : Sharing). x.work.ino) (same_now item is) ∙ same)
    holds_before who ino (by_cleaning c him is same) = by_cleaning c him (sym change.kept.cleaning ∙ is) same

    takes_still : (who page : ℕ) → Takes b who page → Takes b' who page
    takes_still who page (for_client f flies has) = for_client f (flies_still b b' change.flights who f flies) has
    takes_still who page (for_cleaning c him is has) = for_cleaning c him (change.kept.cleaning ∙ is) has

    takes_before : (who page : ℕ) → Takes b' who page → Takes b who page
    takes_before who page (for_client f flies has) = for_client f (flies_before b b' change.flights who f flies) has
    takes_before who page (for_cleaning c him is has) = for_cleaning c him (sym change.kept.cleaning ∙ is) has

    waits_still : (ino at : ℕ) → IsWaiting b ino at → IsWaiting b' ino at
    waits_still ino at (in_queue work n has of_ino of_slot is round) =
        in_queue work n (subst (λ (ws : List Work). Contains ws work) (sym change.kept.queue) has) of_ino of_slot
        (ap (λ (ns : List InodeState). slice_get ns ino) change.kept.inodes ∙ is) round
    waits_still ino at (is_begun item is of_ino of_slot) =
        let same = same_sharing b to.sharing item to.begun is in
        is_begun now now_is (ap (λ (x : Sharing). x.work.ino) same ∙ of_ino) (ap (λ (x : Sharing). x.work.slot) same ∙ of_slot)

    hands : SameHands b b'
    hands = record { holds = holds_still; held = holds_before; takes = takes_still; taken = takes_before; waits = waits_still }

    -- the item, one place further
    abbrev e : Disk
    e = count_changed up d slot row

    has_still : (page : ℕ) → PageHasRow d page → PageHasRow e page
    has_still page some =
        let found = row_listed (rows d) page some in
        subst (λ (p : ℕ). IsSome (row_of (rows e) p)) found.2 (row_found (rows e) (recount slot (row.rfc + 1) (row.uc - 1) found.0)
        ((recounts_rows d slot (row.rfc + 1) (row.uc - 1)).kept found.0 found.1))

    begun_was : IsBegun d to.sharing
    begun_was = (v.sharing to.sharing to.begun).begun

    some_same : (p q : Mapping) → Some p ≡ Some q → p ≡ q
    some_same p q is = cc

    done_more : (i : ℕ) (m : Mapping) → i < to.sharing.done + 1 → maps d to.sharing.work.ino (to.sharing.first + i) ≡ Some m
        → m.slot ≡ to.sharing.work.slot → IsAlone m ⊎ PageHasRow e m.block
    done_more i m lt mapped by_item = elim (cases_eq i to.sharing.done) [
      | inl here ↦
          let same : to_settle.by ≡ m = some_same to_settle.by m
          (sym to_settle.mapped ∙ ap (λ (n : ℕ). maps d to.sharing.work.ino (to.sharing.first + n)) (sym here) ∙ mapped) in
          inr (has_still m.block (subst (PageHasRow d) (sym to_settle.on_page ∙ ap (λ (x : Mapping). x.block) same)
          (row_found (rows d) row at_slot.there)))
      | inr there ↦ ⊎_elim (λ alone. inl alone) (λ has. inr (has_still m.block has)) (begun_was.done_so i m (omega (arith, lt, there)) mapped by_item)
    ]

    item_now : IsSharing e now
    item_now = record {
      begun = record {
        file = begun_was.file;
        in_table = begun_was.in_table;
        live = begun_was.live;
        block = begun_was.block;
        size = begun_was.size;
        mask = begun_was.mask;
        item = begun_was.item;
        done_few = omega (arith, settle_some);
        done_so = λ i m lt mapped by_item. done_more i m lt (sym (maps_same d e.chain e.pointer to.sharing.work.ino (to.sharing.first + i)) ∙ mapped)
            by_item;
      };
      step = omega (arith, settle_some);
    }

    shares : Shares e b'
    shares item is = subst (IsSharing e) (same_now item is) item_now

    -- the room
    units_now : units_to_share b'.sharing ≡ END_UNITS + PLACE_UNITS * (to.sharing.count - (to.sharing.done + 1)) - 0
    units_now = ap (λ (r : Option Sharing). units_to_share r) now_is

    changes_now : changes_to_share b'.sharing ≡ 2 * (to.sharing.count - (to.sharing.done + 1)) - 0
    changes_now = ap (λ (r : Option Sharing). changes_to_share r) now_is

    clean_still : units_to_clean b'.reclaiming.cleaning ≡ units_to_clean b.reclaiming.cleaning
    clean_still = ap (λ (x : Option Cleaning). units_to_clean x) change.kept.cleaning

    due_still : queue_to_clean b'.reclaiming.cleaning ≡ queue_to_clean b.reclaiming.cleaning
    due_still = ap (λ (x : Option Cleaning). queue_to_clean x) change.kept.cleaning

    owed_units : b'.owed.units ≡ b.owed.units - 3
    owed_units = ap (λ (r : Room). r.units) change.owed

    owed_trace : b'.owed.trace ≡ b.owed.trace - 1
    owed_trace = ap (λ (r : Room). r.trace) change.owed

    owed_history : b'.owed.history ≡ b.owed.history
    owed_history = ap (λ (r : Room). r.history) change.owed

    owed_queue : b'.owed.queue ≡ b.owed.queue
    owed_queue = ap (λ (r : Room). r.queue) change.owed

    owed_releases : b'.owed.releases ≡ b.owed.releases
    owed_releases = ap (λ (r : Room). r.releases) change.owed

    owes : Owes b'
    owes = record {
      units = omega (arith, v.room.owes.units, owed_still (λ room. room.units), units_was, units_now, clean_still, settle_some, one_raised, one_zero, owed_units);
      trace = omega (arith, v.room.owes.trace, owed_still (λ room. room.trace), changes_was, changes_now, settle_some, owed_trace);
      history = omega (arith, v.room.owes.history, owed_still (λ room. room.history), owed_history);
      queue = omega (arith, v.room.owes.queue, owed_still (λ room. room.queue), due_still, owed_queue);
      releases = omega (arith, v.room.owes.releases, owed_still (λ room. room.releases), one_raised, owed_releases);
    }

    module _ (spare : s.spare ≤ u.spare + 3) (counted : CountsOne up 15 d b s u slot row) (is_word : IsWordAfter up s.now b.fact slot word) where
      room : HasRoom b' u
      room = record {
        owes = owes;
        units = omega (arith, v.room.units, owed_units, spare, share_owes_units);
        trace = omega (arith, v.room.trace, change.trace_len, change.trace_capacity, owed_trace, share_owes_change);
        history = omega (arith, v.room.history, change.kept.history_len, change.kept.history_capacity, owed_history);
        queue = omega (arith, v.room.queue, change.kept.queue_room, owed_queue);
        releases = omega (arith, v.room.releases, change.len, change.capacity, owed_releases);
        names = omega (arith, v.room.names, change.kept.names_room, owed_history);
        places = λ who f c n flies is at. v.room.places who f c n (flies_before b b' change.flights who f flies) is
            (ap (λ (ns : List InodeState). slice_get ns f.ino) (sym change.kept.inodes) ∙ at);
      }

      pub share_event : CountEvent up 15 d b b' s u slot word row
      share_event = record {
        counted = counted;
        moves = moves;
        kept = change.kept;
        hands = hands;
        same = record {
          flights = λ q some ne. ap (λ (fs : List (Option Flight)). flight_at fs (q - 1)) change.flights;
          sharing = λ ne. absurd
              (ne refl);
          cleaning = λ ne. change.kept.cleaning;
        };
        ops = ops_same b b' change.flights;
        running = change.stopped;
        clients = ap (λ (fs : List (Option Flight)). length fs) change.flights;
        mine = λ f flies. absurd (no_client b 15 f v.flights.clients (omega arith) (flies_before b b' change.flights 15 f flies));
        shares = λ is. shares;
        dying = λ ne. change.raised;
        raised = λ is. absurd (omega (arith, is));
        waiting = omega (arith, v.reclaiming.waiting, change.waiting, one_raised, one_zero, long_still);
        checked = λ x at. v.reclaiming.zero_check x (sym change.zero_check ∙ at);
        room = room;
        trace = change.trace;
        word_is = is_word d row (is_table d b s v) at_slot;
        made = change.made;
      }
