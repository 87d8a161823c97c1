-- The event of a row that comes in: the volume of after.
use Rattle.std.proofs.Common.{◌≡◌, ◌≢◌, inl, inr, ⊎_elim, ℕ, ◌+◌, ◌-◌, ◌<◌, ◌≤◌, Bool, true, List, [], ◌∷◌, length, refl, sym, ◌∙◌, ap, subst, arith}
use Rattle.std.specs.Prelude.{Option, Some, IsSome, All, Contains, if◌then◌else◌}
use Rattle.std.specs.FinMap.{FinMap}
use Rattle.std.specs.Ordering.{nat_cmp}
use Rattle.std.specs.Cmp.Lexicographic.{slice_cmp}
use Rattle.std.proofs.lemmas.Bool.{cases_eq}
use Rattle.std.proofs.lemmas.List.Elements.{All-push}
use Rattle.pm_device.specs.State.{State}
use Rattle.pm_device.specs.Settled.{StoresOnly, KeepsFlushed, Others, SettlesAll}
use Rattle.pm_device.specs.Reading.{Stands}
use Rattle.pm_device.proofs.Only.{stores_only-weaken}
use Rattle.pm_layout.specs.declared.Geometry.{Geometry}
use Rattle.pm_layout.specs.Geometry.{slots}
use Rattle.dn_model.specs.Maps.{Mapping}
use Rattle.dn_model.specs.Table.{Row, row_of}
use Rattle.dn_model.specs.Disk.{Disk, MapsTo, IsMapped, TableSays, maps, rows}
use Rattle.dn_model.specs.Counts.{mappings}
use Rattle.dn_model.specs.Own.{IsAlone, HasRow as PageHasRow}
use Rattle.dn_model.specs.declared.op.CountChange.{CountChange}
use Rattle.law_write.specs.Events.{IsUnused}
use Rattle.law_write.proofs.MappedPlaces.{maps-in_file}
use Rattle.law_table.specs.Changes.{with_table}
use Rattle.law_table.specs.Words.{IsTableWord}
use Rattle.law_table.proofs.Rows.{other_test, listed_cases, none_found, none_listed, row_listed, row_found}
use Rattle.law_table_on_disk.proofs.Frame.{maps_same, mappings_same, named_same, free_kept, free_only}
use Rattle.law_table_on_disk.proofs.Mappings.{mapped_once, one_place}
use Rattle.law_table_on_disk.proofs.NextDisk.{standing_table}
use Rattle.fact_rows.specs.Put.{new_row}
use Rattle.fact_table.specs.Table.{Table, IsTable, HasRow}
use Rattle.dn_volume.specs.declared.units.TheConstants.{LOOK_UNITS, REMAP_UNITS}
use Rattle.dn_volume.specs.declared.flight.Flight.{Flight}
use Rattle.dn_volume.specs.declared.background.Sharing.{Sharing}
use Rattle.dn_volume.specs.declared.background.SharingStep.TheVariants.{Settle}
use Rattle.dn_volume.specs.declared.volume.InodeState.{InodeState}
use Rattle.dn_volume.specs.declared.volume.Parts.{Parts}
use Rattle.dn_volume.specs.Parties.{Flies, by_daemon, SameOthers, flight_at}
use Rattle.dn_volume.specs.Inodes.{AreNamesOf, AreInodesOf}
use Rattle.dn_volume.specs.Space.{AreSlotsOf}
use Rattle.dn_volume.specs.Balance.{times, raised, added, dropped, AreCounted}
use Rattle.dn_volume.specs.Planned.{slot_of_row}
use Rattle.dn_volume.specs.Flights.{IsFlight, AreFlights}
use Rattle.dn_volume.specs.Shares.{IsSharing, IsBegun, Shares}
use Rattle.dn_volume.specs.Agrees.{StandsFast, HasNoStale, NamesSlots, IsVolume}
use Rattle.dn_volume.specs.Rely.{KeepsRest, LeavesRest, IsFor, StayInHand, of_table}
use Rattle.dn_volume.proofs.OthersStay.{others_stay}
use Rattle.dn_volume.proofs.Stills.{still_settles}
use Rattle.dn_volume.proofs.Times.{times_first, times_other}
use Rattle.dn_volume.proofs.MappingsMoved.{coming_counted}
use Rattle.dn_volume.proofs.HandsKept.{flies_before}
use Rattle.dn_volume.proofs.Hands.{names_stay, inodes_stay, holders_stay, space_stays, queue_stays, dying_same, table_stays}
use Rattle.count_events.proofs.Settled.{no_client}
use Rattle.dedupe_daemon.proofs.AtPlace.{IsAtPlace}
use Rattle.dedupe_daemon.specs.Stepped.{Looks}
use Rattle.dedupe_daemon.proofs.InsertDisk.{HasPut}
use Rattle.dedupe_daemon.proofs.LookedParts.{
  look_hands,
  same_now,
  raised_more,
  added_was,
  added_now,
  dropped_still,
  one_raised,
  one_zero,
  long_still,
  owed_still,
  look_room,
}

-- the place that is looked up is mapped to its page, which nothing else is
module _ (d : Disk) (b : Parts) (s : State) (v : IsVolume d b s) (page : ℕ) (at : IsAtPlace d b page) where
  abbrev item : Sharing
  item = at.looks.sharing

  pub item_begun : IsBegun d item
  item_begun = (v.sharing item at.looks.begun).begun

  place_maps : MapsTo d item.work.ino (item.first + item.done) page
  place_maps = record {
    in_table = item_begun.in_table;
    in_file = maps-in_file d v.fast.valid item.work.ino (item.first + item.done) at.by item_begun.in_table at.mapped;
    by = at.by;
    is = at.mapped;
    block = at.on_page;
  }

  pub place_mapped : IsMapped d page
  place_mapped = record { ino = item.work.ino; idx = item.first + item.done; maps_to = place_maps }

  pub page_once : mappings d page ≡ 1
  page_once = mapped_once d v.fast.valid page at.no_row place_mapped

  pub one_of : (i idx : ℕ) (m : Mapping) → i < d.geometry.inodes → maps d i idx ≡ Some m → m.block ≡ page
      → (i ≡ item.work.ino) × (idx ≡ item.first + item.done)
  one_of i idx m lt is same = one_place d page i item.work.ino idx (item.first + item.done) (omega (arith, page_once))
      (record { in_table = lt; in_file = maps-in_file d v.fast.valid i idx m lt is; by = m; is = is; block = same }) place_maps

module _ (d : Disk) (b : Parts) (s : State) (v : IsVolume d b s) (fp : List ℕ) (page : ℕ) (at : IsAtPlace d b page) (slot : ℕ)
    (chain : ℕ → List Row) (pointer : ℕ → ℕ) (put : HasPut d (new_row slot fp page) (with_table d chain pointer)) where
  abbrev e : Disk
  e = with_table d chain pointer

  abbrev row : Row
  row = new_row slot fp page

  abbrev its_item : Sharing
  its_item = at.looks.sharing

  unused_after : (p : ℕ) → IsUnused d p → IsUnused e p
  unused_after p unused = record {
    free = free_kept d chain pointer p unused.free;
    no_row = none_found (rows e) p (λ r has same. ⊎_elim
        (λ (new : r ≡ row). let here : page ≡ p = ap (λ (x : Row). x.page) (sym new) ∙ same in
        absurd (one_or_none (mappings d p) (subst (λ (q : ℕ). mappings d q ≡ 1) here (page_once d b s v page at)) unused.free.unmapped))
        (λ (old : Contains (rows d) r). none_listed (rows d) p unused.no_row r old same) (put.puts.only r has));
  }
    where
      one_or_none : (n : ℕ) → n ≡ 1 → n ≡ 0 → ⊥
      one_or_none n one none = omega arith

  unused_before : (p : ℕ) → IsUnused e p → IsUnused d p
  unused_before p unused = record {
    free = free_only d chain pointer p unused.free;
    no_row = none_found (rows d) p (λ r has. none_listed (rows e) p unused.no_row r (put.puts.kept r has));
  }

  pub has_still : (p : ℕ) → PageHasRow d p → PageHasRow e p
  has_still p some =
      let found = row_listed (rows d) p some in
      subst (λ (q : ℕ). IsSome (row_of (rows e) q)) found.2 (row_found (rows e) found.0 (put.puts.kept found.0 found.1))

  found_still : (p : ℕ) → page ≢ p → row_of (rows e) p ≡ row_of (rows d) p
  found_still p ne = put.puts.found p ∙ ap (λ (t : Bool). if t then Some row else row_of (rows d) p) (other_test page p ne)

  rest : KeepsRest (its_item.work.ino ∷ []) [] d e
  rest = record {
    geometry = refl;
    inode = λ i out. refl;
    named_so = λ i name some out. ((λ is. sym (named_same d chain pointer name) ∙ is), (λ is. named_same d chain pointer name ∙ is));
    word = λ p k read. refl;
    unused = λ p out is. unused_after p is;
    slots = λ i idx m lt out is. ap slot_of_row (found_still m.block
        (λ same. out (0, omega arith, sym (one_of d b s v page at i idx m lt is (sym same)).0)));
    counting = λ r has some. record { still = r; there = put.puts.kept r has; slot = refl; page = refl; print = refl };
  }

  row_still : (x : ℕ) → HasRow d x → HasRow e x
  row_still x has = record { row = has.row; is = record { there = put.puts.kept has.row has.is.there; slot_is = has.is.slot_is } }

  none_stale : HasNoStale e
  none_stale = record {
    none = λ p lt some none. elim (cases_eq p page) [
      | inl here ↦ none row put.puts.here (sym here)
      | inr other ↦ v.pointers.none p lt
          (λ zero'. some (put.pointer_is p ∙ ap (λ (t : Bool). if t then slot + 1 else d.pointer p) (other_test p page other) ∙ zero'))
          (λ r has. none r (put.puts.kept r has))
    ];
  }

  -- nothing is under way at a slot without a row
  none_under_way : raised b slot + added b slot + dropped b slot ≡ 0
  none_under_way = elim (cases_eq (raised b slot + added b slot + dropped b slot) 0) [
    | inl none ↦ none
    | inr some ↦ let has = v.counts.there slot (at_least (raised b slot + added b slot + dropped b slot) some) in
        absurd (put.new_slot has.row has.is.there has.is.slot_is)
  ]
    where
      at_least : (n : ℕ) → n ≢ 0 → 1 ≤ n
      at_least n ne = omega arith

  module _ (b' : Parts) (u : State) (t' : Table) (change : Looks (Settle slot true) slot 1 (LOOK_UNITS + REMAP_UNITS) b b') (fact : b'.fact ≡ t')
      (stores : StoresOnly (IsTableWord d.geometry) s u) (others : KeepsFlushed (Others 15) (IsTableWord d.geometry) s u)
      (own : SettlesAll 15 s u) (settled : Stands (TableSays e) u) (table : IsTable e u.now t') (spare : s.spare ≤ u.spare + LOOK_UNITS) where
    fast : StandsFast e b.geometry u
    fast = record {
      geometry = v.fast.geometry;
      long = stores.words ∙ v.fast.long;
      valid = put.next.valid;
      stands = standing_table d v.fast.valid s u v.fast.stands stores e put.next settled;
    }

    leaves : LeavesRest 15 (its_item.work.ino ∷ []) [] d e s u
    leaves = record {
      rest = rest;
      only = stores_only-weaken _ _ s u (λ a is. of_table is) stores;
      others = λ q a ne out inside flushed. others.flushed q a ne (λ is. out (of_table is)) inside flushed;
    }

    for_it : IsFor d b 15 (its_item.work.ino ∷ []) []
    for_it = record {
      inode = λ i has. inl (by_daemon its_item refl at.looks.begun (⊎_elim (λ (first : its_item.work.ino ≡ i). first)
          (λ (none : Contains [] i). absurd (omega (arith, none.1))) (listed_cases its_item.work.ino [] i has)));
      page = λ p has. absurd (omega (arith, has.1));
    }

    same : SameOthers 15 b b'
    same = record {
      flights = λ q some ne. ap (λ (fs : List (Option Flight)). flight_at fs (q - 1)) change.flights;
      sharing = λ ne. absurd (ne refl);
      cleaning = λ ne. change.cleaning;
    }

    stay : ((q : ℕ) (f : Flight) → q ≢ 15 → Flies b' q f → IsFlight e q f u) × StayInHand 15 e b' u
    stay = others_stay 15 (its_item.work.ino ∷ []) [] d e b b' s u v fast for_it leaves same (λ ne. change.raised)

    flights_after : AreFlights e b' u
    flights_after = record {
      clients = ap (λ (fs : List (Option Flight)). length fs) change.flights ∙ v.flights.clients;
      each = λ q f flies. elim (cases_eq q 15) [
        | inl me ↦ absurd (no_client b q f v.flights.clients (omega (arith, me)) (flies_before b b' change.flights q f flies))
        | inr other ↦ stay.0 q f other flies
      ];
    }

    -- the counts
    raised_here : (x : ℕ) → raised b' x ≡ raised b x
    raised_here x = raised_more b at.looks b' (Settle slot true) slot 1 (LOOK_UNITS + REMAP_UNITS) change x ∙ omega arith

    added_here : (x : ℕ) → added b' x ≡ times x (slot ∷ [])
    added_here x = added_now b at.looks b' (Settle slot true) slot 1 (LOOK_UNITS + REMAP_UNITS) change x

    dropped_here : (x : ℕ) → dropped b' x ≡ dropped b x
    dropped_here x = dropped_still b at.looks b' (Settle slot true) slot 1 (LOOK_UNITS + REMAP_UNITS) change x

    counts_after : AreCounted e b'
    counts_after = coming_counted d e b b' row (record {
      puts = put.puts;
      mappings_same = mappings_same d chain pointer;
      new_slot = put.new_slot;
      once = page_once d b s v page at;
      no_reference = refl;
      one_update = refl;
      none_raised = omega (arith, raised_here slot, none_under_way);
      one_added = added_here slot ∙ times_first slot [];
      none_dropped = omega (arith, dropped_here slot, none_under_way);
      others = λ x ne. record {
        raised_same = raised_here x;
        added_same = added_here x ∙ times_other x slot [] ne ∙ sym (added_was b at.looks x);
        dropped_same = dropped_here x;
      };
      zero_same = change.zero_check;
      few = let long = long_still b at.looks b' (Settle slot true) slot 1 (LOOK_UNITS + REMAP_UNITS) change in
          let sum = owed_still b at.looks b' (Settle slot true) slot 1 (LOOK_UNITS + REMAP_UNITS) change (λ room. room.releases) in
          let one = one_raised b at.looks b' (Settle slot true) slot 1 (LOOK_UNITS + REMAP_UNITS) change in
          omega (arith, v.counts.few, long, sum, one);
    }) v.counts

    -- the item goes on
    abbrev now : Sharing
    now = record its_item { step = Settle slot true }

    begun_was : IsBegun d its_item
    begun_was = item_begun d b s v page at

    item_now : IsSharing e now
    item_now = record {
      begun = record {
        file = begun_was.file;
        in_table = begun_was.in_table;
        live = begun_was.live;
        block = begun_was.block;
        size = begun_was.size;
        mask = begun_was.mask;
        item = begun_was.item;
        done_few = begun_was.done_few;
        done_so = λ i m lt mapped by_item. ⊎_elim (λ (alone : IsAlone m). inl alone) (λ (has : PageHasRow d m.block). inr (has_still m.block has))
            (begun_was.done_so i m lt (sym (maps_same d chain pointer its_item.work.ino (its_item.first + i)) ∙ mapped) by_item);
      };
      step = record {
        some = at.looks.some;
        by = at.by;
        mapped = maps_same d chain pointer its_item.work.ino (its_item.first + its_item.done) ∙ at.mapped;
        row = row;
        at_slot = record { there = put.puts.here; slot_is = refl };
        on_page = at.on_page;
      };
    }

    shares_after : Shares e b'
    shares_after x is = subst (IsSharing e) (same_now b at.looks b' (Settle slot true) slot 1 (LOOK_UNITS + REMAP_UNITS) change x is) item_now

    trace_after : NamesSlots b'
    trace_after =
        subst (λ (g : Geometry). All (λ (c : CountChange). c.slot < slots g) b'.trace.items) (sym change.geometry)
        (subst (All (λ (c : CountChange). c.slot < slots b.geometry)) (sym change.trace) (All-push (λ (c : CountChange). c.slot < slots b.geometry)
        b.trace.items (record { slot = slot; word = 1 }) v.trace (subst (λ (g : Geometry). slot < slots g) v.fast.geometry put.small)))

    pub insert_volume : IsVolume e b' u
    insert_volume = record {
      fast = subst (λ (g : Geometry). StandsFast e g u) (sym change.geometry) fast;
      running = change.stopped ∙ v.running;
      names = subst (λ (m : FinMap (slice_cmp nat_cmp) ℕ). AreNamesOf e m) (sym change.names) (names_stay d chain pointer b.names.map v.names);
      inodes = subst (λ (ns : List InodeState). AreInodesOf e ns) (sym change.inodes) (inodes_stay d chain pointer b.inodes.items v.inodes);
      holders = holders_stay d chain pointer b b' (look_hands b at.looks b' (Settle slot true) slot 1 (LOOK_UNITS + REMAP_UNITS) change) change.inodes
          v.holders;
      space = space_stays d chain pointer b b' (look_hands b at.looks b' (Settle slot true) slot 1 (LOOK_UNITS + REMAP_UNITS) change) change.free
          unused_after unused_before v.space;
      table = subst (λ (x : Table). AreSlotsOf e x) (sym fact) (table_stays e u.now t' table);
      counts = counts_after;
      flights = flights_after;
      queue = queue_stays d chain pointer b b' (look_hands b at.looks b' (Settle slot true) slot 1 (LOOK_UNITS + REMAP_UNITS) change) v.queue;
      sharing = shares_after;
      reclaiming = record {
        waiting =
            let long = long_still b at.looks b' (Settle slot true) slot 1 (LOOK_UNITS + REMAP_UNITS) change in
            let one = one_raised b at.looks b' (Settle slot true) slot 1 (LOOK_UNITS + REMAP_UNITS) change in
            let zero' = one_zero b at.looks b' (Settle slot true) slot 1 (LOOK_UNITS + REMAP_UNITS) change in
            let units = dying_same d chain pointer in
            omega (arith, v.reclaiming.waiting, change.waiting, long, one, zero', units);
        zero_check = λ x is. row_still x (v.reclaiming.zero_check x (sym change.zero_check ∙ is));
        raised = stay.1.raised (omega arith);
      };
      cleaning = stay.1.cleaning (omega arith);
      pointers = none_stale;
      room = look_room b at.looks b' (Settle slot true) slot 1 (LOOK_UNITS + REMAP_UNITS) change d s u v refl (omega arith) refl (omega (arith, spare));
      trace = trace_after;
      still = still_settles 15 b b' s u own same v.still;
    }

    pub insert_others : SameOthers 15 b b'
    insert_others = same
