-- The event of a place that comes to share a page: the volume of after.
use Rattle.std.proofs.Common.{◌≡◌, ◌≢◌, inl, inr, ⊎_elim, ℕ, ◌+◌, ◌-◌, ◌*◌, ◌<◌, ◌≤◌, false, List, [], ◌∷◌, length, length-append, refl, sym, ◌∙◌, ap, subst, arith}
use Rattle.std.specs.Prelude.{Option, Some, IsSome, All, Contains, slice_get, vec_len, vec_capacity}
use Rattle.std.specs.VecDeque.{deque_len, deque_capacity}
use Rattle.std.specs.Option.{option_map}
use Rattle.std.specs.FinMap.{get}
use Rattle.std.proofs.lemmas.Bool.{cases_eq}
use Rattle.pm_device.specs.State.{State}
use Rattle.pm_device.specs.Settled.{SettlesAll}
use Rattle.pm_device.specs.Reading.{Stands}
use Rattle.pm_layout.specs.declared.Geometry.{Geometry}
use Rattle.pm_layout.specs.Geometry.{slots}
use Rattle.page_alloc.specs.Free.{FreePages}
use Rattle.log_entry.specs.declared.item.Flag.TheVariants.{InProcess}
use Rattle.log_entry.specs.declared.item.LogItem.TheVariants.{Write}
use Rattle.file_index.specs.declared.page_map.Mapping.{Mapping as KeptMapping}
use Rattle.file_content.specs.Content.{kept}
use Rattle.dn_model.specs.Log.{Log, Placed, placed}
use Rattle.dn_model.specs.Maps.{Mapping}
use Rattle.dn_model.specs.Table.{Row, row_of}
use Rattle.dn_model.specs.Disk.{Disk, DiskSays, IsUsed, maps, rows}
use Rattle.dn_model.specs.Counts.{total, mappings}
use Rattle.dn_model.specs.Own.{IsAlone, LivePlace, HasRow as PageHasRow}
use Rattle.dn_model.specs.declared.op.CountChange.{CountChange}
use Rattle.law_write.specs.Events.{IsUnused}
use Rattle.law_table.proofs.Rows.{none_listed, distinct_same, listed_cases}
use Rattle.law_log_swap.proofs.Relogged.{log_here, at_other, use_same, maps_others}
use Rattle.law_share.specs.Sharing.{MayShare, shared_disk}
use Rattle.law_share.proofs.Shared.{shared_valid, names_same}
use Rattle.dn_volume.specs.declared.units.TheConstants.{END_UNITS, PLACE_UNITS, LOOK_UNITS, REMAP_UNITS}
use Rattle.dn_volume.specs.declared.flight.Flight.{Flight}
use Rattle.dn_volume.specs.declared.flight.Change.TheVariants.{Data}
use Rattle.dn_volume.specs.declared.flight.DataChange.{DataChange}
use Rattle.dn_volume.specs.declared.background.Sharing.{Sharing}
use Rattle.dn_volume.specs.declared.background.SharingStep.{SharingStep}
use Rattle.dn_volume.specs.declared.background.SharingStep.TheVariants.{Remap, Settle}
use Rattle.dn_volume.specs.declared.volume.InodeState.{InodeState}
use Rattle.dn_volume.specs.declared.volume.Parts.{Parts}
use Rattle.dn_volume.specs.declared.volume.Room.{Room}
use Rattle.dn_volume.specs.Parties.{Flies, Holds, by_client, by_daemon, by_cleaning, Takes, for_client, for_cleaning, SameOthers, flight_at}
use Rattle.dn_volume.specs.Inodes.{as_use, IsInodeOf, AreInodesOf, AreHolders}
use Rattle.dn_volume.specs.Space.{HasSpace}
use Rattle.dn_volume.specs.Balance.{times, raised_by, raised_at, added_at, raised_to_share, added_to_share, raised_to_die, added, AreCounted}
use Rattle.dn_volume.specs.Flights.{IsFlight, AreFlights}
use Rattle.dn_volume.specs.Shares.{IsWaiting, in_queue, is_begun, IsQueued, IsSharing, IsBegun, Shares}
use Rattle.dn_volume.specs.Reclaims.{one_if, IsReclaiming}
use Rattle.dn_volume.specs.Reserve.{owed_sum, units_to_share, changes_to_share, units_spent, changes_spent, units_to_clean, queue_to_clean, Owes, HasRoom}
use Rattle.dn_volume.specs.Cleans.{IsLeft, TwoLeft}
use Rattle.dn_volume.specs.Agrees.{StandsFast, NamesSlots, IsVolume}
use Rattle.dn_volume.specs.Rely.{LeavesRest, IsFor, StayInHand}
use Rattle.dn_volume.proofs.Heads.{none_stale_kept}
use Rattle.dn_volume.proofs.OthersStay.{others_stay}
use Rattle.dn_volume.proofs.Stills.{still_settles}
use Rattle.dn_volume.proofs.Times.{times_first, times_other}
use Rattle.dn_volume.proofs.MappingsMoved.{mappings_counted}
use Rattle.dn_volume.proofs.HandsKept.{flies_still, flies_before, owed_same}
use Rattle.count_events.proofs.Settled.{no_client}
use Rattle.count_events.proofs.ShareParts.{same_sharing}
use Rattle.reclaim.proofs.WorkEvent.{KeepsNodes}
use Rattle.reclaim.proofs.NodesChanged.{nodes_kept, nodes_are}
use Rattle.reclaim.proofs.SpaceGained.{slots_stay}
use Rattle.dedupe_daemon.specs.declared.remap.NewPlace.{NewPlace}
use Rattle.dedupe_daemon.specs.Remapped.{IsNewPlace, taken_pages, TakesFor, IsItemSlot, SharesOnly, MapsPlace, RemapsPart}
use Rattle.dedupe_daemon.proofs.ShareTaken.{AreTaken}
use Rattle.dedupe_daemon.proofs.ShareAppended.{share_used}
use Rattle.dedupe_daemon.proofs.PlaceFound.{to_remap, remap_begun, remap_owes, not_was, taken, other, other_unused, may_share, may_by}
use Rattle.dedupe_daemon.proofs.ShareDisk as disk

module _ (d : Disk) (b : Parts) (s : State) (v : IsVolume d b s) (sharing : Sharing) (begun : b.sharing ≡ Some sharing) (slot : ℕ)
    (step : sharing.step ≡ Remap slot) (n : NewPlace) (is : IsNewPlace d sharing slot n) (free' : FreePages) (fresh : Option ℕ)
    (takes : TakesFor n.tail b.free free' fresh) where
  abbrev pub pages : List ℕ
  pages = taken_pages fresh

  abbrev pub may : MayShare d n.ino n.idx is.row pages
  may = may_share d b s v sharing begun slot step n is free' fresh takes

  abbrev e : Disk
  e = shared_disk d n.ino n.idx is.row.page pages

  its : AreTaken pages b.free free'
  its = taken d b s v sharing begun slot step n is free' fresh takes

  its_begun : IsBegun d sharing
  its_begun = remap_begun d b s v sharing begun slot step

  some_done : sharing.done < sharing.count
  some_done = (to_remap d b s v sharing begun slot step).some

  module _ (item : ℕ) (item_is : IsItemSlot n.tail pages item) (b' : Parts)
      (change : RemapsPart n (record { block = n.page; slot = item; bit = 0 }) (length pages) slot (record b { free = free' }) b') where
    abbrev m : KeptMapping
    m = record { block = n.page; slot = item; bit = 0 }

    abbrev now : Sharing
    now = record sharing { step = Settle slot false }

    pub remapped_now : b'.sharing ≡ Some now
    remapped_now = change.sharing sharing begun

    same_now : (x : Sharing) → b'.sharing ≡ Some x → now ≡ x
    same_now x at = same_sharing b' now x remapped_now at

    pub flights_same : b'.flights.items ≡ b.flights.items
    flights_same = ap (λ (fs : _). fs.items) change.flights

    -- the inodes that are kept
    here_now : kept (disk.new_mapping d n.ino n.idx is.row pages may) ≡ m
    here_now =
        disk.kept_now d n.ino n.idx is.row pages may
        ∙ ap (λ (p : ℕ). record { block = p; slot = disk.item_slot d n.ino n.idx is.row pages may; bit = 0 }) is.page
        ∙ ap (λ (k : ℕ). record { block = n.page; slot = k; bit = 0 }) (sym (item_is d.geometry (d.inode n.ino).log
        (v.fast.valid.logs n.ino may.in_table (share_used d n.ino n.idx is.row pages may)).paged (sym is.tail)))

    ino_lt : n.ino < length b.inodes.items
    ino_lt = omega (arith, may.in_table, v.inodes.all)

    holder_same : (x y : InodeState) → MapsPlace n.idx m (length pages) x y → y.holder ≡ x.holder
    holder_same x y maps_it = maps_it.holder

    round_same : (x y : InodeState) → MapsPlace n.idx m (length pages) x y → y.round ≡ x.round
    round_same x y maps_it = maps_it.round

    nodes : KeepsNodes b.inodes.items b'.inodes.items
    nodes = nodes_kept (MapsPlace n.idx m (length pages)) n.ino b.inodes.items b'.inodes.items change.inodes ino_lt holder_same round_same

    node_now : (x y : InodeState) → IsInodeOf d n.ino x → MapsPlace n.idx m (length pages) x y → IsInodeOf e n.ino y
    node_now x y was maps_it = record {
      use_is = use_same d n.ino (disk.log d n.ino n.idx is.row pages may) n.ino ∙ was.use_is ∙ ap as_use (sym maps_it.used_is);
      size_is = λ used. (disk.place d n.ino n.idx is.row pages may).size_same
          ∙ was.size_is (subst IsUsed (use_same d n.ino (disk.log d n.ino n.idx is.row pages may) n.ino) used) ∙ sym maps_it.size;
      small = subst (λ (k : ℕ). k ≤ 16777216) (sym maps_it.size) was.small;
      log_pages = λ used.
          let now = ap (λ (l : Log). length l.pages) (log_here d n.ino (disk.log d n.ino n.idx is.row pages may)) in
          let long = length-append (d.inode n.ino).log.pages pages in
          let old = was.log_pages (subst IsUsed (use_same d n.ino (disk.log d n.ino n.idx is.row pages may) n.ino) used) in
          omega (arith, now, long, old, maps_it.log_pages);
      places = λ j. elim (cases_eq j n.idx) [
        | inl here ↦
            ap (get y.map.map) here ∙ maps_it.here ∙ ap Some (sym here_now)
            ∙ ap (option_map kept) (sym (disk.maps_now d n.ino n.idx is.row pages may)) ∙ ap (λ (k : ℕ). option_map kept (maps e n.ino k)) (sym
            here)
        | inr ne ↦
            maps_it.others j ne ∙ was.places j
            ∙ ap (option_map kept) (sym ((disk.place d n.ino n.idx is.row pages may).remaps.other_places j ne))
      ];
    }

    inodes_after : AreInodesOf e b'.inodes.items
    inodes_after = nodes_are (MapsPlace n.idx m (length pages)) n.ino b.inodes.items b'.inodes.items change.inodes ino_lt d e v.inodes
        (disk.geometry_still d n.ino n.idx is.row pages may) (at_other d n.ino (disk.log d n.ino n.idx is.row pages may))
        (maps_others d n.ino (disk.log d n.ino n.idx is.row pages may)) node_now

    -- a cleaning that is begun
    cleaning_same : b'.reclaiming.cleaning ≡ b.reclaiming.cleaning
    cleaning_same = ap (λ (r : _). r.cleaning) change.reclaiming

    -- who holds and waits
    holds_still : (who i : ℕ) → Holds b who i → Holds b' who i
    holds_still who i (by_client f flies has) = by_client f (flies_still b b' flights_same who f flies) has
    holds_still who i (by_daemon x him at same) = by_daemon now him remapped_now
        (ap (λ (y : Sharing). y.work.ino) (same_sharing b sharing x begun at) ∙ same)
    holds_still who i (by_cleaning c him at same) = by_cleaning c him (cleaning_same ∙ at) same

    holds_before : (who i : ℕ) → Holds b' who i → Holds b who i
    holds_before who i (by_client f flies has) = by_client f (flies_before b b' flights_same who f flies) has
    holds_before who i (by_daemon x him at same) = by_daemon sharing him begun (ap (λ (y : Sharing). y.work.ino) (same_now x at) ∙ same)
    holds_before who i (by_cleaning c him at same) = by_cleaning c him (sym cleaning_same ∙ at) same

    holders_after : AreHolders e b'
    holders_after = record {
      told = λ i who y at.
          let was = nodes.back i y at in
          let one = v.holders.told i who was.0 was.1 in
          ((λ holder. holds_still who i (one.0 (sym was.2 ∙ holder))), (λ holds. was.2 ∙ one.1 (holds_before who i holds)));
      in_table = λ i who holds. subst (λ (g : Geometry). i < g.inodes) (sym (disk.geometry_still d n.ino n.idx is.row pages may))
          (v.holders.in_table i who (holds_before who i holds));
    }

    waits_still : (i at : ℕ) → IsWaiting b i at → IsWaiting b' i at
    waits_still i at (in_queue work x has of_ino of_slot there round) =
        let after = nodes.on i x there in
        in_queue work after.0 (subst (λ (q : _). Contains q.items work) (sym change.queue) has) of_ino of_slot after.1 (round ∙ sym after.2)
    waits_still i at (is_begun x there of_ino of_slot) =
        let same = same_sharing b sharing x begun there in
        is_begun now remapped_now (ap (λ (y : Sharing). y.work.ino) same ∙ of_ino) (ap (λ (y : Sharing). y.work.slot) same ∙ of_slot)

    queue_after : IsQueued e b'
    queue_after = record {
      waits = λ i j x at undone. ⊎_elim (λ (old : LivePlace d i j x). waits_still i x.slot (v.queue.waits i j x old undone))
          (λ new. absurd (undone (ap (λ (y : Mapping). y.flag) new.1))) (disk.live_back d n.ino n.idx is.row pages may i j x at);
    }

    -- pages
    was_block : may.by.block ≡ n.was
    was_block = ap (λ (x : Mapping). x.block) (may_by d b s v sharing begun slot step n is free' fresh takes) ∙ is.was

    not_taken : v.space.taker n.was ≡ 0
    not_taken = elim (cases_eq (v.space.taker n.was) 0) [
      | inl none ↦ none
      | inr some ↦ absurd (not_was d b s v sharing begun slot step n is n.was (v.space.unused n.was some).free (sym is.was))
    ]

    unused_was : IsUnused e n.was
    unused_was = subst (IsUnused e) was_block (disk.was_unused d n.ino n.idx is.row pages may)

    free_to : (p : ℕ) → Contains b'.free.free p → IsUnused e p × (v.space.taker p ≡ 0)
    free_to p there = elim (cases_eq p n.was) [
      | inl same ↦ (subst (IsUnused e) (sym same) unused_was, ap v.space.taker same ∙ not_taken)
      | inr ne ↦
          let old = (change.free.others p ne).0 there in
          let both = (v.space.free p).0 (its.back p old) in
          (disk.unused_on d n.ino n.idx is.row pages may p both.0 (λ taken_it. its.gone p taken_it old), both.1)
    ]

    free_from : (p : ℕ) → IsUnused e p × (v.space.taker p ≡ 0) → Contains b'.free.free p
    free_from p both = ⊎_elim
        (λ old.
        let there = its.kept p ((v.space.free p).1 (old.0, both.1)) old.1 in
        (change.free.others p (λ same. not_was d b s v sharing begun slot step n is p old.0.free (same ∙ sym is.was))).1 there)
        (λ (same : p ≡ may.by.block). subst (Contains b'.free.free) (sym (same ∙ was_block)) change.free.there)
        (disk.unused_back d n.ino n.idx is.row pages may p both.0)

    takes_before : (who p : ℕ) → Takes b' who p → Takes b who p
    takes_before who p (for_client f flies has) = for_client f (flies_before b b' flights_same who f flies) has
    takes_before who p (for_cleaning c him at has) = for_cleaning c him (sym cleaning_same ∙ at) has

    takes_still : (who p : ℕ) → Takes b who p → Takes b' who p
    takes_still who p (for_client f flies has) = for_client f (flies_still b b' flights_same who f flies) has
    takes_still who p (for_cleaning c him at has) = for_cleaning c him (cleaning_same ∙ at) has

    taken_unused : (p : ℕ) → v.space.taker p ≢ 0 → IsUnused e p
    taken_unused p some = disk.unused_on d n.ino n.idx is.row pages may p (v.space.unused p some)
        (λ has. some ((v.space.free p).0 (its.listed p has)).1)

    -- the old page is left, and one that was
    abbrev left_page : (q : ℕ) × IsLeft b q × (Contains pages q → ⊥)
    left_page = other d b s v sharing begun slot step n is free' fresh takes

    left_free : IsUnused d left_page.0
    left_free = other_unused d b s v sharing begun slot step n is free' fresh takes

    left_other : left_page.0 ≢ n.was
    left_other same = not_was d b s v sharing begun slot step n is left_page.0 left_free.free (same ∙ sym is.was)

    left_on : (p : ℕ) → p ≢ n.was → (Contains pages p → ⊥) → IsLeft b p → IsLeft b' p
    left_on p ne out (inl has) = inl ((change.free.others p ne).1 (its.kept p has out))
    left_on p ne out (inr took) = inr (takes_still 16 p took)

    left_after : TwoLeft b'
    left_after = record {
      one = n.was;
      other = left_page.0;
      apart = λ same. left_other (sym same);
      one_left = inl change.free.there;
      other_left = left_on left_page.0 left_other left_page.2 left_page.1;
    }

    space_after : HasSpace e b'
    space_after = record {
      pages = change.free.pages ∙ its.pages ∙ v.space.pages ∙ ap (λ (g : Geometry). g.pages) (sym (disk.geometry_still d n.ino n.idx is.row pages
          may));
      in_order = change.in_order;
      taker = v.space.taker;
      free = λ p. (free_to p, free_from p);
      takes = λ who p has. v.space.takes who p (takes_before who p has);
      taken = λ p some. takes_still (v.space.taker p) p (v.space.taken p some);
      unused = taken_unused;
      some = omega (arith, change.free.count, its.long, its.few, v.space.some);
      left = left_after;
    }

    -- counts
    flown_same : (x : ℕ) → total 14 (λ k. times x (raised_by (flight_at b'.flights.items k))) ≡ total 14
        (λ k. times x (raised_by (flight_at b.flights.items k)))
    flown_same x = ap (λ (fs : List (Option Flight)). total 14 (λ k. times x (raised_by (flight_at fs k)))) flights_same

    raised_was : (x : ℕ) → times x (raised_to_share b.sharing) ≡ times x (slot ∷ [])
    raised_was x = ap (λ (r : Option Sharing). times x (raised_to_share r)) begun ∙ ap (λ (st : SharingStep). times x (raised_at st)) step

    added_was : (x : ℕ) → added b x ≡ 0
    added_was x = ap (λ (r : Option Sharing). times x (added_to_share r)) begun ∙ ap (λ (st : SharingStep). times x (added_at st)) step

    raised_now : (x : ℕ) → times x (raised_to_share b'.sharing) ≡ 0
    raised_now x = ap (λ (r : Option Sharing). times x (raised_to_share r)) remapped_now

    added_now : (x : ℕ) → added b' x ≡ times x (slot ∷ [])
    added_now x = ap (λ (r : Option Sharing). times x (added_to_share r)) remapped_now

    died_same : (x : ℕ) → times x (raised_to_die b'.reclaiming.raised) ≡ times x (raised_to_die b.reclaiming.raised)
    died_same x = ap (λ (r : _). times x (raised_to_die r.raised)) change.reclaiming

    row_moves : (r : Row) → Contains (rows d) r → mappings e r.page + 0 ≡ mappings d r.page + times r.slot (slot ∷ [])
    row_moves r has = elim (cases_eq r.slot slot) [
      | inl here ↦
          let same : r ≡ is.row = distinct_same (λ (x : Row). x.slot) (rows d) v.fast.valid.rows_apart.slot r is.row has is.at_slot.there
          (here ∙ sym is.at_slot.slot_is) in
          let page_is : r.page ≡ is.row.page = ap (λ (x : Row). x.page) same in
          let one : times r.slot (slot ∷ []) ≡ 1 = ap (λ (x : ℕ). times x (slot ∷ [])) here ∙ times_first slot [] in
          let more : mappings e r.page ≡ mappings d r.page + 1 =
          subst (λ (p : ℕ). mappings e p ≡ mappings d p + 1) (sym page_is) (disk.place d n.ino n.idx is.row pages may).moves.more in
          omega (arith, one, more)
      | inr ne ↦
          let none = times_other r.slot slot [] ne in
          let same = (disk.place d n.ino n.idx is.row pages may).moves.others r.page
          (none_listed (rows d) may.by.block may.no_row r has)
          (λ page_is. ne (ap (λ (x : Row). x.slot) (distinct_same (λ (x : Row). x.page) (rows d) v.fast.valid.rows_apart.page r is.row has
          is.at_slot.there page_is) ∙ is.at_slot.slot_is)) in
          omega (arith, none, same)
    ]

    one_raised : one_if b'.reclaiming.raised ≡ one_if b.reclaiming.raised
    one_raised = ap (λ (r : _). one_if r.raised) change.reclaiming

    one_zero : one_if b'.reclaiming.zero_check ≡ one_if b.reclaiming.zero_check
    one_zero = ap (λ (r : _). one_if r.zero_check) change.reclaiming

    long_still : length b'.reclaiming.releases.items ≡ length b.reclaiming.releases.items
    long_still = ap (λ (r : _). length r.releases.items) change.reclaiming

    owed_still : (kind : Room → ℕ) → owed_sum b' kind ≡ owed_sum b kind
    owed_still = owed_same b b' flights_same

    counts_after : AreCounted e b'
    counts_after = mappings_counted d e b b' (λ x. 0) (λ x. times x (slot ∷ [])) (record {
      rows_same = disk.rows_still d n.ino n.idx is.row pages may;
      mappings_move = row_moves;
      raised_move = λ x. omega (arith, flown_same x, raised_was x, raised_now x, died_same x);
      added_move = λ x. omega (arith, added_was x, added_now x);
      dropped_move = λ x. let same = ap (λ (r : _). times x r.releases.items) change.reclaiming in omega (arith, same);
      zero_same = ap (λ (r : _). r.zero_check) change.reclaiming;
      few = omega (arith, v.counts.few, long_still, owed_still (λ room. room.releases), one_raised);
    }) v.counts

    -- the item, with a row to be settled
    has_still : (p : ℕ) → PageHasRow d p → PageHasRow e p
    has_still p some = subst (λ (rs : List Row). IsSome (row_of rs p)) (sym (disk.rows_still d n.ino n.idx is.row pages may)) some

    later_place : (i : ℕ) → i < sharing.done → sharing.first + i ≢ n.idx
    later_place i lt same = omega (arith, lt, same, is.idx)

    place_kept : (i : ℕ) → i < sharing.done → maps e sharing.work.ino (sharing.first + i) ≡ maps d sharing.work.ino (sharing.first + i)
    place_kept i lt = disk.maps_there d n.ino n.idx is.row pages may sharing.work.ino (sharing.first + i) (λ same. later_place i lt)

    abbrev stands_at : Placed
    stands_at = record {
      slot = sharing.work.slot;
      item = Write sharing.first sharing.count its_begun.block its_begun.size InProcess its_begun.mask;
    }

    item_now : IsSharing e now
    item_now = record {
      begun = record {
        file = its_begun.file;
        in_table = subst (λ (g : Geometry). sharing.work.ino < g.inodes) (sym (disk.geometry_still d n.ino n.idx is.row pages may))
            its_begun.in_table;
        live = use_same d n.ino (disk.log d n.ino n.idx is.row pages may) sharing.work.ino ∙ its_begun.live;
        block = its_begun.block;
        size = its_begun.size;
        mask = its_begun.mask;
        item = subst (λ (i : ℕ). Contains (placed (e.inode i).log) stands_at) is.ino (disk.placed_still d n.ino n.idx is.row pages may stands_at
            (subst (λ (i : ℕ). Contains (placed (d.inode i).log) stands_at) (sym is.ino) its_begun.item));
        done_few = its_begun.done_few;
        done_so = λ i x lt mapped by_item. ⊎_elim (λ (alone : IsAlone x). inl alone) (λ (has : PageHasRow d x.block). inr (has_still x.block has))
            (its_begun.done_so i x lt (sym (place_kept i lt) ∙ mapped) by_item);
      };
      step = record {
        some = some_done;
        by = disk.new_mapping d n.ino n.idx is.row pages may;
        mapped = ap (λ (j : ℕ). maps e sharing.work.ino j) (sym is.idx) ∙ ap (λ (i : ℕ). maps e i n.idx) (sym is.ino) ∙ disk.maps_now d n.ino n.idx
            is.row pages may;
        row = is.row;
        at_slot = record {
          there = subst (λ (rs : List Row). Contains rs is.row) (sym (disk.rows_still d n.ino n.idx is.row pages may)) is.at_slot.there;
          slot_is = is.at_slot.slot_is;
        };
        on_page = disk.on_page d n.ino n.idx is.row pages may;
      };
    }

    shares_after : Shares e b'
    shares_after x at = subst (IsSharing e) (same_now x at) item_now

    -- the room
    units_was : units_to_share b.sharing ≡ END_UNITS + PLACE_UNITS * (sharing.count - sharing.done) - LOOK_UNITS
    units_was = ap (λ (r : Option Sharing). units_to_share r) begun ∙ ap (λ (st : SharingStep). END_UNITS + PLACE_UNITS
        * (sharing.count - sharing.done) - units_spent st) step

    units_now : units_to_share b'.sharing ≡ END_UNITS + PLACE_UNITS * (sharing.count - sharing.done) - (LOOK_UNITS + REMAP_UNITS)
    units_now = ap (λ (r : Option Sharing). units_to_share r) remapped_now

    changes_was : changes_to_share b.sharing ≡ 2 * (sharing.count - sharing.done) - 1
    changes_was = ap (λ (r : Option Sharing). changes_to_share r) begun ∙ ap (λ (st : SharingStep). 2 * (sharing.count - sharing.done)
        - changes_spent st) step

    changes_now : changes_to_share b'.sharing ≡ 2 * (sharing.count - sharing.done) - 1
    changes_now = ap (λ (r : Option Sharing). changes_to_share r) remapped_now

    clean_still : units_to_clean b'.reclaiming.cleaning ≡ units_to_clean b.reclaiming.cleaning
    clean_still = ap (λ (x : _). units_to_clean x) cleaning_same

    due_still : queue_to_clean b'.reclaiming.cleaning ≡ queue_to_clean b.reclaiming.cleaning
    due_still = ap (λ (x : _). queue_to_clean x) cleaning_same

    owed_units : b'.owed.units ≡ b.owed.units - REMAP_UNITS
    owed_units = ap (λ (r : Room). r.units) change.owed

    owed_trace : b'.owed.trace ≡ b.owed.trace
    owed_trace = ap (λ (r : Room). r.trace) change.owed

    owed_history : b'.owed.history ≡ b.owed.history
    owed_history = ap (λ (r : Room). r.history) change.owed

    owed_queue : b'.owed.queue ≡ b.owed.queue
    owed_queue = ap (λ (r : Room). r.queue) change.owed

    owed_releases : b'.owed.releases ≡ b.owed.releases
    owed_releases = ap (λ (r : Room). r.releases) change.owed

    owes : Owes b'
    owes = record {
      units = omega (
        arith,
        v.room.owes.units,
        owed_still (λ room. room.units),
        units_was,
        units_now,
        clean_still,
        some_done,
        one_raised,
        one_zero,
        owed_units,
      );
      trace = omega (arith, v.room.owes.trace, owed_still (λ room. room.trace), changes_was, changes_now, owed_trace);
      history = omega (arith, v.room.owes.history, owed_still (λ room. room.history), owed_history);
      queue = omega (arith, v.room.owes.queue, owed_still (λ room. room.queue), due_still, owed_queue);
      releases = omega (arith, v.room.owes.releases, owed_still (λ room. room.releases), one_raised, owed_releases);
    }

    room_at : (f : Flight) (c : DataChange) (who : ℕ) (y : InodeState) → Flies b' who f → f.change ≡ Data c → slice_get b'.inodes.items f.ino ≡ Some
        y
        → length c.blocks.items ≤ y.map.room
    room_at f c who y flies kind at = elim (cases_eq f.ino n.ino) [
      | inl same ↦
          let old = nodes.back f.ino y at in
          let most = v.room.places who f c old.0 (flies_before b b' flights_same who f flies) kind old.1 in
          let becomes = change.inodes.here old.0 y (ap (slice_get b.inodes.items) (sym same) ∙ old.1)
          (ap (slice_get b'.inodes.items) (sym same) ∙ at) in
          omega (arith, most, becomes.room)
      | inr ne ↦ v.room.places who f c y (flies_before b b' flights_same who f flies) kind (sym (change.inodes.others f.ino ne) ∙ at)
    ]

    module _ (u : State) (stands : Stands (DiskSays e) u) (only : SharesOnly n.ino n.idx is.row.page pages d s u) (own : SettlesAll 15 s u)
        (spare : s.spare ≤ u.spare + REMAP_UNITS) where
      fast : StandsFast e b.geometry u
      fast = record {
        geometry = disk.geometry_still d n.ino n.idx is.row pages may ∙ v.fast.geometry;
        long = only.only.words ∙ v.fast.long ∙ ap (λ (g : Geometry). 512 * g.pages) (sym (disk.geometry_still d n.ino n.idx is.row pages may));
        valid = shared_valid d n.ino n.idx is.row pages may;
        stands = stands;
      }

      for_it : IsFor d b 15 (n.ino ∷ []) pages
      for_it = record {
        inode = λ i has. inl (by_daemon sharing refl begun (sym is.ino ∙ ⊎_elim (λ (first : n.ino ≡ i). first)
            (λ (none : Contains [] i). absurd (omega (arith, none.1))) (listed_cases n.ino [] i has)));
        page = λ p has. inr (its.listed p has);
      }

      pub remap_others : SameOthers 15 b b'
      remap_others = record {
        flights = λ q some ne. ap (λ (fs : List (Option Flight)). flight_at fs (q - 1)) flights_same;
        sharing = λ ne. absurd (ne refl);
        cleaning = λ ne. cleaning_same;
      }

      leaves : LeavesRest 15 (n.ino ∷ []) pages d e s u
      leaves = disk.share_leaves d n.ino n.idx is.row pages may s u only

      stay : ((q : ℕ) (f : Flight) → q ≢ 15 → Flies b' q f → IsFlight e q f u) × StayInHand 15 e b' u
      stay = others_stay 15 (n.ino ∷ []) pages d e b b' s u v fast for_it leaves remap_others (λ ne. ap (λ (r : _). r.raised) change.reclaiming)

      flights_after : AreFlights e b' u
      flights_after = record {
        clients = ap (λ (fs : List (Option Flight)). length fs) flights_same ∙ v.flights.clients;
        each = λ q f flies. elim (cases_eq q 15) [
          | inl me ↦ absurd (no_client b q f v.flights.clients (omega (arith, me)) (flies_before b b' flights_same q f flies))
          | inr other ↦ stay.0 q f other flies
        ];
      }

      room_after : HasRoom b' u
      room_after = record {
        owes = owes;
        units = omega (arith, v.room.units, owed_units, spare, remap_owes d b s v sharing begun slot step);
        trace = let len = ap (λ (t : _). vec_len t) change.trace in let capacity = ap (λ (t : _). vec_capacity t) change.trace in
            omega (arith, v.room.trace, len, capacity, owed_trace);
        history = let len = ap (λ (t : _). vec_len t) change.history in let capacity = ap (λ (t : _). vec_capacity t) change.history in
            omega (arith, v.room.history, len, capacity, owed_history);
        queue = let room = ap (λ (q : _). q.room) change.queue in omega (arith, v.room.queue, room, owed_queue);
        releases = let len = ap (λ (r : _). deque_len r.releases) change.reclaiming in
            let capacity = ap (λ (r : _). deque_capacity r.releases) change.reclaiming in
            omega (arith, v.room.releases, len, capacity, owed_releases);
        names = let room = ap (λ (q : _). q.room) change.names in omega (arith, v.room.names, room, owed_history);
        places = λ who f c y flies kind at. room_at f c who y flies kind at;
      }

      reclaiming_after : IsReclaiming e b'
      reclaiming_after = record {
        waiting =
            let waits = ap (λ (r : _). r.waiting) change.reclaiming in
            omega (arith, v.reclaiming.waiting, waits, one_raised, one_zero, long_still, disk.units_still d n.ino n.idx is.row pages may);
        zero_check = λ x at.
            let has = v.reclaiming.zero_check x (ap (λ (r : _). r.zero_check) (sym change.reclaiming) ∙ at) in
            record {
              row = has.row;
              is = record {
                there = subst (λ (rs : List Row). Contains rs has.row) (sym (disk.rows_still d n.ino n.idx is.row pages may)) has.is.there;
                slot_is = has.is.slot_is;
              };
            };
        raised = stay.1.raised (omega arith);
      }

      trace_after : NamesSlots b'
      trace_after = subst (λ (g : Geometry). All (λ (c : CountChange). c.slot < slots g) b'.trace.items) (sym change.geometry)
          (subst (λ (t : _). All (λ (c : CountChange). c.slot < slots b.geometry) t.items) (sym change.trace) v.trace)

      pub remap_volume : IsVolume e b' u
      remap_volume = record {
        fast = subst (λ (g : Geometry). StandsFast e g u) (sym change.geometry) fast;
        running = change.stopped ∙ v.running;
        names = record {
          leads = λ name. ap (λ (ns : _). get ns.map name) change.names ∙ v.names.leads name
              ∙ sym (names_same d n.ino n.idx is.row pages may name);
        };
        inodes = inodes_after;
        holders = holders_after;
        space = space_after;
        table = slots_stay d e b.fact b'.fact (disk.geometry_still d n.ino n.idx is.row pages may) (disk.rows_still d n.ino n.idx is.row pages may)
            change.fact v.table;
        counts = counts_after;
        flights = flights_after;
        queue = queue_after;
        sharing = shares_after;
        reclaiming = reclaiming_after;
        cleaning = stay.1.cleaning (omega arith);
        pointers = none_stale_kept d e (disk.geometry_still d n.ino n.idx is.row pages may) (disk.pointer_still d n.ino n.idx is.row pages may)
            (λ r has. record {
              row = r;
              there = subst (λ (rs : List Row). Contains rs r) (sym (disk.rows_still d n.ino n.idx is.row pages may)) has;
              page_is = refl;
            }) v.pointers;
        room = room_after;
        trace = trace_after;
        still = still_settles 15 b b' s u own remap_others v.still;
      }
