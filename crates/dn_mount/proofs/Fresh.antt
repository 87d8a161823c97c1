-- The parts of a volume that was just mounted agree with the device.
use Rattle.std.proofs.Common.{◌≡◌, ◌≢◌, inl, ℕ, zero, suc, ◌-◌, ◌<◌, ◌≤◌, List, [], ◌∷◌, ◌++◌, length, refl, sym, ◌∙◌, ap, subst, arith, get_or}
use Rattle.std.specs.Prelude.{Option, Some, None, Contains, slice_get}
use Rattle.std.proofs.lemmas.List.Elements.{All-contains}
use Rattle.pm_device.specs.State.{State}
use Rattle.pm_layout.specs.declared.Geometry.{Geometry}
use Rattle.pm_layout.specs.Geometry.{slots}
use Rattle.dn_model.specs.Table.{Row}
use Rattle.dn_model.specs.Disk.{Disk, rows}
use Rattle.dn_model.specs.Counts.{mappings, IsFree}
use Rattle.law_write.specs.Events.{IsUnused}
use Rattle.law_write.proofs.Counting.{total-zero}
use Rattle.law_table.proofs.Rows.{all_listed, none_found}
use Rattle.law_table_on_disk.specs.BalanceLaws.{IsBalanced}
use Rattle.law_table_on_disk.specs.CountLaws.{IsExact}
use Rattle.dn_volume.specs.declared.flight.Flight.{Flight}
use Rattle.dn_volume.specs.declared.volume.Parts.{Parts}
use Rattle.dn_volume.specs.declared.volume.Room.{Room}
use Rattle.dn_volume.specs.declared.volume.InodeState.{InodeState}
use Rattle.dn_model.specs.declared.op.CountChange.{CountChange}
use Rattle.dn_volume.specs.Parties.{Flies, flight_at, Holds, by_client, by_daemon, by_cleaning, Takes, for_client, for_cleaning}
use Rattle.dn_volume.specs.Agrees.{IsVolume, NamesSlots, StandsFast}
use Rattle.dn_volume.specs.Inodes.{AreInodesOf, AreNamesOf, AreHolders}
use Rattle.dn_volume.specs.Space.{HasSpace, AreSlotsOf}
use Rattle.dn_volume.specs.Balance.{AreCounted, times, raised_by, raised_to_share, added_to_share, raised_to_die, raised, added, dropped}
use Rattle.dn_volume.specs.Shares.{IsQueued, in_queue}
use Rattle.dn_volume.specs.Reclaims.{IsReclaiming, one_if}
use Rattle.dn_volume.specs.Reserve.{Owes, HasRoom, owed_to, owed_sum, units_to_share, changes_to_share, units_to_clean, queue_to_clean}
use Rattle.dn_volume.proofs.Lefts.{two_left}
use Rattle.dn_mount.specs.declared.parts.Scan.{Scan}
use Rattle.image_keep.specs.Free.{AreFreePages}
use Rattle.dn_mount.specs.Scanned.{IsScanOf, IsFreshOf}

-- one place more without an operation
pub no_flight_more : (flights : List (Option Flight)) → ((k : ℕ) → flight_at flights k ≡ None) → (k : ℕ) → flight_at (flights ++ None ∷ []) k ≡ None
no_flight_more [] none zero = refl
no_flight_more [] none (suc k) = refl
no_flight_more (f ∷ flights) none zero = none zero
no_flight_more (f ∷ flights) none (suc k) = no_flight_more flights (λ j. none (suc j)) k

-- two different members are two
two_members : (xs : List ℕ) (p q : ℕ) → Contains xs p → Contains xs q → p ≢ q → 2 ≤ length xs
two_members [] p q (k, lt, e) (j, lt', e') ne = absurd (omega (arith, lt))
two_members (x ∷ []) p q (k, lt, e) (j, lt', e') ne = absurd (ne (sym (at_first k lt p e) ∙ at_first j lt' q e'))
  where
    at_first : (i : ℕ) → i < 1 → (r : ℕ) → get_or (x ∷ []) i r ≡ r → x ≡ r
    at_first zero small r is = is
    at_first (suc i) small r is = absurd (omega (arith, small))
two_members (x ∷ y ∷ xs) p q one two ne = omega arith

none_is_some : {X : Type 0} (o : Option X) (x : X) → o ≡ None → o ≡ Some x → ⊥
none_is_some o x none some = cc

module _ (d : Disk) (scan : Scan) (s : State) (is : IsScanOf d scan s) (b : Parts) (fresh : IsFreshOf scan b) where
  never_flies : (who : ℕ) (f : Flight) → Flies b who f → ⊥
  never_flies who f flies = none_is_some (flight_at b.flights.items (who - 1)) f (fresh.flights.none (who - 1)) flies.is

  never_holds : (who ino : ℕ) → Holds b who ino → ⊥
  never_holds who ino (by_client f flies held) = never_flies who f flies
  never_holds who ino (by_daemon sharing is_daemon begun at) = none_is_some b.sharing sharing fresh.sharing begun
  never_holds who ino (by_cleaning c is_reclaim begun at) = none_is_some b.reclaiming.cleaning c fresh.cleaning begun

  never_takes : (who page : ℕ) → Takes b who page → ⊥
  never_takes who page (for_client f flies taken) = never_flies who f flies
  never_takes who page (for_cleaning c is_reclaim begun taken) = none_is_some b.reclaiming.cleaning c fresh.cleaning begun

  node_at : (ino : ℕ) (n : InodeState) → slice_get b.inodes.items ino ≡ Some n → slice_get scan.inodes.items ino ≡ Some n
  node_at ino n = subst (λ (xs : List InodeState). slice_get xs ino ≡ Some n) fresh.inodes

  holders : AreHolders d b
  holders = record {
    told = λ ino who n at. (
      λ some. absurd (none_is_some n.holder who (is.unheld ino n (node_at ino n at)) some),
      λ held. absurd (never_holds who ino held),
    );
    in_table = λ ino who held. absurd (never_holds who ino held);
  }

  -- the free pages
  row_exact : (row : Row) → Contains (rows d) row → IsExact d row
  row_exact row has = All-contains (IsExact d) (rows d) row is.exact.counts has

  unused : (page : ℕ) → IsFree d page → IsUnused d page
  unused page free = record {
    free = free;
    no_row = none_found (rows d) page (λ r has at. let exact = row_exact r has in exact.2 (exact.1 ∙ ap (mappings d) at ∙ free.unmapped));
  }

  free_set : AreFreePages d b.free
  free_set = subst (AreFreePages d) (sym fresh.free) is.free

  enough : 2 ≤ length b.free.free
  enough = let two = is.fast.valid.roomy in two_members b.free.free two.0 two.1 ((free_set.free two.0).1 two.3) ((free_set.free two.1).1 two.4) two.2

  space : HasSpace d b
  space = record {
    pages = free_set.pages;
    in_order = free_set.in_order;
    taker = λ page. 0;
    free = λ page. (λ has. (unused page ((free_set.free page).0 has), refl), λ both. (free_set.free page).1 both.0.free);
    takes = λ who page taken. absurd (never_takes who page taken);
    taken = λ page some. absurd (some refl);
    unused = λ page some. absurd (some refl);
    some = omega (arith, enough);
    left = two_left b free_set.in_order enough;
  }

  -- nothing is counted
  raised_none : (slot : ℕ) → raised b slot ≡ 0
  raised_none slot =
      let flights = total-zero (λ k. times slot (raised_by (flight_at b.flights.items k))) 14
      (λ j lt. ap (λ (f : Option Flight). times slot (raised_by f)) (fresh.flights.none j)) in
      let share : times slot (raised_to_share b.sharing) ≡ 0 = ap (λ x. times slot (raised_to_share x)) fresh.sharing in
      let die : times slot (raised_to_die b.reclaiming.raised) ≡ 0 = ap (λ x. times slot (raised_to_die x)) fresh.unraised in
      omega (arith, flights, share, die)

  added_none : (slot : ℕ) → added b slot ≡ 0
  added_none slot = ap (λ x. times slot (added_to_share x)) fresh.sharing

  dropped_none : (slot : ℕ) → dropped b slot ≡ 0
  dropped_none slot = ap (times slot) fresh.releases

  owed_none : (kind : Room → ℕ) → kind (owed_to None) ≡ 0 → owed_sum b kind ≡ 0
  owed_none kind zero_is = total-zero (λ k. kind (owed_to (flight_at b.flights.items k))) 14 (λ j lt. ap (λ (f : Option Flight). kind (owed_to f))
      (fresh.flights.none j) ∙ zero_is)

  unraised : one_if b.reclaiming.raised ≡ 0
  unraised = ap (λ x. one_if x) fresh.unraised

  unchecked : one_if b.reclaiming.zero_check ≡ 0
  unchecked = ap (λ x. one_if x) fresh.zero_check

  no_releases : length b.reclaiming.releases.items ≡ 0
  no_releases = ap length fresh.releases

  balanced : (row : Row) → Contains (rows d) row → IsBalanced d row (raised b row.slot) (added b row.slot) (dropped b row.slot)
  balanced row has =
      let exact = row_exact row has in
      record {
        updates = omega (arith, exact.0, raised_none row.slot, added_none row.slot, dropped_none row.slot);
        references = omega (arith, exact.1, added_none row.slot, dropped_none row.slot);
      }

  counts : AreCounted d b
  counts = record {
    balanced = all_listed (λ (row : Row). IsBalanced d row (raised b row.slot) (added b row.slot) (dropped b row.slot)) (rows d) balanced;
    there = λ slot some. absurd (omega (arith, some, raised_none slot, added_none slot, dropped_none slot));
    zero_checked = λ row has rfc uc. absurd ((row_exact row has).2 rfc);
    few = omega (arith, no_releases, owed_none (λ room. room.releases) refl, unraised);
  }

  queue : IsQueued d b
  queue = record {
    waits = λ ino idx m place needed. let w = is.waits ino idx m place needed in
        in_queue w.item w.node (subst (λ q. Contains q.items w.item) (sym fresh.queue) w.listed) w.ino_is w.slot_is
        (subst (λ (xs : List InodeState). slice_get xs ino ≡ Some w.node) (sym fresh.inodes) w.at) w.round_is;
  }

  reclaiming : IsReclaiming d b
  reclaiming = record {
    waiting = omega (arith, unraised, unchecked, no_releases, fresh.waiting, is.waiting);
    zero_check = λ slot some. absurd (none_is_some b.reclaiming.zero_check slot fresh.zero_check some);
    raised = λ p some. absurd (none_is_some b.reclaiming.raised p fresh.unraised some);
  }

  owes : Owes b
  owes = record {
    units = omega (
      arith,
      owed_none (λ room. room.units) refl,
      ap (λ x. units_to_share x) fresh.sharing,
      ap (λ x. units_to_clean x) fresh.cleaning,
      unraised,
      unchecked,
    );
    trace = omega (arith, owed_none (λ room. room.trace) refl, ap (λ x. changes_to_share x) fresh.sharing);
    history = omega (arith, owed_none (λ room. room.history) refl);
    queue = omega (arith, owed_none (λ room. room.queue) refl, ap (λ x. queue_to_clean x) fresh.cleaning);
    releases = omega (arith, owed_none (λ room. room.releases) refl, unraised);
  }

  room : HasRoom b s
  room = record {
    owes = owes;
    units = omega (arith, ap (λ (r : Room). r.units) fresh.owed);
    trace = omega (arith, ap (λ (r : Room). r.trace) fresh.owed, fresh.room_trace);
    history = omega (arith, ap (λ (r : Room). r.history) fresh.owed, fresh.room_history);
    queue = omega (arith, ap (λ (r : Room). r.queue) fresh.owed);
    releases = omega (arith, ap (λ (r : Room). r.releases) fresh.owed, fresh.room_releases);
    names = omega (arith, ap (λ (r : Room). r.history) fresh.owed);
    places = λ who f c n flies change at. absurd (never_flies who f flies);
  }

  trace : NamesSlots b
  trace = all_listed (λ (change : CountChange). change.slot < slots b.geometry) b.trace.items
      (λ change has. absurd (omega (arith, has.1, ap length fresh.trace)))

  pub fresh_volume : IsVolume d b s
  fresh_volume = record {
    still = record { each = λ a lt. inl (is.still a lt) };
    fast = subst (λ (g : Geometry). StandsFast d g s) (sym fresh.geometry) is.fast;
    running = fresh.running;
    names = subst (λ n. AreNamesOf d n.map) (sym fresh.names) is.names;
    inodes = subst (AreInodesOf d) (sym fresh.inodes) is.inodes;
    holders = holders;
    space = space;
    table = subst (AreSlotsOf d) (sym fresh.fact) is.table;
    counts = counts;
    flights = record { clients = fresh.flights.clients; each = λ who f flies. absurd (never_flies who f flies) };
    queue = queue;
    sharing = λ sharing some. absurd (none_is_some b.sharing sharing fresh.sharing some);
    cleaning = λ c some. absurd (none_is_some b.reclaiming.cleaning c fresh.cleaning some);
    reclaiming = reclaiming;
    pointers = is.pointers;
    room = room;
    trace = trace;
  }
