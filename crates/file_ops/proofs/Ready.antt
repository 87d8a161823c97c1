-- What the last event of a write or a cut stands on.
use Rattle.std.proofs.Common.{
  ◌≡◌,
  inl,
  inr,
  ⊎_elim,
  ℕ,
  zero,
  suc,
  ◌+◌,
  ◌-◌,
  ◌*◌,
  ◌/◌,
  ◌<◌,
  ◌≤◌,
  Bool,
  true,
  false,
  List,
  ◌++◌,
  length,
  get_or,
  refl,
  sym,
  ◌∙◌,
  ap,
  subst,
  arith,
}
use Rattle.std.specs.Prelude.{slice_get, slice_index, is_some, if◌then◌else◌, Option, Some, None, IsNone, Contains, vec_len, vec_capacity}
use Rattle.std.specs.Option.{option_map}
use Rattle.std.specs.FinMap.{get}
use Rattle.std.specs.VecDeque.{deque_len, deque_capacity}
use Rattle.std.proofs.lemmas.Bool.{cases_eq}
use Rattle.std.proofs.lemmas.List.Elements.{Contains-get_or}
use Rattle.pm_device.specs.State.{State}
use Rattle.pm_layout.specs.declared.Geometry.{Geometry}
use Rattle.file_content.specs.Content.{IsFileOf, kept}
use Rattle.file_content.specs.Pages.{AreApart}
use Rattle.file_content.specs.Runs.{all_seen}
use Rattle.file_content.proofs.Blocks.{blocks_in-file}
use Rattle.file_content.proofs.RunBounds.{runs_below, blocks_below}
use Rattle.file_index.specs.declared.page_map.Mapping.{Mapping}
use Rattle.dn_model.specs.Log.{Log, IsPaged, count, tail_at}
use Rattle.dn_model.specs.Maps.{Mapping as DiskMapping}
use Rattle.dn_model.specs.Table.{row_of}
use Rattle.dn_model.specs.Disk.{Disk, IsUsed, Use, Free, Live, Dying, IsMapped, maps, rows}
use Rattle.dn_model.specs.Counts.{total}
use Rattle.dn_model.specs.declared.op.Op.TheVariants.{Write}
use Rattle.law_write.specs.Events.{IsUnused}
use Rattle.law_write.specs.Runs.{places_in, block_at}
use Rattle.law_write.proofs.Counting.{term-le}
use Rattle.law_write.proofs.MappedPlaces.{maps-in_file}
use Rattle.law_write.proofs.Unread.{read_in_data}
use Rattle.law_write.proofs.WriteFree.{places_apart}
use Rattle.law_write.proofs.WriteValid.{not_mapped}
use Rattle.law_table.proofs.Rows.{none_found, none_listed}
use Rattle.dn_volume.specs.declared.units.TheConstants.{SLOT_UNITS, TAIL_UNITS}
use Rattle.dn_volume.specs.Reserve.{slots_of}
use Rattle.dn_volume.specs.declared.flight.Flight.{Flight}
use Rattle.dn_volume.specs.declared.flight.Change.{Change}
use Rattle.dn_volume.specs.declared.flight.Change.TheVariants.{Data}
use Rattle.dn_volume.specs.declared.flight.DataChange.{DataChange}
use Rattle.dn_volume.specs.declared.volume.InodeState.{InodeState}
use Rattle.dn_volume.specs.declared.volume.Room.{Room}
use Rattle.dn_volume.specs.declared.volume.Parts.{Parts}
use Rattle.dn_volume.specs.Parties.{Flies, for_client, flight_at, taken_by, blocks_of}
use Rattle.dn_volume.specs.Flights.{IsDataFlight}
use Rattle.dn_volume.specs.Reclaims.{mapped_places, units_by_use, dying_units, one_if}
use Rattle.dn_volume.specs.Reserve.{owed_to, owed_sum, units_by, runs_by}
use Rattle.dn_volume.specs.Agrees.{IsVolume}
use Rattle.dn_volume.proofs.Tables.{is_table}
use Rattle.file_ops.specs.Ends.{IsFreed}
use Rattle.file_ops.specs.Giving.{Gives, IsUnshared, IsUnsharedAmong, CanGive}
use Rattle.file_ops.specs.Ending.{CanFinish}
use Rattle.dn_volume.proofs.Replaced.{flight_within}
use Rattle.file_ops.proofs.DiskAfter.{may}
use Rattle.file_ops.proofs.FewApart.{few_apart}
use Rattle.file_ops.proofs.Taken.{block_taken, fresh_taken, spare_taken, fresh_apart, left_apart, right_apart}

-- a place whose page has no row, as it is kept and on the disk
pub unshared_place : (d : Disk) (o : Option DiskMapping) (page : ℕ) → IsUnshared d (option_map kept o) page
    → (by : DiskMapping) × (o ≡ Some by) × (by.block ≡ page) × IsNone (row_of (rows d) page)
unshared_place d None page h = absurd h
unshared_place d (Some by) page h = (by, refl, h.0, none_found (rows d) page h.1)

pub place_unshared : (d : Disk) (o : Option DiskMapping) (by : DiskMapping) (page : ℕ) → o ≡ Some by → by.block ≡ page → IsNone (row_of (rows d) page)
    → IsUnshared d (option_map kept o) page
place_unshared d o by page is block none = subst (λ (x : Option DiskMapping). IsUnshared d (option_map kept x) page) (sym is)
    (block, none_listed (rows d) page none)

-- a tail lies in the image
pub tail-bound : (g : Geometry) (log : Log) → IsPaged g log → g.pages ≤ 65536 → tail_at log.pages (count log) < 4194304
tail-bound g log paged few = by_count (count log) paged.fits
  where
    by_count : (n : ℕ) → length log.pages ≡ (n + 62) / 63 → tail_at log.pages n < 4194304
    by_count zero fits = omega arith
    by_count (suc n) fits = let inside = paged.in_data (n / 63) (omega (arith, fits)) in omega (arith, inside.high, few)

total-ones : (f : ℕ → ℕ) (n : ℕ) → ((j : ℕ) → f j ≤ 1) → total n f ≤ n
unfolding total
total-ones f zero few = omega arith
total-ones f (suc n) few = omega (arith, total-ones f n few, few n)

total-few : (f : ℕ → ℕ) (n : ℕ) → ((j : ℕ) → f j ≤ 16385) → total n f ≤ 16385 * n
unfolding total
total-few f zero few = omega arith
total-few f (suc n) few = omega (arith, total-few f n few, few n)

places_few : (d : Disk) (ino : ℕ) → mapped_places d ino ≤ 4096
unfolding mapped_places
places_few d ino = total-ones (λ idx. if is_some (maps d ino idx) then 1 else 0) 4096 (λ idx. one (is_some (maps d ino idx)))
  where
    one : (b : Bool) → (if b then 1 else 0) ≤ 1
    one true = omega arith
    one false = omega arith

units_few : (u : Use) (k : ℕ) → k ≤ 4096 → units_by_use u k ≤ 16385
units_few Free k le = omega arith
units_few Live k le = omega arith
units_few (Dying cut) k le = omega (arith, le)

one_at_most : {X : Type 0} (o : Option X) → one_if o ≤ 1
one_at_most None = omega arith
one_at_most (Some x) = omega arith

module _ (d : Disk) (b : Parts) (s : State) (who : ℕ) (f : Flight) (c : DataChange) (v : IsVolume d b s) (flies : Flies b who f)
    (kind : f.change ≡ Data c) (is : IsDataFlight d who f c s)
    (node : InodeState) (node_is : slice_get b.inodes.items f.ino ≡ Some node) where
  places_are : (idx : ℕ) → get node.map.map idx ≡ option_map kept (maps d f.ino idx)
  places_are = (v.inodes.each f.ino node node_is).places

  used : IsUsed (d.inode f.ino).use_of
  used = subst IsUsed (sym is.grows.live) tt

  pub file_is : IsFileOf d f.ino node.size node.map.map
  file_is = record {
    live = is.grows.live;
    in_table = is.grows.in_table;
    size_is = (v.inodes.each f.ino node node_is).size_is used;
    small = (v.inodes.each f.ino node node_is).small;
    places = places_are;
  }

  mapped : (idx : ℕ) (by : DiskMapping) → maps d f.ino idx ≡ Some by → IsMapped d by.block
  mapped idx by was = record {
    ino = f.ino;
    idx = idx;
    maps_to = record {
      in_table = is.grows.in_table;
      in_file = maps-in_file d v.fast.valid f.ino idx by is.grows.in_table was;
      by = by;
      is = was;
      block = refl;
    };
  }

  at_disk : (idx page : ℕ) → IsUnshared d (get node.map.map idx) page → (by : DiskMapping) × (maps d f.ino idx ≡ Some by) × (by.block ≡ page) × IsNone
      (row_of (rows d) page)
  at_disk idx page h = unshared_place d (maps d f.ino idx) page (subst (λ (o : Option Mapping). IsUnshared d o page) (places_are idx) h)

  -- the pages that come free, by what is kept and on the disk
  pub freed_is : (first n page : ℕ) → IsUnsharedAmong d node.map.map first n page → IsFreed d f.ino first n page
  freed_is first n page a = let at = at_disk (first + a.i) page a.is in record {
    i = a.i;
    below = a.below;
    by = at.0;
    was = at.1;
    block = at.2;
    no_row = at.3;
  }

  pub is_freed : (first n page : ℕ) → IsFreed d f.ino first n page → IsUnsharedAmong d node.map.map first n page
  is_freed first n page a = record {
    i = a.i;
    below = a.below;
    is = subst (λ (o : Option Mapping). IsUnshared d o page) (sym (places_are (first + a.i))) (place_unshared d (maps d f.ino (first + a.i)) a.by page
        a.was a.block a.no_row);
  }

  pub can_give : (first n : ℕ) → CanGive s.now b.fact node.map.map first n b.free
  can_give first n = record {
    disk = d;
    table = is_table d b s v;
    in_order = v.space.in_order;
    inside = λ i lt. (blocks_in-file d f.ino node.size node.map.map b.fact.geometry file_is v.fast.valid v.table.geometry).inside (first + i);
    below = λ i page lt h.
        let at = at_disk (first + i) page h in
        let low = read_in_data d v.fast.valid at.0.block (inl (mapped (first + i) at.0 at.1)) in
        omega (arith, low.high, at.2, v.space.pages);
    taken = λ i page lt h there.
        let at = at_disk (first + i) page h in
        not_mapped d page ((v.space.free page).0 there).0 (subst (IsMapped d) at.2 (mapped (first + i) at.0 at.1));
    apart = λ i j page il jl hi hj. elim (cases_eq i j) [
      | inl e ↦ e
      | inr ne ↦
          let at = at_disk (first + i) page hi in
          let to = at_disk (first + j) page hj in
          absurd (places_apart d v.fast.valid f.ino (first + i) (first + j) at.0 to.0 is.grows.in_table at.1 to.1 (λ e. ne (omega (arith, e)))
          (subst (λ (p : ℕ). IsNone (row_of (rows d) p)) (sym at.2) at.3) (at.2 ∙ sym to.2))
    ];
  }

  taken_unused : (page : ℕ) → Contains (taken_by f) page → IsUnused d page
  taken_unused page has = v.space.unused page (λ none. let his = v.space.takes who page (for_client f flies has) in let some = flies.client in
      omega (arith, his, none, some))

  -- what is owed to the flight
  pub owed_part : (room : Room → ℕ) → room (owed_to (Some f)) ≤ owed_sum b room
  owed_part room =
      let part = term-le (λ k. room (owed_to (flight_at b.flights.items k))) 14 (who - 1)
      (omega (arith, v.flights.clients, flight_within b.flights.items (who - 1) f flies.is)) in
      subst (λ (o : Option Flight). room (owed_to o) ≤ owed_sum b room) flies.is part

  pub waiting_few : b.reclaiming.waiting + 2 * length f.rows.items < 18446744073709551616
  waiting_few =
      let units = total-few (dying_units d) d.geometry.inodes (λ i. units_few (d.inode i).use_of (mapped_places d i) (places_few d i)) in
      let zc = one_at_most b.reclaiming.zero_check in
      let releases = owed_part (λ room. room.releases) in
      bound _ _ _ _ _ _ _ _ v.reclaiming.waiting zc units v.fast.valid.accepted.few_inodes v.counts.few releases
    where
      bound : (w up zc rel units inodes rs sum : ℕ) → w + up ≡ zc + 2 * rel + units → zc ≤ 1 → units ≤ 16385 * inodes → inodes ≤ 4096
          → rel + sum + up ≤ 1105920 → rs ≤ sum → w + 2 * rs < 18446744073709551616
      bound w up zc rel units inodes rs sum e1 le1 le2 le3 le4 le5 = omega arith

  module _ (mid : Parts) (tail from n : ℕ) (in_file : c.first + places_in (all_seen c.runs.items) ≤ 4096)
      (tail_is : tail ≡ tail_at (d.inode f.ino).log.pages (count (d.inode f.ino).log))
      (gives : Gives (IsUnsharedAmong d node.map.map from n) b.free mid.free)
      (inodes : mid.inodes ≡ b.inodes) (queue : mid.queue ≡ b.queue) (reclaiming : mid.reclaiming ≡ b.reclaiming) (owed : mid.owed ≡ b.owed)
      (history : mid.history ≡ b.history) where
    block_small : (i : ℕ) → i < places_in (all_seen c.runs.items) → block_at (all_seen c.runs.items) i < 65536
    block_small i lt =
        let below : i < length c.blocks.items = omega (arith, lt, is.covers) in
        let unused = taken_unused (slice_index c.blocks.items i) (block_taken f c kind (slice_index c.blocks.items i)
        (Contains-get_or c.blocks.items i 0 below)) in
        omega (arith, is.blocks i below, unused.free.data_page.high, v.fast.valid.accepted.few_pages)

    spare_free : (page : ℕ) → Contains f.spare.items page → Contains mid.free.free page → ⊥
    spare_free page spare there = ⊎_elim
        (λ (was : Contains b.free.free page).
        let none = ((v.space.free page).0 was).1 in
        let his = v.space.takes who page (for_client f flies (spare_taken f c kind page spare)) in
        let some = flies.client in omega (arith, none, his, some))
        (λ a.
        let place = at_disk (from + a.i) page a.is in
        not_mapped d page (taken_unused page (spare_taken f c kind page spare)) (subst (IsMapped d) place.2 (mapped (from + a.i) place.0 place.1)))
        ((gives.free page).0 there)

    pub can_end : CanFinish tail f c mid
    can_end = record {
      kind = kind;
      spare_below = λ page spare. omega (
        arith,
        (taken_unused page (spare_taken f c kind page spare)).free.data_page.high,
        v.space.pages,
        gives.pages,
      );
      spare_taken = spare_free;
      spare_apart = right_apart f.fresh.items f.spare.items (left_apart (f.fresh.items ++ f.spare.items) c.blocks.items
          (subst AreApart (ap (λ (x : Change). f.fresh.items ++ f.spare.items ++ blocks_of x) kind) is.grows.apart));
      in_order = gives.in_order;
      queue = subst (λ (q : _). length c.runs.items ≤ q.room) (sym queue) queue_room;
      there = subst (λ (ns : _). f.ino < length ns.items) (sym inodes) (omega (arith, is.grows.in_table, v.inodes.all));
      room = λ n n_is.
          let same = some_same (slice_get b.inodes.items f.ino) node n node_is (subst (λ (ns : _). slice_get ns.items f.ino ≡ Some n) inodes n_is) in
          subst (λ (x : InodeState). places_in (all_seen c.runs.items) ≤ x.map.room) same
          (omega (arith, is.covers, v.room.places who f c node flies kind node_is));
      places = runs_below 4096 c.first c.runs.items is.chained in_file;
      blocks = blocks_below 65536 c.first c.runs.items is.chained block_small;
      tail_small = subst (λ (t : ℕ). t < 4194304) (sym tail_is)
          (tail-bound d.geometry (d.inode f.ino).log (v.fast.valid.logs f.ino is.grows.in_table used).paged v.fast.valid.accepted.few_pages);
      log_pages = λ n n_is. log_small n (subst (λ (ns : _). slice_get ns.items f.ino ≡ Some n) inodes n_is);
      fresh = λ k x lt. fresh_small (get_or f.fresh.items k x) (Contains-get_or f.fresh.items k x lt);
      releases = subst (λ (r : _). deque_len r.releases + length f.rows.items ≤ deque_capacity r.releases) (sym reclaiming)
          (omega (arith, v.room.releases, v.room.owes.releases, owed_part (λ room. room.releases)));
      waiting = subst (λ (r : _). r.waiting + 2 * length f.rows.items < 18446744073709551616) (sym reclaiming) waiting_few;
      units = subst (λ (o : Room). SLOT_UNITS * slots_of f + TAIL_UNITS ≤ o.units) (sym owed) units_there;
      owed_history = subst (λ (o : Room). 1 ≤ o.history) (sym owed) (omega (arith, v.room.owes.history, owed_part (λ room. room.history)));
      owed_queue = subst (λ (o : Room). length c.runs.items ≤ o.queue) (sym owed) (omega (arith, v.room.owes.queue, runs_part));
      owed_releases = subst (λ (o : Room). length f.rows.items ≤ o.releases) (sym owed)
          (omega (arith, v.room.owes.releases, owed_part (λ room. room.releases)));
      history = subst (λ (h : _). vec_len h < vec_capacity h) (sym history)
          (omega (arith, v.room.history, v.room.owes.history, owed_part (λ room. room.history)));
    }
      where
        runs_part : length c.runs.items ≤ owed_sum b (λ room. room.queue)
        runs_part = subst (λ (x : Change). runs_by x ≤ owed_sum b (λ room. room.queue)) kind (owed_part (λ room. room.queue))

        queue_room : length c.runs.items ≤ b.queue.room
        queue_room = omega (arith, runs_part, v.room.owes.queue, v.room.queue)

        units_part : units_by f (Data c) ≤ owed_sum b (λ room. room.units)
        units_part = subst (λ (x : Change). units_by f x ≤ owed_sum b (λ room. room.units)) kind (owed_part (λ room. room.units))

        units_there : SLOT_UNITS * slots_of f + TAIL_UNITS ≤ b.owed.units
        units_there = omega (arith, units_part, v.room.owes.units)

        some_same : (o : Option InodeState) (x y : InodeState) → o ≡ Some x → o ≡ Some y → x ≡ y
        some_same o x y a b = cc

        fresh_small : (page : ℕ) → Contains f.fresh.items page → page < 65536
        fresh_small page has = omega (arith, (taken_unused page (fresh_taken f c kind page has)).free.data_page.high, v.fast.valid.accepted.few_pages)

        log_small : (n : InodeState) → slice_get b.inodes.items f.ino ≡ Some n → n.log_pages + length f.fresh.items < 18446744073709551616
        log_small n at =
            let paged = (v.fast.valid.logs f.ino is.grows.in_table used).paged in
            let log = few_apart (d.inode f.ino).log.pages d.geometry.pages paged.apart (λ k lt. (paged.in_data k lt).high) in
            let long = (v.inodes.each f.ino n at).log_pages used in
            let fresh = few_apart f.fresh.items 65536 (fresh_apart f c kind is.grows.apart)
            (λ k lt. fresh_small (slice_index f.fresh.items k) (Contains-get_or f.fresh.items k 0 lt)) in
            omega (arith, log, long, fresh, v.fast.valid.accepted.few_pages)

  -- a write's end
  module _ (mid : Parts) (tail : ℕ) (name : List ℕ) (at : ℕ) (text : List ℕ) (op_is : f.op ≡ Write name at text)
      (all_filled : c.filled ≡ length c.blocks.items) (all_raised : f.raised ≡ length f.rows.items)
      (tail_is : tail ≡ tail_at (d.inode f.ino).log.pages (count (d.inode f.ino).log))
      (gives : Gives (IsUnsharedAmong d node.map.map c.first (length c.blocks.items)) b.free mid.free)
      (inodes : mid.inodes ≡ b.inodes) (queue : mid.queue ≡ b.queue) (reclaiming : mid.reclaiming ≡ b.reclaiming) (owed : mid.owed ≡ b.owed)
      (history : mid.history ≡ b.history) where
    pub can_finish : CanFinish tail f c mid
    can_finish =
        let m = may d b s who f c v flies kind is name at text op_is all_filled all_raised in
        can_end mid tail c.first (length c.blocks.items) (omega (arith, m.in_size, m.small)) tail_is gives inodes queue reclaiming owed history
