-- A place that is mapped to a row's page: the disk makes sense, and files stay.
use Rattle.std.proofs.Common.{
  ◌≡◌,
  ◌≢◌,
  ◌⊎◌,
  inl,
  inr,
  ⊎_elim,
  ℕ,
  zero,
  suc,
  ◌+◌,
  ◌-◌,
  ◌*◌,
  ◌/◌,
  ◌%◌,
  ◌^◌,
  ◌<◌,
  ◌≤◌,
  Bool,
  true,
  false,
  List,
  [],
  ◌∷◌,
  length,
  get_or,
  refl,
  sym,
  ◌∙◌,
  ap,
  subst,
  arith,
  zero-add,
}
use Rattle.std.specs.Prelude.{if◌then◌else◌, nat_le, nat_lt, ◌&&◌, slice_index, Contains, Option, Some, None, IsSome, IsNone, All}
use Rattle.std.specs.Option.{option_map}
use Rattle.std.proofs.lemmas.Bool.{cases_eq}
use Rattle.std.proofs.lemmas.Bool.Decides.{nat_tests}
use Rattle.std.proofs.lemmas.Grind.{same_number_lists}
use Rattle.std.proofs.lemmas.List.Elements.{
  All-nil,
  All-cons,
  All-append,
  All-contains,
  All-weaker,
  Contains-get_or,
  Contains-append_left,
  Contains-append_right,
  Contains-append_cases,
}
use Rattle.std.proofs.lemmas.List.FromFn.{get_or-map-range_with_len}
use Rattle.pm_device.specs.State.{State, Agree}
use Rattle.pm_device.specs.Settled.{LeavesOnly, StoresOnly}
use Rattle.pm_device.specs.Reading.{Reads, Stands, IsReady, DiffersAt}
use Rattle.pm_device.specs.Commit.{IsCommitted, IsDone}
use Rattle.pm_device.proofs.OneWord.{reads_old_or_new, stands_new}
use Rattle.pm_layout.specs.declared.Geometry.{Geometry}
use Rattle.pm_layout.specs.Geometry.{InData, inode_word}
use Rattle.log_entry.specs.Spelling.{IsSpelled, spelling, spelled, pages_of}
use Rattle.log_entry.specs.declared.item.Flag.TheVariants.{Complete}
use Rattle.log_entry.specs.declared.item.LogItem.{LogItem}
use Rattle.log_entry.specs.declared.item.LogItem.TheVariants.{Write}
use Rattle.dn_model.specs.Log.{Log, IsPaged, count, tail_at, slot_name}
use Rattle.dn_model.specs.Maps.{Mapping, mapping, cut_to, size_of}
use Rattle.dn_model.specs.Table.{Row, row_of}
use Rattle.dn_model.specs.Disk.{Disk, Inode, IsMapped, IsUsed, maps, rows, DiskSays}
use Rattle.dn_model.specs.Counts.{mappings, IsLogPage, IsFree, IsNear, Near}
use Rattle.dn_model.specs.Files.{bytes, byte_of, mapped_byte, named, named_after}
use Rattle.dn_model.specs.Growth.{IsGrown, Prepared}
use Rattle.dn_model.specs.Own.{Print, page_bytes, LivePlace, IsAlone, HasRow, IsOwn}
use Rattle.dn_model.specs.Valid.{MayStand, IsLog, IsValid}
use Rattle.dn_model.specs.Image.{StandsFor}
use Rattle.dn_model.proofs.Append.{count-grown}
use Rattle.dn_model.proofs.Regions.{inode_word_low}
use Rattle.law_write.specs.Events.{IsReadPage, IsUnused, Fresh, in_log, in_page}
use Rattle.law_write.specs.WithLog.{with_log}
use Rattle.law_write.proofs.Mapped.{mapping-grown}
use Rattle.law_write.proofs.MappedPlaces.{maps-in_file, mapping-below, size-small, uncut}
use Rattle.law_write.proofs.Relog.{relogged_differs}
use Rattle.law_write.proofs.RunItems.{size-grown}
use Rattle.law_write.proofs.Unread.{read_in_data}
use Rattle.law_write.proofs.WriteBytes.{length-bytes, byte_at}
use Rattle.law_write.proofs.WriteEvent.{length-left, stands_for_read}
use Rattle.law_write.proofs.WrittenDisk.{append-apart, append-in_data}
use Rattle.law_table_on_disk.specs.MappingLaws.{RemapsPlace, MovesMapping}
use Rattle.law_table_on_disk.specs.BalanceLaws.{IsBalanced}
use Rattle.law_table_on_disk.proofs.Mappings.{place_mapped_over, near_stays}
use Rattle.law_table.proofs.Rows.{row_found, none_listed, none_or_some, distinct_same}
use Rattle.law_log_swap.proofs.Relogged.{
  IsRelog,
  relogs,
  log_here,
  at_other,
  use_same,
  same_geometry,
  same_word,
  same_rows,
  below,
  above,
  maps_here,
  maps_before,
  maps_others,
  relogged_valid,
  read_before,
  mapped_read,
}
use Rattle.law_share.specs.Sharing.{shared_log, shared_disk, IsLeft, was_free, was_place, MayShare, SharesPlace, KeepsFiles, FreesPage}

-- a Write of one place: on it, and on another place
module _ (idx page size slot : ℕ) where
  abbrev by_item : Mapping
  by_item = record { block = page + (idx - idx); slot = slot; bit = idx - idx; flag = Complete; mask = 0 }

  abbrev after : ℕ → Option Mapping → Option Mapping
  after j m = cut_to size j (if nat_le idx j && nat_lt j (idx + 1) then Some
      (record { block = page + (j - idx); slot = slot; bit = j - idx; flag = Complete; mask = 0 }) else m)

  after_here : (m : Option Mapping) → idx < pages_of size → after idx m ≡ Some by_item
  after_here m lt = ap (λ (b : Bool). cut_to size idx (if b then Some by_item else m)) (inside idx) ∙ uncut size idx (Some by_item) lt
    where
      inside : (i : ℕ) → (nat_le i i && nat_lt i (i + 1)) ≡ true
      inside i = grind (arith, nat_tests)

  after_there : (j : ℕ) (m : Option Mapping) → j ≢ idx → after j m ≡ cut_to size j m
  after_there j m ne = ap (λ (b : Bool). cut_to size j
      (if b then Some (record { block = page + (j - idx); slot = slot; bit = j - idx; flag = Complete; mask = 0 }) else m)) (outside idx j ne)
    where
      outside : (i j : ℕ) → j ≢ i → (nat_le i j && nat_lt j (i + 1)) ≡ false
      outside i j ne = grind (arith, nat_tests)

-- the bytes of pages that are equal
byte_equal : (d : Disk) (p q k : ℕ) → page_bytes d p ≡ page_bytes d q → k < 4096 → byte_of d p k ≡ byte_of d q k
unfolding page_bytes
byte_equal d p q k same lt =
    sym (get_or-map-range_with_len (byte_of d p) 0 4096 k k 0 lt (zero-add k)) ∙ ap (λ (bs : List ℕ). get_or bs k 0) same ∙ get_or-map-range_with_len
    (byte_of d q) 0 4096 k k 0 lt (zero-add k)

abbrev nothing : Option Mapping
nothing = None

none_same : (o : Option Mapping) (size j : ℕ) → ((x : Mapping) → o ≡ Some x → j < pages_of size) → cut_to size j o ≡ o
none_same None size j inside = by_test (nat_lt j (pages_of size))
  where
    by_test : (b : Bool) → (if b then nothing else None) ≡ nothing
    by_test true = refl
    by_test false = refl
none_same (Some x) size j inside = uncut size j (Some x) (inside x refl)

module _ (d : Disk) (ino idx : ℕ) (row : Row) (fresh : List ℕ) (may : MayShare d ino idx row fresh) where
  abbrev log : Log
  log = shared_log d ino idx row.page fresh

  abbrev new : Disk
  new = shared_disk d ino idx row.page fresh

  abbrev size : ℕ
  size = size_of (d.inode ino).log

  abbrev was : ℕ
  was = may.by.block

  abbrev item : LogItem
  item = Write idx 1 row.page size Complete 0

  used : IsUsed (d.inode ino).use_of
  used = subst IsUsed (sym may.live) tt

  log_before : IsLog d.geometry ino (d.inode ino).log
  log_before = may.valid.logs ino may.in_table used

  abbrev grown : IsGrown (d.inode ino).log log
  grown = record { fresh = fresh; more = item ∷ []; pages = refl; items = refl }

  was_mapped : mapping (d.inode ino).log idx ≡ Some may.by
  was_mapped = sym (maps_before d ino log may.live idx) ∙ may.mapped

  in_size : idx < pages_of size
  in_size = mapping-below (d.inode ino).log idx may.by was_mapped

  in_file : idx < 4096
  in_file = maps-in_file d may.valid ino idx may.by may.in_table may.mapped

  has_row : IsSome (row_of (rows d) row.page)
  has_row = row_found (rows d) row may.has

  apart : was ≢ row.page
  apart e = none_or_some (row_of (rows d) was) may.no_row (subst (λ (p : ℕ). IsSome (row_of (rows d) p)) (sym e) has_row)

  one_more : length (spelled (item ∷ [])) ≡ 1
  unfolding spelling
  one_more = refl

  slots_now : count log ≡ count (d.inode ino).log + 1
  slots_now = count-grown (d.inode ino).log log grown ∙ ap (λ (n : ℕ). count (d.inode ino).log + n) one_more

  fresh_page : (k : ℕ) → k < length fresh → IsUnused d (slice_index fresh k)
  fresh_page k lt = may.fresh_unused (slice_index fresh k) (Contains-get_or fresh k 0 lt)

  log_or_fresh : (j k : ℕ) → j < length (d.inode ino).log.pages → k < length fresh → slice_index (d.inode ino).log.pages j ≢ slice_index fresh k
  log_or_fresh j k jl kl same =
      (fresh_page k kl).free.in_no_log (record {
        ino = ino;
        in_table = may.in_table;
        used = used;
        listed = subst (Contains (d.inode ino).log.pages)
            same (Contains-get_or (d.inode ino).log.pages j 0 jl);
      })

  paged_after : IsPaged d.geometry log
  paged_after = record {
    fits = may.room ∙ ap (λ (n : ℕ). (n + 62) / 63) (sym slots_now);
    in_data = append-in_data (d.inode ino).log.pages fresh log_before.paged.apart may.fresh_apart log_or_fresh d.geometry log_before.paged.in_data
        (λ k lt. (fresh_page k lt).free.data_page);
    apart = append-apart (d.inode ino).log.pages fresh log_before.paged.apart may.fresh_apart log_or_fresh;
  }

  row_in_data : InData d.geometry row.page
  row_in_data = read_in_data d may.valid row.page (inr has_row)

  stands_as : (n : ℕ) → n ≡ ino → 1 ≤ n → MayStand d.geometry ino item
  stands_as zero e some = absurd (omega (arith, some))
  stands_as (suc k) e some = subst (λ (i : ℕ). MayStand d.geometry i item) e (row_in_data, subst (InData d.geometry) (same row.page) row_in_data)
    where
      same : (p : ℕ) → p ≡ p + 1 - 1
      same p = omega arith

  good : IsLog d.geometry ino log
  good = record {
    paged = paged_after;
    spelled = All-append IsSpelled (d.inode ino).log.items (item ∷ []) log_before.spelled
        (All-cons IsSpelled item [] (omega arith, omega arith, omega (arith, in_size), size-small (d.inode ino).log log_before.spelled, omega arith)
        (All-nil IsSpelled));
    standing = All-append (MayStand d.geometry ino) (d.inode ino).log.items (item ∷ []) log_before.standing
        (All-cons (MayStand d.geometry ino) item [] (stands_as ino refl may.file) (All-nil (MayStand d.geometry ino)));
  }

  -- the places
  abbrev slot : ℕ
  slot = slot_name log.pages (count (d.inode ino).log)

  maps_now : (j : ℕ) → maps new ino j ≡ after idx row.page size slot j (maps d ino j)
  maps_now j = maps_here d ino log may.live j ∙ mapping-grown d.geometry (d.inode ino).log log grown log_before.paged j ∙ ap
      (after idx row.page size slot j) (sym (maps_before d ino log may.live j))

  maps_this : maps new ino idx ≡ Some (by_item idx row.page size slot)
  maps_this = maps_now idx ∙ after_here idx row.page size slot (maps d ino idx) in_size

  below_size : (j : ℕ) (x : Mapping) → maps d ino j ≡ Some x → j < pages_of size
  below_size j x is = mapping-below (d.inode ino).log j x (sym (maps_before d ino log may.live j) ∙ is)

  maps_there : (j : ℕ) → j ≢ idx → maps new ino j ≡ maps d ino j
  maps_there j ne = maps_now j ∙ after_there idx row.page size slot j (maps d ino j) ne ∙ none_same (maps d ino j) size j (below_size j)

  on_page : (by_item idx row.page size slot).block ≡ row.page
  on_page = omega arith

  pub remaps : RemapsPlace ino idx d new
  remaps = record {
    in_inode = record { inodes = ap (λ (g : Geometry). g.inodes) (same_geometry d ino log); in_table = may.in_table; others = maps_others d ino log };
    in_file = in_file;
    other_places = maps_there;
  }

  pub moves : MovesMapping was row.page d new
  moves = subst (λ (p : ℕ). MovesMapping was p d new) on_page (place_mapped_over ino idx d new remaps may.by (by_item idx row.page size slot)
      may.mapped maps_this (λ e. apart (e ∙ on_page)))

  size_kept : size_of log ≡ size
  size_kept = size-grown (d.inode ino).log log grown

  -- counts
  one_row : (other : Row) → Contains (rows d) other → other.page ≡ row.page → other ≡ row
  one_row other has e = distinct_same (λ (r : Row). r.page) (rows d) may.valid.rows_apart.page other row has may.has e

  not_was : (other : Row) → Contains (rows d) other → other.page ≢ was
  not_was other has = none_listed (rows d) was may.no_row other has

  near_row : (other : Row) → Contains (rows d) other → (other.page ≡ row.page) ⊎ (other.page ≢ row.page)
      → (mappings new other.page ≡ mappings d other.page) ⊎ IsNear new other
  near_row other has (inr ne) = inl (moves.others other.page (not_was other has) ne)
  near_row other has (inl e) = inr (subst (IsNear new) (sym (one_row other has e)) here)
    where
      here : IsNear new row
      here = let before = All-contains (IsNear d) (rows d) row may.valid.near may.has in
          (omega (arith, moves.more, may.raised), omega (arith, moves.more, before.1))

  near_now : Near new
  near_now = near_stays d new (same_rows d ino log) may.valid.near (λ other has. near_row other has (cases_eq other.page row.page))

  few_by : (page : ℕ) → IsNone (row_of (rows d) page) → (page ≡ was) ⊎ (page ≢ was) → mappings new page ≤ 1
  few_by page none (inl e) = let here : mappings new page ≡ mappings new was = ap (mappings new) e in
      omega (arith, here, moves.less, may.valid.single.unshared was may.no_row)
  few_by page none (inr ne) =
      omega (
        arith,
        moves.others page ne (λ e. none_or_some (row_of (rows d) page) none (subst (λ (p : ℕ). IsSome (row_of (rows d) p)) (sym e)
            has_row)),
        may.valid.single.unshared page none,
      )

  -- pages
  was_is_mapped : IsMapped d was
  was_is_mapped = record {
    ino = ino;
    idx = idx;
    maps_to = record {
      in_table = may.in_table;
      in_file = in_file;
      by = may.by;
      is = may.mapped;
      block = refl;
    };
  }

  pages_from : (page : ℕ) → Contains log.pages page → Contains (d.inode ino).log.pages page ⊎ Contains fresh page
  pages_from page = Contains-append_cases (d.inode ino).log.pages fresh page

  log_page_at : (page : ℕ) (p : IsLogPage new page) → (p.ino ≡ ino) ⊎ (p.ino ≢ ino) → IsLogPage d page ⊎ Contains fresh page
  log_page_at page p (inl e) = ⊎_elim
      (λ (old : Contains (d.inode ino).log.pages page). inl (record { ino = ino; in_table = may.in_table; used = used; listed = old }))
      (λ (taken : Contains fresh page). inr taken)
      (pages_from page (subst (λ (l : Log). Contains l.pages page) (log_here d ino log) (subst (λ (i : ℕ). Contains (new.inode i).log.pages page) e
      p.listed)))
  log_page_at page p (inr ne) = inl (record {
    ino = p.ino;
    in_table = below d ino log p.ino p.in_table;
    used = subst IsUsed (use_same d ino log p.ino) p.used;
    listed = subst (λ (n : Inode). Contains n.log.pages page) (at_other d ino log p.ino ne) p.listed;
  })

  to_new : (page : ℕ) → InData d.geometry page → InData new.geometry page
  to_new page = subst (λ (g : Geometry). InData g page) (sym (same_geometry d ino log))

  not_row_page : (page : ℕ) → IsFree d page → page ≢ row.page → page ≢ was → mappings new page ≡ 0
  not_row_page page free ne ne' = moves.others page ne' ne ∙ free.unmapped

  -- a page that was free isn't the one that the place was on
  free_not_was : (page : ℕ) → IsFree d page → page ≢ was
  free_not_was page free e = omega (arith, moves.less, free.unmapped, ap (mappings d) e)

  -- nor the row's, where that is mapped; and where it isn't, it is taken
  free_kept : (page : ℕ) → IsFree d page → page ≢ row.page → (Contains fresh page → ⊥) → IsFree new page
  free_kept page free ne not = record {
    data_page = to_new page free.data_page;
    in_no_log = λ p. ⊎_elim (λ (old : IsLogPage d page). free.in_no_log old) not (log_page_at page p (cases_eq p.ino ino));
    unmapped = not_row_page page free ne (free_not_was page free);
  }

  pub was_freed : IsFree new was
  was_freed = record {
    data_page = to_new was (read_in_data d may.valid was (inl was_is_mapped));
    in_no_log = λ p. ⊎_elim (λ (old : IsLogPage d was). may.valid.single.log_unmapped was old was_is_mapped)
        (λ (taken : Contains fresh was). omega (arith, moves.less, (may.fresh_unused was taken).free.unmapped))
        (log_page_at was p (cases_eq p.ino ino));
    unmapped = omega (arith, moves.less, may.valid.single.unshared was may.no_row);
  }

  spared : (page : ℕ) → IsLeft d fresh was row.page page → IsFree new page
  spared page (was_free free not ne) = free_kept page free ne not
  spared page (was_place e) = subst (IsFree new) (sym e) was_freed

  by_block : (j : ℕ) (m : Mapping) → maps new ino j ≡ Some m → IsReadPage d m.block
  by_block j m is = elim (cases_eq j idx) [
    | inl e ↦ inr (subst (λ (p : ℕ). IsSome (row_of (rows d) p)) (sym on_page ∙ ap (λ (x : Mapping). x.block)
        (one (by_item idx row.page size slot) m (sym maps_this ∙ ap (maps new ino) (sym e) ∙ is))) has_row)
    | inr ne ↦ inl (record {
      ino = ino;
      idx = j;
      maps_to = record {
        in_table = may.in_table;
        in_file = maps-in_file d may.valid ino j m may.in_table (sym (maps_there j ne) ∙ is);
        by = m;
        is = sym (maps_there j ne) ∙ is;
        block = refl;
      };
    })
  ]
    where
      one : (x y : Mapping) → Some x ≡ Some y → x ≡ y
      one x y e = cc

  pub names_same : (name : List ℕ) → named new name ≡ named d name
  unfolding named
  names_same name = ap (λ (n : Inode). named_after name None n.log.items) (at_other d ino log 0 (λ e. omega (arith, e, may.file)))

  pub is_relog : IsRelog d ino log
  is_relog = record {
    valid = may.valid;
    in_table = may.in_table;
    live = may.live;
    good = good;
    pages = λ page listed. ⊎_elim (λ (old : Contains (d.inode ino).log.pages page). inl old)
        (λ (taken : Contains fresh page). inr (may.fresh_unused page taken)) (pages_from page listed);
    reads = λ j m is. by_block j m (maps_here d ino log may.live j ∙ is);
    names = names_same;
    few = λ page none. few_by page none (cases_eq page was);
    near = near_now;
    roomy = let two = may.left in (two.0, two.1, two.2, spared two.0 two.3, spared two.1 two.4);
  }

  pub shared_valid : IsValid new
  shared_valid = relogged_valid d ino log is_relog

  -- what is said
  abbrev tail : ℕ
  tail = tail_at log.pages (count log)

  abbrev grown_here : IsGrown (d.inode ino).log (new.inode ino).log
  grown_here = record {
    fresh = fresh;
    more = item ∷ [];
    pages = ap (λ (l : Log). l.pages) (log_here d ino log);
    items = ap (λ (l : Log). l.items) (log_here d ino log);
  }

  fresh_prepared : (a v : ℕ) → Fresh ino d new a v → Prepared ino (d.inode ino).log log a v
  fresh_prepared a v (in_log prepared) = subst (λ (l : Log). Prepared ino (d.inode ino).log l a v) (log_here d ino log) prepared
  fresh_prepared a v (in_page page k small mapped unread place value) = absurd (unread (mapped_read d ino log is_relog page mapped))

  shared_differs : DiffersAt (DiskSays d) (DiskSays new) (Prepared ino (d.inode ino).log log) (inode_word ino 2) tail
  shared_differs a v told = ⊎_elim
      (λ (new_tail : (a ≡ inode_word ino 2) × (v ≡ tail_at (new.inode ino).log.pages (count (new.inode ino).log))). inl
      (new_tail.0, new_tail.1 ∙ ap (λ (l : Log). tail_at l.pages (count l)) (log_here d ino log)))
      (λ (rest : (a ≢ inode_word ino 2) × (DiskSays d a v ⊎ Fresh ino d new a v)). inr (
        rest.0,
        ⊎_elim (λ (was : DiskSays d a v). inl was)
            (λ (new_word : Fresh ino d new a v). inr (fresh_prepared a v new_word)) rest.1,
      ))
      (relogged_differs ino d new (relogs d ino log) grown_here may.in_table (λ i lt u. (may.valid.logs i lt u).paged)
      (subst (IsPaged d.geometry) (sym (log_here d ino log)) paged_after) used
      (λ page read. read_in_data d may.valid page (read_before d ino log is_relog page read))
      (λ page mapped. inl (mapped_read d ino log is_relog page mapped)) a v told)

  pub shared_images : (who : ℕ) (s t : State) → Agree t.now t.past → length t.now ≡ 512 * d.geometry.pages → Stands (DiskSays d) s
      → IsReady who (Prepared ino (d.inode ino).log log) s → LeavesOnly s t (IsCommitted who (inode_word ino 2) tail s)
      → LeavesOnly s t (λ c. StandsFor c d ⊎ StandsFor c new)
  shared_images who s t agree size stands ready leaves = record {
    extends = leaves.extends;
    each = λ m c late left.
        let long : length c ≡ 512 * d.geometry.pages = length-left t.past t.now m c agree left ∙ size in
        ⊎_elim (λ (before : Reads (DiskSays d) c). inl (stands_for_read d c may.valid before long))
        (λ (after : Reads (DiskSays new) c). inr
        (stands_for_read new c shared_valid after (long ∙ ap (λ (g : Geometry). 512 * g.pages) (sym (same_geometry d ino log)))))
        (reads_old_or_new (DiskSays d) (DiskSays new) (Prepared ino (d.inode ino).log log) who (inode_word ino 2) tail s c shared_differs stands ready
        (leaves.each m c late left));
  }

  pub shared_stands : (who : ℕ) (s t : State) → length s.now ≡ 512 * d.geometry.pages → Stands (DiskSays d) s
      → IsReady who (Prepared ino (d.inode ino).log log) s → IsDone who (inode_word ino 2) tail s t → StoresOnly (λ a. a ≡ inode_word ino 2) s t
      → Stands (DiskSays new) t
  shared_stands who s t size stands ready done only =
      stands_new (DiskSays d) (DiskSays new) (Prepared ino (d.inode ino).log log) who (inode_word ino 2) tail s t shared_differs stands ready
      tail_inside done only
    where
      tail_inside : inode_word ino 2 < length s.now
      tail_inside = let low = inode_word_low d.geometry ino 2 may.in_table (omega arith) in omega (arith, low, may.valid.accepted.room, size)

  pub shares_place : SharesPlace d new ino idx row.page was
  shares_place = record {
    here = record { by = by_item idx row.page size slot; is = maps_this; block = on_page; flag = refl; mask = refl };
    remaps = remaps;
    moves = moves;
    rows_same = same_rows d ino log;
    size_same = ap size_of (log_here d ino log) ∙ size_kept;
  }

  -- files
  sizes : (i : ℕ) → size_of (new.inode i).log ≡ size_of (d.inode i).log
  sizes i = elim (cases_eq i ino) [
    | inl e ↦ subst (λ (j : ℕ). size_of (new.inode j).log ≡ size_of (d.inode j).log) (sym e) (ap size_of (log_here d ino log) ∙ size_kept)
    | inr ne ↦ ap (λ (n : Inode). size_of n.log) (at_other d ino log i ne)
  ]

  byte_same : (page k : ℕ) → byte_of new page k ≡ byte_of d page k
  byte_same page k = ap (λ (v : ℕ). v / 256 ^ (k % 8) % 256) (same_word d ino log page (k / 8))

  mapped_byte_same : (k : ℕ) (m : Option Mapping) → mapped_byte new k m ≡ mapped_byte d k m
  mapped_byte_same k None = refl
  mapped_byte_same k (Some m) = byte_same m.block k

  place_byte : (i j k : ℕ) → k < 4096 → (i ≡ ino) × (j ≡ idx) ⊎ (maps new i j ≡ maps d i j) → mapped_byte new k (maps new i j) ≡ mapped_byte d k
      (maps d i j)
  place_byte i j k small (inr same) = ap (mapped_byte new k) same ∙ mapped_byte_same k (maps d i j)
  place_byte i j k small (inl here) =
      ap (λ (n : ℕ). mapped_byte new k (maps new n j)) here.0 ∙ ap (λ (n : ℕ). mapped_byte new k (maps new ino n)) here.1 ∙ ap (mapped_byte new k)
      maps_this
      ∙ byte_same (by_item idx row.page size slot).block k ∙ ap (λ (p : ℕ). byte_of d p k) on_page ∙ byte_equal d row.page was k may.equal small
      ∙ ap (mapped_byte d k) (sym may.mapped) ∙ ap (λ (n : ℕ). mapped_byte d k (maps d ino n)) (sym here.1) ∙ ap
      (λ (n : ℕ). mapped_byte d k (maps d n j)) (sym here.0)

  where_it_is : (i j : ℕ) → (i ≡ ino) × (j ≡ idx) ⊎ (maps new i j ≡ maps d i j)
  where_it_is i j = elim (cases_eq i ino) [
    | inl e ↦ elim (cases_eq j idx) [
      | inl f ↦ inl (e, f)
      | inr ne ↦ inr (subst (λ (n : ℕ). maps new n j ≡ maps d n j) (sym e) (maps_there j ne))
    ]
    | inr ne ↦ inr (maps_others d ino log i j ne)
  ]

  bytes_same : (i : ℕ) → bytes new i ≡ bytes d i
  bytes_same i = same_number_lists (bytes new i) (bytes d i) (length-bytes new i ∙ sizes i ∙ sym (length-bytes d i))
      (λ j lt. byte j (omega (arith, lt, length-bytes new i)))
    where
      byte : (j : ℕ) → j < size_of (new.inode i).log → slice_index (bytes new i) j ≡ slice_index (bytes d i) j
      byte j lt = byte_at new i j lt ∙ place_byte i (j / 4096) (j % 4096) (omega arith) (where_it_is i (j / 4096)) ∙ sym
          (byte_at d i j (omega (arith, lt, sizes i)))

  pub keeps_files : KeepsFiles d new
  keeps_files = record {
    names = names_same;
    bytes_same = bytes_same;
    files_same = λ name. ap (option_map (bytes new)) (names_same name) ∙ by_found
        (named d name);
  }
    where
      by_found : (r : Option ℕ) → option_map (bytes new) r ≡ option_map (bytes d) r
      by_found None = refl
      by_found (Some i) = ap Some (bytes_same i)

  -- free pages
  log_page_kept : (page : ℕ) → IsLogPage d page → IsLogPage new page
  log_page_kept page p = elim (cases_eq p.ino ino) [
    | inl e ↦ record {
      ino = ino;
      in_table = above d ino log ino may.in_table;
      used = subst IsUsed (sym (use_same d ino log ino)) used;
      listed = subst (λ (l : Log). Contains l.pages page) (sym (log_here d ino log))
          (Contains-append_left (d.inode ino).log.pages fresh page (subst (λ (i : ℕ). Contains (d.inode i).log.pages page) e p.listed));
    }
    | inr ne ↦ record {
      ino = p.ino;
      in_table = above d ino log p.ino p.in_table;
      used = subst IsUsed (sym (use_same d ino log p.ino)) p.used;
      listed = subst (λ (n : Inode). Contains n.log.pages page) (sym (at_other d ino log p.ino ne)) p.listed;
    }
  ]

  fresh_log_page : (page : ℕ) → Contains fresh page → IsLogPage new page
  fresh_log_page page taken = record {
    ino = ino;
    in_table = above d ino log ino may.in_table;
    used = subst IsUsed (sym (use_same d ino log ino)) used;
    listed = subst (λ (l : Log). Contains l.pages page) (sym (log_here d ino log)) (Contains-append_right (d.inode ino).log.pages fresh page taken);
  }

  free_only : (page : ℕ) → IsFree new page → IsFree d page ⊎ (page ≡ was)
  free_only page free = elim (cases_eq page was) [
    | inl e ↦ inr e
    | inr ne ↦ inl (record {
      data_page = subst (λ (g : Geometry). InData g page) (same_geometry d ino log) free.data_page;
      in_no_log = λ p. free.in_no_log (log_page_kept page p);
      unmapped = sym (moves.others page ne (λ e. omega (arith, moves.more, free.unmapped, ap (mappings new) e))) ∙ free.unmapped;
    })
  ]

  pub frees_page : FreesPage d new fresh was row.page
  frees_page = record {
    freed = was_freed;
    row_taken = λ free. omega (arith, moves.more, free.unmapped);
    fresh_taken = λ page taken free. free.in_no_log (fresh_log_page page taken);
    kept = λ page free not ne. free_kept page free ne not;
    only = free_only;
  }

  -- what every image of this program has
  page_bytes_same : (page : ℕ) → page_bytes new page ≡ page_bytes d page
  unfolding page_bytes with_log
  page_bytes_same page = refl

  row_kept : (page : ℕ) → HasRow d page → HasRow new page
  row_kept page there = subst (λ (rs : List Row). IsSome (row_of rs page)) (sym (same_rows d ino log)) there

  now_by : (i j : ℕ) (m : Mapping) → LivePlace new i j m → (i ≡ ino) × (j ≡ idx) → m.block ≡ row.page
  now_by i j m place here = ap (λ (x : Mapping). x.block)
      (one m (by_item idx row.page size slot) (sym place.maps ∙ ap (λ (n : ℕ). maps new n j) here.0 ∙ ap (maps new ino) here.1 ∙ maps_this)) ∙ on_page
    where
      one : (x y : Mapping) → Some x ≡ Some y → x ≡ y
      one x y e = cc

  abbrev old_place : (i j : ℕ) (m : Mapping) → LivePlace new i j m → maps new i j ≡ maps d i j → LivePlace d i j m
  old_place i j m place same = record {
    in_table = below d ino log i place.in_table;
    live = sym (use_same d ino log i) ∙ place.live;
    maps = sym same ∙ place.maps;
  }

  module _ (print : Print) (own : IsOwn print d) where
    zeros_by : (i j k : ℕ) (m : Mapping) → LivePlace new i j m → size_of (new.inode i).log ≤ 4096 * j + k → k < 4096
        → (i ≡ ino) × (j ≡ idx) ⊎ (maps new i j ≡ maps d i j) → byte_of new m.block k ≡ 0
    zeros_by i j k m place past small (inr same) = byte_same m.block k ∙ own.zeros i j k m (old_place i j m place same)
        (subst (λ (n : ℕ). n ≤ 4096 * j + k) (sizes i) past) small
    zeros_by i j k m place past small (inl here) =
        byte_same m.block k ∙ ap (λ (p : ℕ). byte_of d p k) (now_by i j m place here) ∙ byte_equal d row.page was k may.equal small
        ∙ own.zeros ino idx k may.by (record { in_table = may.in_table; live = may.live; maps = may.mapped })
        (subst (λ (n : ℕ). size_of (d.inode n).log ≤ 4096 * idx + k) here.0 (subst (λ (n : ℕ). size_of (d.inode i).log ≤ 4096 * n + k) here.1
        (subst (λ (n : ℕ). n ≤ 4096 * j + k) (sizes i) past))) small

    complete_by : (i j : ℕ) (m : Mapping) → LivePlace new i j m → m.flag ≡ Complete → (i ≡ ino) × (j ≡ idx) ⊎ (maps new i j ≡ maps d i j)
        → IsAlone m ⊎ HasRow new m.block
    complete_by i j m place done (inl here) = inr (row_kept m.block (subst (HasRow d) (sym (now_by i j m place here)) has_row))
    complete_by i j m place done (inr same) = ⊎_elim (λ alone. inl alone) (λ (there : HasRow d m.block). inr (row_kept m.block there))
        (own.complete i j m (old_place i j m place same) done)

    pub own_kept : IsOwn print new
    own_kept = record {
      zeros = λ i j k m place past small. zeros_by i j k m place past small (where_it_is i j);
      prints = subst (All (λ r. r.print ≡ print (page_bytes new r.page))) (sym (same_rows d ino log))
          (All-weaker (λ (r : Row). r.print ≡ print (page_bytes d r.page)) (λ (r : Row). r.print ≡ print (page_bytes new r.page))
          (λ r is. is ∙ ap print (sym (page_bytes_same r.page))) (rows d) own.prints);
      complete = λ i j m place done. complete_by i j m place done (where_it_is i j);
    }

  -- updates under way
  pub balance_kept : (raised added dropped : ℕ) → IsBalanced d row (raised + 1) added dropped → IsBalanced new row raised (added + 1) dropped
  balance_kept raised added dropped is = record { updates = omega (arith, is.updates); references = omega (arith, is.references, moves.more) }

  pub others_balanced : (other : Row) → Contains (rows d) other → other ≢ row → (raised added dropped : ℕ) → IsBalanced d other raised added dropped
      → IsBalanced new other raised added dropped
  others_balanced other has ne raised added dropped is = record {
    updates = is.updates;
    references = ap (λ (n : ℕ). n + dropped) (moves.others other.page (not_was other has) (λ e. ne (one_row other has e))) ∙ is.references;
  }
