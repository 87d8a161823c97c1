-- The disk on which a place has come to share a page: what it leaves, and what leads there.
use Rattle.std.proofs.Common.{
  ◌≡◌,
  ◌≢◌,
  ◌⊎◌,
  inl,
  inr,
  ⊎_elim,
  ℕ,
  ◌+◌,
  ◌-◌,
  ◌*◌,
  ◌/◌,
  ◌%◌,
  ◌<◌,
  ◌≤◌,
  Bool,
  true,
  List,
  [],
  ◌∷◌,
  length,
  refl,
  sym,
  ◌∙◌,
  ap,
  subst,
  arith,
}
use Rattle.std.specs.Prelude.{Option, Some, IsNone, Contains, slice_index, if◌then◌else◌, ◌&&◌, nat_le, nat_lt, IsBitSet}
use Rattle.std.proofs.lemmas.Bool.{cases_eq}
use Rattle.std.proofs.lemmas.Bool.Decides.{nat_tests}
use Rattle.std.proofs.lemmas.List.Elements.{Contains-append_cases, Contains-append_left, Contains-get_or}
use Rattle.pm_device.specs.State.{State}
use Rattle.pm_device.specs.Reading.{Said}
use Rattle.pm_device.specs.Pages.{IsInPage}
use Rattle.pm_device.proofs.Only.{stores_only-weaken}
use Rattle.pm_layout.specs.declared.Geometry.{Geometry}
use Rattle.pm_layout.specs.Geometry.{inode_word}
use Rattle.log_entry.specs.Spelling.{spelling, spelled, pages_of}
use Rattle.log_entry.specs.declared.item.Flag.TheVariants.{Complete}
use Rattle.log_entry.specs.declared.item.LogItem.{LogItem}
use Rattle.log_entry.specs.declared.item.LogItem.TheVariants.{Write}
use Rattle.file_content.specs.Content.{kept}
use Rattle.dn_model.specs.Growth.{IsGrown, Prepared, new_head, new_footer, new_slot}
use Rattle.dn_model.specs.Log.{Log, Placed, placed, placed_from, count, slot_name}
use Rattle.dn_model.specs.Maps.{Mapping, mapping, cut_to, size_of}
use Rattle.dn_model.specs.Table.{Row, row_of}
use Rattle.dn_model.specs.Disk.{Disk, Use, Live, maps, rows}
use Rattle.dn_model.specs.Counts.{total, IsFree}
use Rattle.dn_model.specs.Own.{Print, IsAlone, LivePlace, page_bytes}
use Rattle.dn_model.proofs.Append.{page-grown}
use Rattle.law_write.specs.Events.{IsUnused}
use Rattle.law_write.specs.WithLog.{with_log}
use Rattle.law_write.proofs.Counting.{total-same}
use Rattle.law_write.proofs.Mapped.{placed_from-append, mapping-grown}
use Rattle.log_entry.proofs.Spelled.{length-spelled-cons, spelling_some}
use Rattle.law_write.proofs.MappedPlaces.{mapping-below, uncut}
use Rattle.law_table.proofs.Rows.{listed_here, none_listed}
use Rattle.law_log_swap.proofs.Relogged.{log_here, at_other, use_same, same_geometry, same_word, same_rows, maps_others, maps_here, maps_before}
use Rattle.law_share.specs.Sharing.{MayShare, SharesPlace, FreesPage, shared_log, shared_disk}
use Rattle.law_share.proofs.Shared.{shares_place, frees_page, names_same}
use Rattle.dn_volume.specs.Accounts.{AccountsFor}
use Rattle.dn_volume.specs.Planned.{slot_of_row}
use Rattle.dn_volume.specs.Reclaims.{units_by_use, mapped_places, dying_units}
use Rattle.dn_volume.specs.Rely.{KeepsRest, IsWordOf, of_inode, of_log, of_page, LeavesRest}
use Rattle.reclaim.proofs.UnitsLost.{places_same}
use Rattle.dedupe_daemon.specs.Remapped.{IsShareWord, SharesOnly}
use Rattle.dedupe_daemon.proofs.ShareAppended.{share_used, share_paged}

no_bit : (m : Mapping) → m.mask ≡ 0 → IsAlone m → ⊥
no_bit m none alone = subst (λ (mask : ℕ). IsBitSet mask m.bit) none alone refl

-- items keep their places on longer pages
placed_longer : (old new : List ℕ) (end k : ℕ) (xs : List LogItem) → ((i : ℕ) → i < end → slice_index new (i / 63) ≡ slice_index old (i / 63))
    → k + length (spelled xs) ≤ end → placed_from new k xs ≡ placed_from old k xs
placed_longer old new end k [] same le = refl
placed_longer old new end k (x ∷ xs) same le =
    let more = length-spelled-cons x xs in let some = spelling_some x in
    (λ i. record { slot = same k (omega arith) i * 64 + k % 63; item = x } ∷ placed_longer old new end (k + length (spelling x)) xs same
    (omega arith) i)

some_size : (size idx : ℕ) (t : Bool) (x : Mapping) (m : Option Mapping) → t ≡ true → idx < pages_of size → cut_to size idx (if t then Some x else
    m) ≡ Some x
some_size size idx t x m is lt = ap (λ (b : Bool). cut_to size idx (if b then Some x else m)) is ∙ uncut size idx (Some x) lt

inside : (i : ℕ) → (nat_le i i && nat_lt i (i + 1)) ≡ true
inside i = grind (arith, nat_tests)

module _ (d : Disk) (ino idx : ℕ) (row : Row) (fresh : List ℕ) (may : MayShare d ino idx row fresh) where
  abbrev pub log : Log
  log = shared_log d ino idx row.page fresh

  abbrev pub e : Disk
  e = shared_disk d ino idx row.page fresh

  abbrev pub was : ℕ
  was = may.by.block

  abbrev pub size : ℕ
  size = size_of (d.inode ino).log

  abbrev grown : IsGrown (d.inode ino).log log
  grown = record { fresh = fresh; more = Write idx 1 row.page size Complete 0 ∷ []; pages = refl; items = refl }

  pub place : SharesPlace d e ino idx row.page was
  place = shares_place d ino idx row fresh may

  pub freed : FreesPage d e fresh was row.page
  freed = frees_page d ino idx row fresh may

  pub rows_still : rows e ≡ rows d
  rows_still = same_rows d ino log

  pub geometry_still : e.geometry ≡ d.geometry
  geometry_still = same_geometry d ino log

  -- the place
  abbrev pub item_slot : ℕ
  item_slot = slot_name log.pages (count (d.inode ino).log)

  abbrev pub new_mapping : Mapping
  new_mapping = record { block = row.page + (idx - idx); slot = item_slot; bit = idx - idx; flag = Complete; mask = 0 }

  was_mapped : mapping (d.inode ino).log idx ≡ Some may.by
  was_mapped = sym (maps_before d ino log may.live idx) ∙ may.mapped

  pub maps_now : maps e ino idx ≡ Some new_mapping
  maps_now = maps_here d ino log may.live idx ∙ mapping-grown d.geometry (d.inode ino).log log grown
      (may.valid.logs ino may.in_table (share_used d ino idx row fresh may)).paged idx
      ∙ some_size size idx (nat_le idx idx && nat_lt idx (idx + 1)) new_mapping (mapping (d.inode ino).log idx) (inside idx)
      (mapping-below (d.inode ino).log idx may.by was_mapped)

  pub kept_now : kept new_mapping ≡ record { block = row.page; slot = item_slot; bit = 0 }
  kept_now = ap (λ (z : ℕ). record { block = row.page + z; slot = item_slot; bit = z }) (omega arith) ∙ ap
      (λ (p : ℕ). record { block = p; slot = item_slot; bit = 0 }) (omega arith)

  pub on_page : new_mapping.block ≡ row.page
  on_page = omega arith

  pub maps_there : (i j : ℕ) → ((i ≡ ino) → j ≢ idx) → maps e i j ≡ maps d i j
  maps_there i j ne = elim (cases_eq i ino) [
    | inl same ↦ subst (λ (k : ℕ). maps e k j ≡ maps d k j) (sym same) (place.remaps.other_places j (ne same))
    | inr other ↦ maps_others d ino log i j other
  ]

  -- the item that is begun stands where it stood
  same_pages : placed_from log.pages 0 (d.inode ino).log.items ≡ placed_from (d.inode ino).log.pages 0 (d.inode ino).log.items
  unfolding count
  same_pages =
      let paged = (may.valid.logs ino may.in_table (share_used d ino idx row fresh may)).paged in
      placed_longer (d.inode ino).log.pages log.pages (length (spelled (d.inode ino).log.items)) 0 (d.inode ino).log.items
      (λ i lt. page-grown (d.inode ino).log log grown (i / 63) (omega (arith, lt, paged.fits))) (omega arith)

  pub placed_still : (p : Placed) → Contains (placed (d.inode ino).log) p → Contains (placed (e.inode ino).log) p
  placed_still p has =
      subst (λ (l : Log). Contains (placed l) p) (sym (log_here d ino log))
      (subst (λ (ps : List Placed). Contains ps p) (sym (placed_from-append log.pages 0 (d.inode ino).log.items grown.more))
      (Contains-append_left (placed_from log.pages 0 (d.inode ino).log.items)
      (placed_from log.pages (0 + length (spelled (d.inode ino).log.items)) grown.more) p
      (subst (λ (ps : List Placed). Contains ps p) (sym same_pages) has)))

  -- pages
  pub unused_on : (p : ℕ) → IsUnused d p → (Contains fresh p → ⊥) → IsUnused e p
  unused_on p unused out = record {
    free = freed.kept p unused.free out (λ same. none_listed (rows d) p unused.no_row row may.has (sym same));
    no_row = subst (λ (rs : List Row). IsNone (row_of rs p)) (sym rows_still) unused.no_row;
  }

  pub was_unused : IsUnused e was
  was_unused = record { free = freed.freed; no_row = subst (λ (rs : List Row). IsNone (row_of rs was)) (sym rows_still) may.no_row }

  pub unused_back : (p : ℕ) → IsUnused e p → (IsUnused d p × (Contains fresh p → ⊥)) ⊎ (p ≡ was)
  unused_back p unused = ⊎_elim
      (λ (free : IsFree d p). inl (
        record {
          free = free;
          no_row = subst (λ (rs : List Row). IsNone (row_of rs p)) rows_still unused.no_row;
        },
        (λ taken. freed.fresh_taken p taken unused.free),
      ))
      (λ (same : p ≡ was). inr same) (freed.only p unused.free)

  -- dying files have the places that they had
  live_units : (x : Disk) (i : ℕ) → (x.inode i).use_of ≡ Live → dying_units x i ≡ 0
  live_units x i live = ap (λ (u : Use). units_by_use u (mapped_places x i)) live

  units_each : (i : ℕ) → dying_units e i ≡ dying_units d i
  units_each i = elim (cases_eq i ino) [
    | inl here ↦
        let was_live : (d.inode i).use_of ≡ Live = ap (λ (j : ℕ). (d.inode j).use_of) here ∙ may.live in
        live_units e i (use_same d ino log i ∙ was_live) ∙ sym (live_units d i was_live)
    | inr ne ↦ ap (λ (u : Use). units_by_use u (mapped_places e i)) (use_same d ino log i) ∙ ap (units_by_use (d.inode i).use_of)
        (places_same d e i (λ j. maps_others d ino log i j ne))
  ]

  pub units_still : total e.geometry.inodes (dying_units e) ≡ total d.geometry.inodes (dying_units d)
  units_still = ap (λ (n : ℕ). total n (dying_units e)) (ap (λ (g : Geometry). g.inodes) geometry_still) ∙ total-same (dying_units d) (dying_units
      e)
      d.geometry.inodes (λ i lt. units_each i)

  -- what others have
  not_in : (i : ℕ) → (Contains (ino ∷ []) i → ⊥) → i ≢ ino
  not_in i out same = out (subst (Contains (ino ∷ [])) (sym same) (listed_here ino []))

  pub share_rest : KeepsRest (ino ∷ []) fresh d e
  share_rest = record {
    geometry = geometry_still;
    inode = λ i out. at_other d ino log i (not_in i out);
    named_so = λ i name some out. (
      (λ leads. sym (names_same d ino idx row fresh may name) ∙ leads),
      (λ leads. names_same d ino idx row fresh may name ∙ leads),
    );
    word = λ page k read. same_word d ino log page k;
    unused = λ page out unused. unused_on page unused out;
    slots = λ i j m lt out mapped. ap (λ (rs : List Row). slot_of_row (row_of rs m.block)) rows_still;
    counting = λ r has some. record {
      still = r;
      there = subst (λ (rs : List Row). Contains rs r) (sym rows_still) has;
      slot = refl;
      page = refl;
      print = refl;
    };
  }

  page_word : (page a : ℕ) → Contains log.pages page → IsInPage page a → IsWordOf (ino ∷ []) fresh d a
  page_word page a listed here = ⊎_elim
      (λ (old : Contains (d.inode ino).log.pages page). of_log ino page (listed_here ino []) may.in_table (share_used d ino idx row fresh may) old
      here)
      (λ (new : Contains fresh page). of_page page new here) (Contains-append_cases (d.inode ino).log.pages fresh page listed)

  head_word : (field a : ℕ) → field < 16 → a ≡ inode_word ino field → IsWordOf (ino ∷ []) fresh d a
  head_word field a small is = of_inode ino (listed_here ino []) may.in_table (omega (arith, is), omega (arith, is, small))

  prepared_word : (a v : ℕ) → Prepared ino (d.inode ino).log log a v → IsWordOf (ino ∷ []) fresh d a
  prepared_word a v (new_head none some is value) = head_word 1 a (omega arith) is
  prepared_word a v (new_footer k past lt is value) =
      page_word (slice_index log.pages k) a (Contains-get_or log.pages k 0 (omega (arith, lt))) (omega (arith, is), omega (arith, is))
  prepared_word a v (new_slot k j past lt small is value) =
      page_word (slice_index log.pages (k / 63)) a (Contains-get_or log.pages (k / 63) 0
      (omega (arith, lt, (share_paged d ino idx row fresh may).fits))) (omega (arith, is), omega (arith, is, small))

  pub item_word : (a : ℕ) → IsShareWord d ino idx row.page fresh a → IsWordOf (ino ∷ []) fresh d a
  item_word a said = ⊎_elim (λ (p : Said (Prepared ino (d.inode ino).log log) a). prepared_word a p.value p.told)
      (λ (tail : a ≡ inode_word ino 2). head_word 2 a (omega arith) tail) said

  pub share_leaves : (s t : State) → SharesOnly ino idx row.page fresh d s t → LeavesRest 15 (ino ∷ []) fresh d e s t
  share_leaves s t appends = record {
    rest = share_rest;
    only = stores_only-weaken (IsShareWord d ino idx row.page fresh) (IsWordOf (ino ∷ []) fresh d) s t item_word appends.only;
    others = λ q a other out lt flushed. appends.others.flushed q a other (λ item. out (item_word a item)) lt flushed;
  }

  pub bytes_still : (page : ℕ) → page_bytes e page ≡ page_bytes d page
  unfolding page_bytes with_log
  bytes_still page = refl

  pub pointer_still : (page : ℕ) → e.pointer page ≡ d.pointer page
  unfolding with_log
  pointer_still page = refl

  -- the place isn't left alone, and other places are what they were
  same_some : (x y : Mapping) → Some x ≡ Some y → x ≡ y
  same_some x y is = cc

  pub live_back : (i j : ℕ) (m : Mapping) → LivePlace e i j m → LivePlace d i j m ⊎ ((i ≡ ino) × (m ≡ new_mapping))
  live_back i j m at = elim (cases_eq i ino) [
    | inl same ↦ elim (cases_eq j idx) [
      | inl here ↦ inr (same, same_some m new_mapping (sym at.maps ∙ ap (λ (k : ℕ). maps e k j) same ∙ ap (maps e ino) here ∙ maps_now))
      | inr ne ↦ inl (old (sym (maps_there i j (λ e'. ne)) ∙ at.maps))
    ]
    | inr other ↦ inl (old (sym (maps_there i j (λ same. absurd (other same))) ∙ at.maps))
  ]
    where
      old : maps d i j ≡ Some m → LivePlace d i j m
      old mapped = record {
        in_table = subst (λ (g : Geometry). i < g.inodes) geometry_still at.in_table;
        live = sym (use_same d ino log i) ∙ at.live;
        maps = mapped;
      }

  pub share_accounts : (print : Print) → AccountsFor print d e
  share_accounts print = record {
    alone = λ i j m at alone. ⊎_elim
        (λ (old : LivePlace d i j m). inl (record { mapping = m; place = old; alone = alone; page_is = refl; bytes_are = bytes_still m.block }))
        (λ new. absurd (no_bit m (ap (λ (x : Mapping). x.mask) new.1) alone)) (live_back i j m at);
    row_pages = λ r has. inl (record {
      was = r;
      there = subst (λ (rs : List Row). Contains rs r) rows_still has;
      page_is = refl;
      bytes_are = bytes_still r.page;
    });
  }
