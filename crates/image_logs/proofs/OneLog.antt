-- What one log says of the uses of pages.
use Rattle.std.proofs.Common.{◌≡◌, ◌≢◌, ℕ, zero, suc, ◌+◌, ◌-◌, ◌<◌, ◌≤◌, List, [], ◌∷◌, length, map, get_or, refl, sym, ◌∙◌, ap, subst, arith}
use Rattle.std.specs.Prelude.{slice_index, Option, Some, None, All}
use Rattle.std.specs.Option.{option_map}
use Rattle.std.proofs.lemmas.List.Elements.{All-nil, All-cons, All-head, All-tail, All-contains}
use Rattle.std.proofs.lemmas.Grind.{get_or_default_zero}
use Rattle.pm_layout.specs.declared.Geometry.{Geometry}
use Rattle.pm_layout.specs.Geometry.{IsAccepted, InData}
use Rattle.log_entry.specs.Spelling.{IsSpelled, spelling}
use Rattle.log_entry.specs.declared.item.LogItem.{LogItem}
use Rattle.log_entry.specs.declared.item.LogItem.TheVariants.{Write, Size, Add, Forget}
use Rattle.dn_model.specs.Log.{Log, Placed, placed, placed_from}
use Rattle.dn_model.specs.Maps.{Mapping as DiskMapping, mapping}
use Rattle.dn_model.specs.Counts.{hit}
use Rattle.dn_model.specs.Valid.{MayStand, IsLog}
use Rattle.law_write.proofs.Counting.{total-same}
use Rattle.law_write.proofs.Unread.{mapping_set_by}
use Rattle.law_write.proofs.MappedPlaces.{size-small}
use Rattle.log_walk.specs.Items.{seen}
use Rattle.log_walk.specs.declared.items.Placed.{Placed as PlacedItem}
use Rattle.log_walk.specs.Walk.{HasWholeLog}
use Rattle.log_walk.specs.Laws.{ReadsAs}
use Rattle.log_walk.proofs.OneEnd.{one_log, log_or_fault}
use Rattle.file_content.specs.Content.{kept}
use Rattle.file_scan.specs.Index.{MayBeIndexed, HasSmallBlocks, IsIndexOf}
use Rattle.file_scan.specs.Names.{IsNamesOf}
use Rattle.file_scan.specs.declared.index.FileIndex.{FileIndex}
use Rattle.image_logs.specs.declared.logs.LogsRead.{LogsRead}
use Rattle.image_logs.specs.declared.logs.FileLog.{FileLog}
use Rattle.image_logs.specs.Usage.{page_hit, listed, mapped_by, CountsPages}
use Rattle.image_logs.specs.Logs.{AddsLog, HasRoom, IsLogOf, log_page}
use Rattle.image_logs.proofs.Hits.{hits-few, listed-once, pages-few}

-- items of a log may be indexed
small_blocks : (g : Geometry) (ino : ℕ) → IsAccepted g → (x : LogItem) → IsSpelled x → MayStand g ino x → HasSmallBlocks x
small_blocks g zero accepted (Write first n block size flag mask) spelled may = absurd may
small_blocks g (suc k) accepted (Write first n block size flag mask) spelled may = omega (arith, may.1.high, accepted.few_pages, spelled.0)
small_blocks g ino accepted (Size size) spelled may = tt
small_blocks g ino accepted (Add i name) spelled may = tt
small_blocks g ino accepted (Forget name) spelled may = tt

abbrev rest : List Placed → List Placed
rest [] = []
rest (p ∷ ps) = ps

cons_not_nil : (p : Placed) (ps : List Placed) → p ∷ ps ≡ [] → ⊥
cons_not_nil p ps e = cc

may_index : (g : Geometry) (ino : ℕ) → IsAccepted g → (pages : List ℕ) (k : ℕ) (xs : List LogItem) (ps : List PlacedItem) → All IsSpelled xs
    → All (MayStand g ino) xs → map seen ps ≡ placed_from pages k xs → All MayBeIndexed ps
may_index g ino accepted pages k xs [] spelled may e = All-nil MayBeIndexed
may_index g ino accepted pages k [] (p ∷ ps) spelled may e = absurd (cons_not_nil (seen p) (map seen ps) e)
may_index g ino accepted pages k (x ∷ xs) (p ∷ ps) spelled may e =
    let same : x ≡ p.item = sym (ap (λ (qs : List Placed). (get_or qs 0 (seen p)).item) e) in
    let s : IsSpelled x = All-head IsSpelled x xs spelled in
    let m : MayStand g ino x = All-head (MayStand g ino) x xs may in
    All-cons MayBeIndexed p ps (subst (λ (y : LogItem). IsSpelled y × HasSmallBlocks y) same (s, small_blocks g ino accepted x s m))
    (may_index g ino accepted pages (k + length (spelling x)) xs ps (All-tail IsSpelled x xs spelled) (All-tail (MayStand g ino) x xs may)
    (ap rest e))

-- the page to which a place is mapped
pub block_in : (g : Geometry) (ino : ℕ) (log : Log) → IsLog g ino log → (idx : ℕ) (m : DiskMapping) → mapping log idx ≡ Some m → m.block < g.pages
block_in g zero log valid idx m is =
    let s = mapping_set_by log idx m is in
    absurd (All-contains (MayStand g 0) log.items (Write s.first s.n s.block s.size s.flag s.mask) valid.standing s.listed)
block_in g (suc k) log valid idx m is =
    let s = mapping_set_by log idx m is in
    let may : InData g s.block × InData g (s.block + s.n - 1) = All-contains (MayStand g (suc k)) log.items
    (Write s.first s.n s.block s.size s.flag s.mask) valid.standing s.listed in
    omega (arith, s.is, s.low, s.high, may.1.high)

hit_kept : (p : ℕ) (o : Option DiskMapping) → page_hit p (option_map (λ m. m.block) (option_map kept o)) ≡ hit p o
hit_kept p None = refl
hit_kept p (Some m) = refl

kept_block : (o : Option DiskMapping) (page : ℕ) → option_map (λ m. m.block) (option_map kept o) ≡ Some page
    → (m : DiskMapping) × (o ≡ Some m) × (m.block ≡ page)
kept_block None page e = cc
kept_block (Some m) page e = (m, refl, same m.block page e)
  where
    same : (a b : ℕ) → Some a ≡ Some b → a ≡ b
    same a b e = cc

module _ (g : Geometry) (c : List ℕ) (ino : ℕ) (pages : List ℕ) (items : List PlacedItem) (accepted : IsAccepted g)
    (has : HasWholeLog g c ino pages items) where
  whole : ReadsAs g c ino has.log
  whole = record { reads = has.reads; valid = has.valid }

  pub may_be_indexed : All MayBeIndexed items
  may_be_indexed = may_index g ino accepted has.log.pages 0 has.log.items items has.valid.spelled has.valid.standing has.items_are

  apart : (j k : ℕ) → j < length pages → k < length pages → slice_index pages j ≡ slice_index pages k → j ≡ k
  apart = subst (λ (ps : List ℕ). (j k : ℕ) → j < length ps → k < length ps → slice_index ps j ≡ slice_index ps k → j ≡ k) (sym has.pages_are)
      has.valid.paged.apart

  below : (k : ℕ) → k < length pages → slice_index pages k < g.pages
  below = subst (λ (ps : List ℕ). (k : ℕ) → k < length ps → slice_index ps k < g.pages) (sym has.pages_are)
      (λ k lt. (has.valid.paged.in_data k lt).high)

  pub all_below : All (λ (p : ℕ). p < g.pages) pages
  all_below k d lt = subst (λ (p : ℕ). p < g.pages) (sym (get_or_default_zero pages k d lt)) (below k lt)

  pub few_pages : length pages ≤ 65536
  few_pages = omega (arith, pages-few pages apart g.pages below, accepted.few_pages)

  module _ (index : FileIndex) (is : (log : Log) → map seen items ≡ placed log → IsIndexOf log index) where
    pub log_is : (log : FileLog) → log.items.items ≡ items → log.index ≡ index → log.pages ≡ length pages → IsLogOf g c ino log
    log_is log same_items same_index same_pages = record {
      index = λ l reads. rw same_index (is l (items_of l reads));
      pages = λ l reads. sym (same_pages ∙ ap length has.pages_are ∙ ap (λ (x : Log). length x.pages) (one_log g c ino has.log l whole reads));
      items = λ l reads. rw same_items (items_of l reads);
      indexed = rw same_items may_be_indexed;
      small = omega (
        arith,
        size-small has.log has.valid.spelled,
        (is has.log has.items_are).size_is,
        ap (λ (i : FileIndex). i.size) same_index,
      );
    }
      where
        items_of : (l : Log) → ReadsAs g c ino l → map seen items ≡ placed l
        items_of l reads = has.items_are ∙ ap placed (one_log g c ino has.log l whole reads)

    pub blocks_below : (idx page : ℕ) → mapped_by index.map.map idx ≡ Some page → page < g.pages
    blocks_below idx page e =
        let found = kept_block (mapping has.log idx) page (ap (option_map (λ m. m.block)) (sym ((is has.log has.items_are).places idx)) ∙ e) in
        omega (arith, block_in g ino has.log has.valid idx found.0 found.1, found.2)

    module _ (end : ℕ) (old new : LogsRead) (room : HasRoom g old) (small : end ≤ 4096) where
      pub adds_log : new.files ≡ old.files → new.dying ≡ old.dying → (ino ≢ 0 → new.names.map ≡ old.names.map)
          → (ino ≡ 0 → (log : Log) → map seen items ≡ placed log → IsNamesOf log new.names.map)
          → CountsPages (listed pages) (length pages) old.in_logs.items new.in_logs.items → CountsPages (mapped_by index.map.map) end old.mapped.items
          new.mapped.items
          → AddsLog g c ino end old new
      adds_log files dying same root logs places = record {
        faultless = λ place fault. log_or_fault g c ino place has.log whole fault;
        files = files;
        dying = dying;
        same_names = same;
        root_names = λ e log reads. root e log
            (has.items_are ∙ ap placed (one_log g c ino has.log log whole (subst (λ (i : ℕ). ReadsAs g c i log) (sym e) reads)));
        long_logs = logs.long;
        long_mapped = places.long;
        few_logs = λ p lt. omega (arith, logs.each p (omega (arith, lt, room.long_logs)), hits-few p (listed pages) (length pages), few_pages);
        few_mapped = λ p lt. omega (arith, places.each p (omega (arith, lt, room.long_mapped)), hits-few p (mapped_by index.map.map) end, small);
        in_logs = λ log reads p lt.
            let same_log : has.log ≡ log = one_log g c ino has.log log whole reads in
            logs.each p (omega (arith, lt, room.long_logs))
            ∙ ap (λ (n : ℕ). slice_index old.in_logs.items p + n) (listed-once pages apart p ∙ ap (λ (l : Log). log_page l p) same_pages ∙ ap
            (λ (l : Log). log_page l p) same_log);
        mapped = λ log reads p lt.
            let same_log : has.log ≡ log = one_log g c ino has.log log whole reads in
            places.each p (omega (arith, lt, room.long_mapped))
            ∙ ap (λ (n : ℕ). slice_index old.mapped.items p + n)
            (total-same (λ idx. hit p (mapping log idx)) (λ idx. page_hit p (mapped_by index.map.map idx)) end
            (λ idx below. ap (λ o. page_hit p (option_map (λ m. m.block) o)) ((is log (has.items_are ∙ ap placed same_log)).places idx) ∙ hit_kept p
            (mapping log idx)));
      }
        where
          same_pages : record { pages = pages; items = has.log.items } ≡ has.log
          same_pages = λ i. record { pages = has.pages_are i; items = has.log.items }
