-- The bytes of a file that was cut, and what stays.
use Rattle.std.proofs.Common.{
  ◌≡◌,
  ◌≢◌,
  ◌⊎◌,
  inl,
  inr,
  ⊎_elim,
  ℕ,
  ◌+◌,
  ◌*◌,
  ◌/◌,
  ◌%◌,
  ◌^◌,
  ◌<◌,
  ◌≤◌,
  Bool,
  true,
  false,
  List,
  [],
  ◌∷◌,
  map,
  refl,
  sym,
  ◌∙◌,
  ap,
  subst,
  arith,
  zero-add,
}
use Rattle.std.specs.Prelude.{if◌then◌else◌, nat_lt, slice_index, Contains, Option, Some, None, IsSome, IsNone, All}
use Rattle.std.specs.List.{range_with_len}
use Rattle.std.specs.Option.{option_map}
use Rattle.std.proofs.lemmas.Bool.{cases_eq, cases_lt}
use Rattle.std.proofs.lemmas.Bool.Decides.{nat_tests}
use Rattle.std.proofs.lemmas.Grind.{same_number_lists}
use Rattle.std.proofs.lemmas.List.{get_or_past}
use Rattle.std.proofs.lemmas.List.Elements.{All-contains, Contains-append_left}
use Rattle.std.proofs.lemmas.List.FromFn.{length-map-range_with_len, get_or-map-range_with_len}
use Rattle.pm_layout.specs.declared.Geometry.{Geometry}
use Rattle.pm_layout.specs.Geometry.{InData}
use Rattle.log_entry.specs.Spelling.{pages_of}
use Rattle.log_entry.specs.Name.{same_name}
use Rattle.log_entry.specs.declared.item.Flag.{Flag}
use Rattle.log_entry.specs.declared.item.Flag.TheVariants.{Needed, Complete}
use Rattle.log_entry.proofs.SameName.{same_name-true, same_name-same}
use Rattle.dn_model.specs.Maps.{Mapping, cut_to, size_of}
use Rattle.dn_model.specs.Table.{Row, row_of}
use Rattle.dn_model.specs.Disk.{Disk, Inode, IsUsed, MapsTo, IsMapped, maps, rows}
use Rattle.dn_model.specs.Counts.{hit, mappings, IsLogPage, IsFree}
use Rattle.dn_model.specs.Files.{bytes, byte_of, mapped_byte, named, files, IsSameFiles}
use Rattle.dn_model.specs.Apply.{resized, bytes_or_none, after_op}
use Rattle.dn_model.specs.Own.{Print, page_bytes, LivePlace, IsAlone, HasRow, IsOwn}
use Rattle.dn_model.specs.declared.op.Op.TheVariants.{Cut as CutOp}
use Rattle.law_write.specs.Events.{IsReadPage, IsUnused}
use Rattle.law_write.specs.Writing.{Writes, WritesWell, IsNewMapping}
use Rattle.law_write.specs.Runs.{places_in, block_at}
use Rattle.law_write.proofs.Counting.{total-lt, total-some}
use Rattle.law_write.proofs.MappedPlaces.{maps-in_file, uncut, cut_some, cut_below}
use Rattle.law_write.proofs.WriteBytes.{length-bytes, byte_at}
use Rattle.law_write.proofs.WriteCounts.{hit_here, hit_other, places, place-le, places-le, own_or_other, maps_others, mappings-written, hit-written}
use Rattle.law_write.proofs.WriteFiles.{named-in_table, one_name, bytes-others}
use Rattle.law_write.proofs.WriteFree.{free-kept, fresh-not_free, block-not_free}
use Rattle.law_write.proofs.WriteValid.{use_kept, rows_kept, below_old, not_mapped, log_page_cases, named_same}
use Rattle.law_write.proofs.Unread.{read_in_data}
use Rattle.law_table.proofs.Rows.{row_found, all_listed}
use Rattle.law_cut.specs.Cutting.{
  last_page,
  refill_runs,
  cut_disk,
  MayRefill,
  MayCut,
  RefillsPage,
  Refills,
  EndsInZeros,
  GoesAway,
  past_end,
  refilled,
  IsDropped,
}
use Rattle.law_cut.specs.CutLaws.{CutsPlaces, Resizes, TakesAndDrops}
use Rattle.law_cut.proofs.Cutting.{refill_only, refill_inside, cut-writes, not_block}

map-same : (f g : ℕ → ℕ) (xs : List ℕ) → ((k : ℕ) → f k ≡ g k) → map f xs ≡ map g xs
map-same f g [] same = refl
map-same f g (x ∷ xs) same = (λ i. same x i ∷ map-same f g xs same i)

not_complete : (flag : Flag) → flag ≡ Needed → flag ≡ Complete → ⊥
not_complete flag needed complete = cc

one_mapping : (x y : Mapping) → Some x ≡ Some y → x ≡ y
one_mapping x y e = cc

cut_past : (size idx : ℕ) (m : Option Mapping) → pages_of size ≤ idx → cut_to size idx m ≡ None
cut_past size idx m past = ap (λ (b : Bool). if b then m else None) (test idx (pages_of size) past)
  where
    test : (a b : ℕ) → b ≤ a → nat_lt a b ≡ false
    test a b past = grind (arith, nat_tests)

-- a mapping that hits the page is there, with this block
hit_some : (page : ℕ) (m : Option Mapping) → 1 ≤ hit page m → (x : Mapping) × (m ≡ Some x) × (x.block ≡ page)
hit_some page None some = absurd (omega arith)
hit_some page (Some x) some = elim (cases_eq x.block page) [
  | inl e ↦ (x, refl, e)
  | inr ne ↦ absurd (omega (arith, hit_other page x ne))
]

-- the refilled page
refill_some : (r : Option ℕ) (d new : Disk) (ino size page : ℕ) → r ≡ Some page → Refills d new ino size r → RefillsPage d new ino size page
refill_some None d new ino size page e is = cc
refill_some (Some other) d new ino size page e is = let same : other ≡ page = cc in subst (RefillsPage d new ino size) same is

count_some : (r : Option ℕ) (size page : ℕ) → r ≡ Some page → (places_in (refill_runs size r) ≡ 1) × (block_at (refill_runs size r) 0 ≡ page)
count_some None size page e = cc
count_some (Some other) size page e = let same : other ≡ page = cc in (refl, omega (arith, same))

-- a place in the last page that isn't refilled holds nothing to clear
stays_clear : (r : Option ℕ) (d : Disk) (ino : ℕ) (fresh : List ℕ) (size : ℕ) → MayRefill d ino fresh size r
    → (size % 4096 ≡ 0) ⊎ ((size_of (d.inode ino).log ≤ size) ⊎ ((maps d ino (last_page size) ≡ None) ⊎ (places_in (refill_runs size r) ≡ 1)))
stays_clear None d ino fresh size (inl even) = inl even
stays_clear None d ino fresh size (inr (inl longer)) = inr (inl longer)
stays_clear None d ino fresh size (inr (inr none)) = inr (inr (inl none))
stays_clear (Some page) d ino fresh size may = inr (inr (inr refl))

module _ (d : Disk) (ino : ℕ) (fresh : List ℕ) (size : ℕ) (refill : Option ℕ) (word : ℕ → ℕ → ℕ) (may : MayCut d ino fresh size refill word) where
  abbrev new : Disk
  new = cut_disk d ino fresh size refill word

  abbrev w : Writes ino d new
  w = cut-writes d ino fresh size refill word may

  abbrev n : ℕ
  n = places_in (refill_runs size refill)

  abbrev q : ℕ
  q = last_page size

  in_size : q + n ≤ pages_of size
  in_size = refill_inside d ino fresh size refill may.refills

  few : n ≤ 1
  few = elim (cases_lt n 2) [
    | inl lt ↦ omega (arith, lt)
    | inr many ↦ let one : 1 ≡ 0 = (refill_only size refill 1 (omega (arith, many))).0 in omega (arith, one)
  ]

  -- the places
  gone : (idx : ℕ) → pages_of size ≤ idx → maps new ino idx ≡ None
  gone idx past = w.other idx (inr (omega (arith, in_size, past))) ∙ cut_past size idx (maps d ino idx) past

  stays : (idx : ℕ) → idx < pages_of size → (idx < q) ⊎ (q + n ≤ idx) → maps new ino idx ≡ maps d ino idx
  stays idx lt out = w.other idx out ∙ uncut size idx (maps d ino idx) lt

  out_of : (idx : ℕ) → (refill ≡ None) ⊎ (idx ≢ q) → (idx < q) ⊎ (q + n ≤ idx)
  out_of idx (inl none) = let zero_places : n ≡ 0 = ap (λ (r : Option ℕ). places_in (refill_runs size r)) none in elim (cases_lt idx q)
      [ inl lt ↦ inl lt | inr le ↦ inr (omega (arith, zero_places, le)) ]
  out_of idx (inr ne) = elim (cases_lt idx q) [ inl lt ↦ inl lt | inr le ↦ inr (omega (arith, few, le, ne)) ]

  pub cuts_places : CutsPlaces d new ino size refill
  cuts_places = record {
    size_is = w.last_size;
    gone = gone;
    anew = λ page e.
        let is = count_some refill size page e in
        subst (λ (idx : ℕ). IsNewMapping (maps new ino idx) page) (plus_zero q) (subst (IsNewMapping (maps new ino (q + 0))) is.1
        (w.own 0 (omega (arith, is.0))));
    kept = λ idx lt where_it_is. stays idx lt (out_of idx where_it_is);
    others = maps_others ino d new w;
  }
    where
      plus_zero : (a : ℕ) → a + 0 ≡ a
      plus_zero a = omega arith

  module _ (ok : WritesWell ino d new w) where
    -- the words of pages that are read stay
    byte_same : (page k : ℕ) → IsReadPage d page → byte_of new page k ≡ byte_of d page k
    byte_same page k read = ap (λ (v : ℕ). v / 256 ^ (k % 8) % 256) (w.relogs.word page (k / 8) read)

    was_read : (i idx : ℕ) (m : Mapping) → i < d.geometry.inodes → maps d i idx ≡ Some m → IsReadPage d m.block
    was_read i idx m lt is = inl
        (record {
          ino = i;
          idx = idx;
          maps_to = record {
            in_table = lt;
            in_file = maps-in_file d may.valid i idx m lt is;
            by = m;
            is = is;
            block = refl;
          };
        })

    -- a byte of the old mapping, also past the old end
    old_byte : EndsInZeros d ino → (j : ℕ) → mapped_byte new (j % 4096) (maps d ino (j / 4096)) ≡ slice_index (bytes d ino) j
    old_byte zeros j = by_map (maps d ino (j / 4096)) refl
      where
        place : 4096 * (j / 4096) + j % 4096 ≡ j
        place = omega arith

        by_map : (m : Option Mapping) → maps d ino (j / 4096) ≡ m → mapped_byte new (j % 4096) m ≡ slice_index (bytes d ino) j
        by_map None e = elim (cases_lt j (size_of (d.inode ino).log)) [
          | inl low ↦ sym (byte_at d ino j low ∙ ap (mapped_byte d (j % 4096)) e)
          | inr high ↦ sym (get_or_past (bytes d ino) j 0 (omega (arith, length-bytes d ino, high)))
        ]
        by_map (Some m) e = elim (cases_lt j (size_of (d.inode ino).log)) [
          | inl low ↦ byte_same m.block (j % 4096) (was_read ino (j / 4096) m may.in_table e) ∙ sym
              (byte_at d ino j low ∙ ap (mapped_byte d (j % 4096)) e)
          | inr high ↦ byte_same m.block (j % 4096) (was_read ino (j / 4096) m may.in_table e) ∙ zeros (j / 4096) (j % 4096) m e (omega arith)
              (omega (arith, place, high))
              ∙ sym (get_or_past (bytes d ino) j 0 (omega (arith, length-bytes d ino, high)))
        ]

    -- a byte of the refilled page
    own_byte : Refills d new ino size refill → (j i : ℕ) → j < size → i < n → j / 4096 ≡ q + i → byte_of new (w.blocks i) (j % 4096) ≡ slice_index
        (bytes d ino) j
    own_byte fills j i lt below at_place =
        let only = refill_only size refill i below in
        let page : RefillsPage d new ino size only.1.0 = refill_some refill d new ino size only.1.0 only.1.1 fills in
        ap (λ (p : ℕ). byte_of new p (j % 4096)) only.1.2 ∙ page.kept (j % 4096) (omega (arith, lt, at_place, only.0)) ∙ ap
        (slice_index (bytes d ino)) (omega (arith, at_place, only.0))

    new_byte : Refills d new ino size refill → EndsInZeros d ino → (j : ℕ) → j < size → mapped_byte new (j % 4096) (maps new ino (j / 4096)) ≡
        slice_index (bytes d ino) j
    new_byte fills zeros j lt = elim (own_or_other q n (j / 4096)) [
      | inl own ↦
          let here = w.own own.0 own.1 in
          ap (λ (i : ℕ). mapped_byte new (j % 4096) (maps new ino i)) own.2 ∙ ap (mapped_byte new (j % 4096)) here.is
          ∙ ap (λ (page : ℕ). byte_of new page (j % 4096)) here.page ∙ own_byte fills j own.0 lt own.1 own.2
      | inr out ↦ ap (mapped_byte new (j % 4096)) (stays (j / 4096) (omega (arith, lt)) out) ∙ old_byte zeros j
    ]

    pub cut_bytes : Refills d new ino size refill → EndsInZeros d ino → bytes new ino ≡ resized (bytes d ino) size
    unfolding resized
    cut_bytes fills zeros = same_number_lists (bytes new ino) _ (length-bytes new ino ∙ w.last_size ∙ sym (length-map-range_with_len _ 0 size))
        (λ j lt. byte_at new ino j (omega (arith, lt, length-bytes new ino)) ∙ new_byte fills zeros j
        (omega (arith, lt, length-bytes new ino, w.last_size))
        ∙ sym (get_or-map-range_with_len (slice_index (bytes d ino)) 0 size j j 0 (omega (arith, lt, length-bytes new ino, w.last_size))
        (zero-add j)))

    pub cut_files : Refills d new ino size refill → EndsInZeros d ino → (name : List ℕ) → named d name ≡ Some ino
        → IsSameFiles (files new) (after_op (files d) (CutOp name size))
    cut_files fills zeros name leads other = ap (option_map (bytes new)) (named_same ino d new w ok other) ∙ by_test (same_name name other) refl
      where
        old_bytes : bytes_or_none (files d name) ≡ bytes d ino
        old_bytes = ap (λ (r : Option ℕ). bytes_or_none (option_map (bytes d) r)) leads

        elsewhere : same_name name other ≡ false → (r : Option ℕ) → named d other ≡ r → option_map (bytes new) r ≡ option_map (bytes d) r
        elsewhere t None e = refl
        elsewhere t (Some j) e = elim (cases_eq j ino) [
          | inl same ↦ absurd (both (one_name d may.valid ino (may.file, may.in_table) may.live name other leads (e ∙ ap Some same)))
          | inr ne ↦ ap Some (bytes-others ino d new w ok j ne (named-in_table d may.valid other j e).1)
        ]
          where
            both : other ≡ name → ⊥
            both same = let self : same_name name name ≡ true = same_name-same name in let differs : same_name name name ≡ false = ap (same_name name)
                (sym same) ∙ t in cc

        by_test : (t : Bool) → same_name name other ≡ t → option_map (bytes new) (named d other) ≡
            (if t then Some (resized (bytes_or_none (files d name)) size) else files d other)
        by_test true e =
            ap (λ (x : List ℕ). option_map (bytes new) (named d x)) (sym (same_name-true name other e)) ∙ ap (option_map (bytes new)) leads
            ∙ ap Some (cut_bytes fills zeros ∙ ap (λ (before : List ℕ). resized before size) (sym old_bytes))
        by_test false e = elsewhere e (named d other) refl

    pub cut_resizes : Refills d new ino size refill → EndsInZeros d ino → Resizes ino d new size
    cut_resizes fills zeros = record { here = cut_bytes fills zeros; others = bytes-others ino d new w ok }

    -- a live place is the refilled one, or was one before, below the size in this file
    data Lived (i idx : ℕ) (m : Mapping) : Type 0 where
      is_own : i ≡ ino → (k : ℕ) → k < n → idx ≡ q + k → m.block ≡ w.blocks k → m.flag ≡ Needed → Lived i idx m
      is_kept : i ≡ ino → idx < pages_of size → (idx < q) ⊎ (q + n ≤ idx) → LivePlace d i idx m → Lived i idx m
      is_other : i ≢ ino → LivePlace d i idx m → Lived i idx m

    abbrev old_place : (i idx : ℕ) (m : Mapping) → LivePlace new i idx m → maps d i idx ≡ Some m → LivePlace d i idx m
    old_place i idx m place is = record {
      in_table = below_old ino d new w i place.in_table;
      live = sym (use_kept ino d new w i) ∙ place.live;
      maps = is;
    }

    lived : (i idx : ℕ) (m : Mapping) → LivePlace new i idx m → Lived i idx m
    lived i idx m place = elim (cases_eq i ino) [
      | inl e ↦ elim (own_or_other q n idx) [
        | inl own ↦
            let here = w.own own.0 own.1 in
            let is : maps new ino idx ≡ Some m = ap (λ (j : ℕ). maps new j idx) (sym e) ∙ place.maps in
            let same : here.by ≡ m = one_mapping here.by m (sym here.is ∙ ap (maps new ino) (sym own.2) ∙ is) in
            is_own e own.0 own.1 own.2 (ap (λ (x : Mapping). x.block) (sym same) ∙ here.page) (ap (λ (x : Mapping). x.flag) (sym same) ∙ here.flag)
        | inr out ↦
            let cut : cut_to size idx (maps d ino idx) ≡ Some m = sym (w.other idx out) ∙ ap (λ (j : ℕ). maps new j idx) (sym e) ∙ place.maps in
            is_kept e (cut_below size idx (maps d ino idx) m cut) out
            (old_place i idx m place (ap (λ (j : ℕ). maps d j idx) e ∙ cut_some size idx (maps d ino idx) m cut))
      ]
      | inr ne ↦ is_other ne (old_place i idx m place (sym (maps_others ino d new w i idx ne) ∙ place.maps))
    ]

    page_same : (page : ℕ) → IsReadPage d page → page_bytes new page ≡ page_bytes d page
    unfolding page_bytes
    page_same page read = map-same (byte_of new page) (byte_of d page) (range_with_len 0 4096) (λ k. byte_same page k read)

    module _ (print : Print) (fills : Refills d new ino size refill) (own : IsOwn print d) where
      -- a place that stays in the last page is past the old end there, or isn't mapped
      kept_zero : (i idx k : ℕ) (m : Mapping) → i ≡ ino → idx < pages_of size → (idx < q) ⊎ (q + n ≤ idx) → LivePlace d i idx m
          → size ≤ 4096 * idx + k → k < 4096 → byte_of d m.block k ≡ 0
      kept_zero i idx k m e lt out place past small =
          let last : idx ≡ q = omega (arith, lt, past, small) in
          elim (stays_clear refill d ino fresh size may.refills) [
            | inl even ↦ absurd (omega (arith, even, lt, past, small))
            | inr rest ↦ elim rest [
              | inl longer ↦ own.zeros i idx k m place (subst (λ (j : ℕ). size_of (d.inode j).log ≤ 4096 * idx + k) (sym e)
                  (omega (arith, longer, past))) small
              | inr more ↦ elim more [
                | inl none ↦ absurd (not_both (maps d ino q) m none (ap (maps d ino) (sym last) ∙ ap (λ (j : ℕ). maps d j idx) (sym e) ∙ place.maps))
                | inr one ↦ absurd (inside last one out)
              ]
            ]
          ]
        where
          not_both : (o : Option Mapping) (x : Mapping) → o ≡ None → o ≡ Some x → ⊥
          not_both o x none some = cc

          inside : idx ≡ q → n ≡ 1 → (idx < q) ⊎ (q + n ≤ idx) → ⊥
          inside last one (inl low) = omega (arith, low, last)
          inside last one (inr high) = omega (arith, high, one, last)

      zeros_by : (i idx k : ℕ) (m : Mapping) → Lived i idx m → size_of (new.inode i).log ≤ 4096 * idx + k → k < 4096 → byte_of new m.block k ≡ 0
      zeros_by i idx k m (is_own e j below at_place block flag) past small =
          let only = refill_only size refill j below in
          let page : RefillsPage d new ino size only.1.0 = refill_some refill d new ino size only.1.0 only.1.1 fills in
          let long : size_of (new.inode i).log ≡ size = ap (λ (k : ℕ). size_of (new.inode k).log) e ∙ w.last_size in
          ap (λ (p : ℕ). byte_of new p k) (block ∙ only.1.2) ∙ page.zeros k (omega (arith, long, past, at_place, only.0)) small
      zeros_by i idx k m (is_kept e lt out place) past small =
          let long : size_of (new.inode i).log ≡ size = ap (λ (k : ℕ). size_of (new.inode k).log) e ∙ w.last_size in
          byte_same m.block k (was_read i idx m place.in_table place.maps) ∙ kept_zero i idx k m e lt out place (omega (arith, long, past)) small
      zeros_by i idx k m (is_other ne place) past small =
          byte_same m.block k (was_read i idx m place.in_table place.maps) ∙ own.zeros i idx k m place
          (subst (λ (x : Inode). size_of x.log ≤ 4096 * idx + k) (w.relogs.others i ne) past) small

      row_kept : (page : ℕ) → HasRow d page → HasRow new page
      row_kept page row = subst (λ (rs : List Row). IsSome (row_of rs page)) (sym (rows_kept ino d new w)) row

      done_before : (i idx : ℕ) (m : Mapping) → LivePlace d i idx m → m.flag ≡ Complete → IsAlone m ⊎ HasRow new m.block
      done_before i idx m place done = ⊎_elim (λ alone. inl alone) (λ (row : HasRow d m.block). inr (row_kept m.block row))
          (own.complete i idx m place done)

      complete_by : (i idx : ℕ) (m : Mapping) → Lived i idx m → m.flag ≡ Complete → IsAlone m ⊎ HasRow new m.block
      complete_by i idx m (is_own e j below at_place block flag) done = absurd (not_complete m.flag flag done)
      complete_by i idx m (is_kept e lt out place) done = done_before i idx m place done
      complete_by i idx m (is_other ne place) done = done_before i idx m place done

      pub cut_own : IsOwn print new
      cut_own = record {
        zeros = λ i idx k m place. zeros_by i idx k m (lived i idx m place);
        prints = subst (All (λ row. row.print ≡ print (page_bytes new row.page))) (sym (rows_kept ino d new w))
            (all_listed (λ row. row.print ≡ print (page_bytes new row.page)) (rows d) (λ row has.
            All-contains (λ row. row.print ≡ print (page_bytes d row.page)) (rows d) row own.prints has ∙ ap print
            (sym (page_same row.page (inr (row_found (rows d) row has))))));
        complete = λ i idx m place. complete_by i idx m (lived i idx m place);
      }

    in_new_table : ino < new.geometry.inodes
    in_new_table = omega (arith, w.in_table, ap (λ (g : Geometry). g.inodes) w.relogs.geometry)

    -- pages that come free
    freed : (page : ℕ) → IsDropped d ino size refill page → IsNone (row_of (rows d) page) → IsFree new page
    freed page drop none = record {
      data_page = subst (λ (g : Geometry). InData g page) (sym w.relogs.geometry) (read_in_data d may.valid page (inl mapped));
      in_no_log = λ p. ⊎_elim (λ (was : IsLogPage d page). may.valid.single.log_unmapped page was mapped)
          (λ (taken : Contains w.grown.fresh page). not_mapped d page (ok.fresh page taken) mapped) (log_page_cases ino d new w page p);
      unmapped = none_left _ _ _ _ (mappings-written ino d new w page) fewer (may.valid.single.unshared page none);
    }
      where
        at_place : MapsTo d ino drop.idx page
        at_place = record {
          in_table = w.in_table;
          in_file = maps-in_file d may.valid ino drop.idx drop.by w.in_table drop.was;
          by = drop.by;
          is = drop.was;
          block = drop.block;
        }

        mapped : IsMapped d page
        mapped = record { ino = ino; idx = drop.idx; maps_to = at_place }

        no_block : (i : ℕ) → i < n → w.blocks i ≢ page
        no_block i lt same = not_mapped d page (subst (IsUnused d) same (ok.blocks i lt)) mapped

        no_more : GoesAway size refill drop.idx → hit page (maps new ino drop.idx) ≡ 0
        no_more (past_end past) = ap (hit page) (gone drop.idx past)
        no_more (refilled new_page e at_last) =
            let one = count_some refill size new_page e in
            let here = w.own 0 (omega (arith, one.0)) in
            ap (λ (idx : ℕ). hit page (maps new ino idx)) (plus_zero drop.idx q at_last) ∙ ap (hit page) here.is ∙ hit_other page here.by
            (λ f. no_block 0 (omega (arith, one.0)) (sym here.page ∙ f))
          where
            plus_zero : (a b : ℕ) → a ≡ b → a ≡ b + 0
            plus_zero a b e = omega arith

        fewer : places new page ino < places d page ino
        fewer =
            let before : hit page (maps d ino drop.idx) ≡ 1 = ap (hit page) drop.was ∙ hit_here page drop.by drop.block in
            total-lt (λ idx. hit page (maps d ino idx)) (λ idx. hit page (maps new ino idx)) 4096 drop.idx at_place.in_file
            (λ idx lt. hit-written ino d new w page idx (λ i below e. no_block i below)) (omega (arith, before, no_more drop.goes))

        none_left : (mapped_new places_old mapped_old places_new : ℕ) → mapped_new + places_old ≡ mapped_old + places_new → places_new < places_old
            → mapped_old ≤ 1 → mapped_new ≡ 0
        none_left mapped_new places_old mapped_old places_new e lt few = omega arith

    -- a page of a log stays one
    log_page_kept : (page : ℕ) → IsLogPage d page → IsLogPage new page
    log_page_kept page p = elim (cases_eq p.ino ino) [
      | inl e ↦ record {
        ino = ino;
        in_table = in_new_table;
        used = subst IsUsed (sym (use_kept ino d new w ino)) (subst IsUsed (sym may.live) tt);
        listed = subst (λ (ps : List ℕ). Contains ps page) (sym w.grown.pages)
            (Contains-append_left (d.inode ino).log.pages w.grown.fresh page (subst (λ (i : ℕ). Contains (d.inode i).log.pages page) e p.listed));
      }
      | inr ne ↦ record {
        ino = p.ino;
        in_table = omega (arith, p.in_table, ap (λ (g : Geometry). g.inodes) w.relogs.geometry);
        used = subst IsUsed (sym (use_kept ino d new w p.ino)) p.used;
        listed = subst (λ (x : Inode). Contains x.log.pages page) (sym (w.relogs.others p.ino ne)) p.listed;
      }
    ]

    log_page_stays : (page : ℕ) → IsLogPage d page → IsFree new page → ⊥
    log_page_stays page p free = free.in_no_log (log_page_kept page p)

    only : (page : ℕ) → IsFree new page → IsFree d page ⊎ IsDropped d ino size refill page
    only page free = elim (cases_eq (mappings d page) 0) [
      | inl none ↦ inl (record {
        data_page = subst (λ (g : Geometry). InData g page) w.relogs.geometry free.data_page;
        in_no_log = λ p. log_page_stays page p free;
        unmapped = none;
      })
      | inr some ↦
          let found = total-some (λ idx. hit page (maps d ino idx)) 4096 (here _ _ _ _ (mappings-written ino d new w page) free.unmapped
          (places-le new page ino in_new_table) some) in
          let x = hit_some page (maps d ino found.0) found.2 in
          inr (record { idx = found.0; by = x.0; was = x.1; block = x.2; goes = goes found.0 found.1 x.0 x.1 x.2 })
    ]
      where
        here : (mapped_new places_old mapped_old places_new : ℕ) → mapped_new + places_old ≡ mapped_old + places_new → mapped_new ≡ 0
            → places_new ≤ mapped_new → mapped_old ≢ 0 → 1 ≤ places_old
        here mapped_new places_old mapped_old places_new e none le some = omega arith

        still : (idx : ℕ) → idx < 4096 → (x : Mapping) → x.block ≡ page → maps new ino idx ≡ Some x → ⊥
        still idx lt x block is =
            let one : hit page (maps new ino idx) ≡ 1 = ap (hit page) is ∙ hit_here page x block in
            omega (arith, one, place-le new page ino idx in_new_table lt, free.unmapped)

        goes : (idx : ℕ) → idx < 4096 → (x : Mapping) → maps d ino idx ≡ Some x → x.block ≡ page → GoesAway size refill idx
        goes idx lt x is block = elim (cases_lt idx (pages_of size)) [
          | inl low ↦ elim (own_or_other q n idx) [
            | inl own ↦ let is_refill = refill_only size refill own.0 own.1 in refilled is_refill.1.0 is_refill.1.1
                (omega (arith, own.2, is_refill.0))
            | inr out ↦ absurd (still idx lt x block (stays idx low out ∙ is))
          ]
          | inr past ↦ past_end past
        ]

    pub takes_and_drops : TakesAndDrops d new ino fresh size refill
    takes_and_drops = record {
      kept = λ page free not not_fresh. free-kept ino d new w page free (not_block d ino fresh size refill word may page not) not_fresh;
      refill_taken = λ page e free.
          let one = count_some refill size page e in block-not_free ino d new w ok 0 (omega (arith, one.0)) (subst (IsFree new) (sym one.1) free);
      fresh_taken = fresh-not_free ino d new w;
      freed = freed;
      only = only;
    }
