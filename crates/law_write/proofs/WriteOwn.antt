-- After a write the image still has what every image of this program has: zeros past the end, the prints of its rows, and marks that tell what the
-- daemon did.
use Rattle.std.proofs.Common.{
  ◌≡◌,
  ◌⊎◌,
  inl,
  inr,
  ⊎_elim,
  ℕ,
  zero,
  suc,
  ◌+◌,
  ◌*◌,
  ◌/◌,
  ◌%◌,
  ◌^◌,
  ◌<◌,
  ◌≤◌,
  max,
  Bool,
  true,
  false,
  List,
  [],
  ◌∷◌,
  length,
  get_or,
  map,
  refl,
  sym,
  ◌∙◌,
  ap,
  subst,
  arith,
}
use Rattle.std.specs.Prelude.{if◌then◌else◌, ◌==◌, Some, IsSome, All}
use Rattle.std.specs.List.{range_with_len}
use Rattle.std.proofs.lemmas.Bool.{cases_eq}
use Rattle.std.proofs.lemmas.Bool.Decides.{nat_tests}
use Rattle.std.proofs.lemmas.List.{get_or_past}
use Rattle.dn_model.specs.Maps.{Mapping, size_of}
use Rattle.dn_model.specs.Table.{Row, row_of}
use Rattle.dn_model.specs.Disk.{Disk, Inode, maps, rows}
use Rattle.dn_model.specs.Files.{bytes, byte_of}
use Rattle.dn_model.specs.Own.{Print, page_bytes, LivePlace, IsAlone, HasRow, IsOwn}
use Rattle.log_entry.specs.declared.item.Flag.{Flag}
use Rattle.log_entry.specs.declared.item.Flag.TheVariants.{Needed, Complete}
use Rattle.law_write.specs.Events.{IsReadPage}
use Rattle.law_write.specs.Writing.{Writes, WritesWell, WritesBytes}
use Rattle.law_write.proofs.MappedPlaces.{maps-in_file, cut_some}
use Rattle.law_write.proofs.WriteCounts.{own_or_other, maps_others}
use Rattle.law_write.proofs.WriteValid.{use_kept, rows_kept, below_old}
use Rattle.law_write.proofs.WriteBytes.{length-bytes}

-- a row's page has a row
row_there : (rs : List Row) (k : ℕ) (d : Row) → k < length rs → IsSome (row_of rs (get_or rs k d).page)
row_there [] k d lt = absurd (omega arith)
row_there (row ∷ rs) zero d lt = subst (λ (b : Bool). IsSome (if b then Some row else row_of rs row.page)) (sym (itself row.page)) refl
  where
    itself : (a : ℕ) → (a == a) ≡ true
    itself a = grind (arith, nat_tests)
row_there (row ∷ rs) (suc k) d lt = by_test (row.page == (get_or rs k d).page) (row_there rs k d (omega arith))
  where
    by_test : (b : Bool) → IsSome (row_of rs (get_or rs k d).page) → IsSome (if b then Some row else row_of rs (get_or rs k d).page)
    by_test true later = refl
    by_test false later = later

map-same : (f g : ℕ → ℕ) (xs : List ℕ) → ((k : ℕ) → f k ≡ g k) → map f xs ≡ map g xs
map-same f g [] same = refl
map-same f g (x ∷ xs) same = (λ i. same x i ∷ map-same f g xs same i)

not_complete : (flag : Flag) → flag ≡ Needed → flag ≡ Complete → ⊥
not_complete flag needed complete = cc

one_mapping : (x y : Mapping) → Some x ≡ Some y → x ≡ y
one_mapping x y e = cc

module _ (ino : ℕ) (old new : Disk) (w : Writes ino old new) (ok : WritesWell ino old new w) where
  -- the bytes of a page that is read stay
  byte-same : (page k : ℕ) → IsReadPage old page → byte_of new page k ≡ byte_of old page k
  byte-same page k read = ap (λ (v : ℕ). v / 256 ^ (k % 8) % 256) (w.relogs.word page (k / 8) read)

  page-same : (page : ℕ) → IsReadPage old page → page_bytes new page ≡ page_bytes old page
  unfolding page_bytes
  page-same page read = map-same (byte_of new page) (byte_of old page) (range_with_len 0 4096) (λ k. byte-same page k read)

  -- a place of a live file is a place of the event's, or was one before, and its page holds what it held
  live_cases : (i idx : ℕ) (m : Mapping) → LivePlace new i idx m
      → ((i ≡ ino) × ((k : ℕ) × (k < w.n) × (idx ≡ w.first + k) × (m.block ≡ w.blocks k) × (m.flag ≡ Needed))) ⊎ LivePlace old i idx m
  live_cases i idx m place = elim (cases_eq i ino) [
    | inl e ↦ elim (own_or_other w.first w.n idx) [
      | inl own ↦
          let here = w.own own.0 own.1 in
          let is : maps new ino idx ≡ Some m = ap (λ (j : ℕ). maps new j idx) (sym e) ∙ place.maps in
          let same : here.by ≡ m = one_mapping here.by m (sym here.is ∙ ap (maps new ino) (sym own.2) ∙ is) in
          inl (e, (own.0, own.1, own.2, ap (λ (x : Mapping). x.block) (sym same) ∙ here.page, ap (λ (x : Mapping). x.flag) (sym same) ∙ here.flag))
      | inr out ↦ inr (record {
        in_table = below_old ino old new w i place.in_table;
        live = sym (use_kept ino old new w i) ∙ place.live;
        maps = ap (λ (j : ℕ). maps old j idx) e ∙ cut_some w.size idx (maps old ino idx) m (sym (w.other idx out) ∙ ap (λ (j : ℕ). maps new j idx)
            (sym e) ∙ place.maps);
      })
    ]
    | inr ne ↦ inr (record {
      in_table = below_old ino old new w i place.in_table;
      live = sym (use_kept ino old new w i) ∙ place.live;
      maps = sym (maps_others ino old new w i idx ne) ∙ place.maps;
    })
  ]

  live_read : (i idx : ℕ) (m : Mapping) → LivePlace old i idx m → IsReadPage old m.block
  live_read i idx m place = inl (record {
    ino = i;
    idx = idx;
    maps_to = record {
      in_table = place.in_table;
      in_file = maps-in_file old ok.valid i idx m place.in_table place.maps;
      by = m;
      is = place.maps;
      block = refl;
    };
  })

module _ (print : Print) (ino : ℕ) (old new : Disk) (w : Writes ino old new) (ok : WritesWell ino old new w) (at : ℕ) (text : List ℕ)
    (is : WritesBytes ino old new w at text) (own : IsOwn print old) where
  grows : size_of (old.inode ino).log ≤ w.size
  grows = bound (size_of (old.inode ino).log) (length (bytes old ino)) (at + length text) w.size (length-bytes old ino) is.size
    where
      bound : (size long far now : ℕ) → long ≡ size → now ≡ max long far → size ≤ now
      bound size long far now e f = omega arith

  text_inside : at + length text ≤ w.size
  text_inside = bound (length (bytes old ino)) (at + length text) w.size is.size
    where
      bound : (long far now : ℕ) → now ≡ max long far → far ≤ now
      bound long far now e = omega arith

  -- no size falls
  sizes : (i : ℕ) → size_of (old.inode i).log ≤ size_of (new.inode i).log
  sizes i = elim (cases_eq i ino) [
    | inl e ↦ subst (λ (j : ℕ). size_of (old.inode j).log ≤ size_of (new.inode j).log) (sym e) (omega (arith, w.last_size, grows))
    | inr ne ↦ let same : size_of (new.inode i).log ≡ size_of (old.inode i).log = ap (λ (n : Inode). size_of n.log) (w.relogs.others i ne) in
        omega (arith, same)
  ]

  -- a new page holds zeros past the end
  own_zeros : (idx k j : ℕ) → j < w.n → idx ≡ w.first + j → w.size ≤ 4096 * idx + k → k < 4096 → byte_of new (w.blocks j) k ≡ 0
  own_zeros idx k j below at_place past small =
      let high : w.size ≤ 4096 * (w.first + j) + k = omega arith in
      is.outside j k below small (λ low less. omega (arith, high, less, text_inside)) ∙ get_or_past (bytes old ino) (4096 * (w.first + j) + k) 0
      (omega (arith, high, grows, length-bytes old ino))

  zeros : (i idx k : ℕ) (m : Mapping) → LivePlace new i idx m → size_of (new.inode i).log ≤ 4096 * idx + k → k < 4096 → byte_of new m.block k ≡ 0
  zeros i idx k m place past small = ⊎_elim
      (λ (mine : (i ≡ ino) × ((j : ℕ) × (j < w.n) × (idx ≡ w.first + j) × (m.block ≡ w.blocks j) × (m.flag ≡ Needed))).
      let long : size_of (new.inode i).log ≡ w.size = ap (λ (j : ℕ). size_of (new.inode j).log) mine.0 ∙ w.last_size in
      ap (λ (page : ℕ). byte_of new page k) mine.1.3 ∙ own_zeros idx k mine.1.0 mine.1.1 mine.1.2 (omega (arith, long, past)) small)
      (λ (was : LivePlace old i idx m). byte-same ino old new w ok m.block k (live_read ino old new w ok i idx m was) ∙ own.zeros i idx k m was
      (omega (arith, sizes i, past)) small)
      (live_cases ino old new w ok i idx m place)

  complete : (i idx : ℕ) (m : Mapping) → LivePlace new i idx m → m.flag ≡ Complete → IsAlone m ⊎ HasRow new m.block
  complete i idx m place done = ⊎_elim
      (λ (mine : (i ≡ ino) × ((j : ℕ) × (j < w.n) × (idx ≡ w.first + j) × (m.block ≡ w.blocks j) × (m.flag ≡ Needed))). absurd
      (not_complete m.flag mine.1.4 done))
      (λ (was : LivePlace old i idx m). ⊎_elim (λ alone. inl alone)
      (λ (row : HasRow old m.block). inr (subst (λ (rs : List Row). IsSome (row_of rs m.block)) (sym (rows_kept ino old new w)) row))
      (own.complete i idx m was done))
      (live_cases ino old new w ok i idx m place)

  pub own-written : IsOwn print new
  own-written = record {
    zeros = zeros;
    prints = subst (All (λ row. row.print ≡ print (page_bytes new row.page))) (sym (rows_kept ino old new w))
        (λ k d lt. own.prints k d lt ∙ ap print (sym (page-same ino old new w ok (get_or (rows old) k d).page (inr (row_there (rows old) k d lt)))));
    complete = complete;
  }
