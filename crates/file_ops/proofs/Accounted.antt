-- Why places are left alone once a write is made, and where the pages of rows come from.
use Rattle.std.proofs.Common.{◌≡◌, inl, inr, ℕ, ◌^◌, ◌/◌, ◌%◌, List, [], ◌∷◌, refl, sym, ◌∙◌, ap, subst}
use Rattle.std.specs.Prelude.{Some, IsBitSet, Contains, map}
use Rattle.std.specs.List.{range_with_len}
use Rattle.std.proofs.lemmas.Bool.{cases_eq}
use Rattle.dn_model.specs.Maps.{Mapping}
use Rattle.dn_model.specs.Table.{Row}
use Rattle.dn_model.specs.Disk.{Disk, maps, rows}
use Rattle.dn_model.specs.Files.{byte_of}
use Rattle.dn_model.specs.Own.{Print, LivePlace, IsAlone, page_bytes}
use Rattle.law_write.specs.Events.{IsReadPage}
use Rattle.law_write.specs.Writing.{Writes, WritesWell}
use Rattle.law_write.proofs.MappedPlaces.{maps-in_file, cut_some}
use Rattle.law_write.proofs.WriteCounts.{own_or_other, maps_others}
use Rattle.law_write.proofs.WriteValid.{use_kept, rows_kept, below_old}
use Rattle.law_table.proofs.Rows.{row_found}
use Rattle.dn_volume.specs.Accounts.{WasAloneOn, AccountsFor}

module _ (ino : ℕ) (old new : Disk) (w : Writes ino old new) (ok : WritesWell ino old new w) where
  byte_same : (page k : ℕ) → IsReadPage old page → byte_of new page k ≡ byte_of old page k
  byte_same page k read = ap (λ (v : ℕ). v / 256 ^ (k % 8) % 256) (w.relogs.word page (k / 8) read)

  map_same : (f g : ℕ → ℕ) (xs : List ℕ) → ((k : ℕ) → f k ≡ g k) → map f xs ≡ map g xs
  map_same f g [] same = refl
  map_same f g (x ∷ xs) same = (λ i. same x i ∷ map_same f g xs same i)

  page_same : (page : ℕ) → IsReadPage old page → page_bytes new page ≡ page_bytes old page
  unfolding page_bytes
  page_same page read = map_same (byte_of new page) (byte_of old page) (range_with_len 0 4096) (λ k. byte_same page k read)

  one_mapping : (x y : Mapping) → Some x ≡ Some y → x ≡ y
  one_mapping x y e = cc

  -- nothing is left alone by a mask of 0
  none_alone : (m : Mapping) → m.mask ≡ 0 → IsAlone m → ⊥
  none_alone m zero alone = subst (λ (mask : ℕ). IsBitSet mask m.bit) zero alone refl

  was_alone : (i idx : ℕ) (m : Mapping) → LivePlace old i idx m → IsAlone m → WasAloneOn old new i idx m
  was_alone i idx m place alone = record {
    mapping = m;
    place = place;
    alone = alone;
    page_is = refl;
    bytes_are = page_same m.block (inl (record {
      ino = i;
      idx = idx;
      maps_to = record {
        in_table = place.in_table;
        in_file = maps-in_file old ok.valid i idx m place.in_table place.maps;
        by = m;
        is = place.maps;
        block = refl;
      };
    }));
  }

  pub alone_was : (i idx : ℕ) (m : Mapping) → LivePlace new i idx m → IsAlone m → WasAloneOn old new i idx m
  alone_was i idx m place alone = elim (cases_eq i ino) [
    | inl e ↦ elim (own_or_other w.first w.n idx) [
      | inl own ↦
          let here = w.own own.0 own.1 in
          let is : maps new ino idx ≡ Some m = ap (λ (j : ℕ). maps new j idx) (sym e) ∙ place.maps in
          let same : here.by ≡ m = one_mapping here.by m (sym here.is ∙ ap (maps new ino) (sym own.2) ∙ is) in
          absurd (none_alone m (ap (λ (x : Mapping). x.mask) (sym same) ∙ here.mask) alone)
      | inr out ↦ was_alone i idx m (record {
        in_table = below_old ino old new w i place.in_table;
        live = sym (use_kept ino old new w i) ∙ place.live;
        maps = ap (λ (j : ℕ). maps old j idx) e ∙ cut_some w.size idx (maps old ino idx) m (sym (w.other idx out) ∙ ap (λ (j : ℕ). maps new j idx)
            (sym e) ∙ place.maps);
      }) alone
    ]
    | inr ne ↦ was_alone i idx m (record {
      in_table = below_old ino old new w i place.in_table;
      live = sym (use_kept ino old new w i) ∙ place.live;
      maps = sym (maps_others ino old new w i idx ne) ∙ place.maps;
    }) alone
  ]

  pub write_accounts : (print : Print) → AccountsFor print old new
  write_accounts print = record {
    alone = λ i idx m place alone. inl (alone_was i idx m place alone);
    row_pages = λ row has.
        let there = subst (λ (rs : List Row). Contains rs row) (rows_kept ino old new w) has in
        inl (record { was = row; there = there; page_is = refl; bytes_are = page_same row.page (inr (row_found (rows old) row there)) });
  }
