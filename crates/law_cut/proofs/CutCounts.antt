-- How the mappings of pages fall with a cut.
use Rattle.std.proofs.Common.{◌≡◌, inl, inr, ℕ, zero, suc, ◌+◌, ◌<◌, ◌≤◌, Bool, true, false, List, refl, sym, ◌∙◌, ap, subst, arith}
use Rattle.std.specs.Prelude.{if◌then◌else◌, nat_lt, Contains, Option, Some, None, IsSome}
use Rattle.std.proofs.lemmas.Bool.{cases_eq, cases_lt}
use Rattle.std.proofs.lemmas.Bool.Decides.{nat_tests}
use Rattle.std.proofs.lemmas.List.Elements.{All-contains}
use Rattle.dn_model.specs.Table.{Row, row_of}
use Rattle.dn_model.specs.Disk.{Disk, maps, rows}
use Rattle.dn_model.specs.Counts.{total, hit, mappings, IsNear, Near}
use Rattle.law_write.specs.Writing.{Writes}
use Rattle.law_write.proofs.WriteCounts.{hit_other, mappings-written}
use Rattle.law_write.proofs.WriteValid.{rows_kept}
use Rattle.law_table_on_disk.proofs.Mappings.{near_stays}
use Rattle.law_table.proofs.Rows.{row_found, none_or_some}
use Rattle.law_cut.specs.Cutting.{last_page, cut_disk, MayRefill, IsNotRefill, MayCut, first_gone, dropped_places}
use Rattle.law_cut.specs.CutLaws.{CutsPlaces}
use Rattle.law_cut.proofs.Cutting.{cut-writes}
use Rattle.law_cut.proofs.CutBytes.{cuts_places}

total-split : (f g h : ℕ → ℕ) (n : ℕ) → ((j : ℕ) → j < n → f j ≡ g j + h j) → total n f ≡ total n g + total n h
unfolding total
total-split f g h zero same = refl
total-split f g h (suc n) same = omega (arith, total-split f g h n (λ j lt. same j (omega arith)), same n (omega arith))

module _ (d : Disk) (ino : ℕ) (fresh : List ℕ) (size : ℕ) (refill : Option ℕ) (word : ℕ → ℕ → ℕ) (may : MayCut d ino fresh size refill word) where
  abbrev new : Disk
  new = cut_disk d ino fresh size refill word

  abbrev w : Writes ino d new
  w = cut-writes d ino fresh size refill word may

  cut : CutsPlaces d new ino size refill
  cut = cuts_places d ino fresh size refill word may

  abbrev gone_at : ℕ → ℕ → ℕ
  gone_at page idx = if nat_lt idx (first_gone size refill) then 0 else hit page (maps d ino idx)

  stays_at : (page idx : ℕ) → idx < first_gone size refill → gone_at page idx ≡ 0
  stays_at page idx lt = ap (λ (b : Bool). if b then 0 else hit page (maps d ino idx)) (test idx (first_gone size refill) lt)
    where
      test : (a b : ℕ) → a < b → nat_lt a b ≡ true
      test a b lt = grind (arith, nat_tests)

  goes_at : (page idx : ℕ) → first_gone size refill ≤ idx → gone_at page idx ≡ hit page (maps d ino idx)
  goes_at page idx past = ap (λ (b : Bool). if b then 0 else hit page (maps d ino idx)) (test idx (first_gone size refill) past)
    where
      test : (a b : ℕ) → b ≤ a → nat_lt a b ≡ false
      test a b past = grind (arith, nat_tests)

  -- a place before the first that goes is the old one's
  kept_by : (r : Option ℕ) → MayRefill d ino fresh size r → r ≡ refill → (idx : ℕ) → idx < first_gone size r → maps new ino idx ≡ maps d ino idx
  kept_by None fills e idx lt = cut.kept idx lt (inl (sym e))
  kept_by (Some page) fills e idx lt = cut.kept idx (omega (arith, lt)) (inr (omega (arith, lt)))

  -- one from there on isn't on the page
  gone_by : (r : Option ℕ) (page : ℕ) → MayRefill d ino fresh size r → IsNotRefill r page → r ≡ refill → (idx : ℕ) → first_gone size r ≤ idx
      → hit page (maps new ino idx) ≡ 0
  gone_by None page fills not e idx past = ap (hit page) (cut.gone idx past)
  gone_by (Some block) page fills not e idx past = elim (cases_eq idx (last_page size)) [
    | inl last ↦
        let here = cut.anew block (sym e) in
        ap (λ (i : ℕ). hit page (maps new ino i)) last ∙ ap (hit page) here.is ∙ hit_other page here.by (λ same. not (sym here.page ∙ same))
    | inr ne ↦ ap (hit page) (cut.gone idx (omega (arith, past, ne)))
  ]

  at_place : (page : ℕ) → IsNotRefill refill page → (idx : ℕ) → hit page (maps d ino idx) ≡ hit page (maps new ino idx) + gone_at page idx
  at_place page not idx = elim (cases_lt idx (first_gone size refill)) [
    | inl lt ↦ sum _ _ _ (ap (hit page) (kept_by refill may.refills refl idx lt)) (stays_at page idx lt)
    | inr past ↦ rest _ _ _ (gone_by refill page may.refills not refl idx past) (goes_at page idx past)
  ]
    where
      sum : (old now more : ℕ) → now ≡ old → more ≡ 0 → old ≡ now + more
      sum old now more e none = omega arith

      rest : (old now more : ℕ) → now ≡ 0 → more ≡ old → old ≡ now + more
      rest old now more none e = omega arith

  pub mappings_drop : (page : ℕ) → IsNotRefill refill page → mappings new page + dropped_places d ino size refill page ≡ mappings d page
  mappings_drop page not = joined _ _ _ _ _ (mappings-written ino d new w page) (total-split (λ idx. hit page (maps d ino idx))
      (λ idx. hit page (maps new ino idx)) (gone_at page) 4096 (λ idx lt. at_place page not idx))
    where
      joined : (now before places_old places_new gone : ℕ) → now + places_old ≡ before + places_new → places_old ≡ places_new + gone
          → now + gone ≡ before
      joined now before places_old places_new gone one two = omega arith

  -- a row's page isn't filled anew
  not_refill : (r : Option ℕ) → MayRefill d ino fresh size r → (row : Row) → Contains (rows d) row → IsNotRefill r row.page
  not_refill None fills row has = tt
  not_refill (Some block) fills row has = λ e. none_or_some (row_of (rows d) block) fills.1.no_row (subst (λ (p : ℕ). IsSome (row_of (rows d) p))
      (sym e) (row_found (rows d) row has))

  pub stays_near : ((row : Row) → Contains (rows d) row → row.rfc + dropped_places d ino size refill row.page ≤ mappings d row.page + row.uc)
      → Near new
  stays_near raised = near_stays d new (rows_kept ino d new w) may.valid.near (λ row has. inr (near_row row has))
    where
      near_row : (row : Row) → Contains (rows d) row → IsNear new row
      near_row row has =
          let falls = mappings_drop row.page (not_refill refill may.refills row has) in
          let was = All-contains (IsNear d) (rows d) row may.valid.near has in
          both _ _ _ _ _ falls was.0 (raised row has)
        where
          both : (now gone before rfc uc : ℕ) → now + gone ≡ before → before ≤ rfc + uc → rfc + gone ≤ before + uc
              → (now ≤ rfc + uc) × (rfc ≤ now + uc)
          both now gone before rfc uc e most least = (omega arith, omega arith)
