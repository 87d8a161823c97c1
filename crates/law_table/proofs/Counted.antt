-- The row at one slot gets other counts: what the table then says, and that its rows make sense.
use Rattle.std.proofs.Common.{
  ◌≡◌,
  ◌≢◌,
  ◌⊎◌,
  inl,
  inr,
  ⊎_elim,
  ℕ,
  zero,
  suc,
  ◌+◌,
  ◌*◌,
  ◌^◌,
  ◌<◌,
  Bool,
  true,
  false,
  List,
  [],
  ◌∷◌,
  ◌++◌,
  map,
  refl,
  sym,
  ◌∙◌,
  ap,
  subst,
  arith,
}
use Rattle.std.specs.Prelude.{slice_get, if◌then◌else◌, ◌==◌, Option, Some, None, is_some, All, Contains, option_map}
use Rattle.std.proofs.lemmas.Bool.{cases_eq}
use Rattle.std.proofs.lemmas.List.{map-append}
use Rattle.std.proofs.lemmas.List.Elements.{All-contains, All-map}
use Rattle.pm_device.specs.Pages.{SaysRun}
use Rattle.pm_device.specs.Reading.{DiffersAt}
use Rattle.pm_layout.specs.declared.Geometry.{Geometry}
use Rattle.pm_layout.specs.Geometry.{slot_word, directs, slots, first_data}
use Rattle.fingerprint.specs.Count.{count_word}
use Rattle.dn_model.specs.Table.{
  Row,
  RowsSay,
  at_field,
  at_next,
  at_later,
  ChainSays,
  at_direct_page,
  at_direct_next,
  at_row,
  row_of,
  rows_from,
  first_slot,
  chained,
  direct_page_word,
}
use Rattle.dn_model.specs.Disk.{Disk, ChainsSay, TableSays, rows}
use Rattle.dn_model.specs.Valid.{IsRow, HasGoodRows}
use Rattle.law_write.proofs.Unread.{slot_word_low}
use Rattle.law_table.specs.Changes.{recount, recounted}
use Rattle.law_table.specs.Words.{IsOneTableWord}
use Rattle.law_table.specs.Rows.{MayCount, RecountsRows}
use Rattle.law_table.proofs.Rows.{same_test, other_test, all_listed, IsDistinct, mapped_at, map_listed, listed_map, distinct_map}
use Rattle.law_table.proofs.TableRows.{of_chain, row_slot_small}
use Rattle.law_table.proofs.Slots.{slot_word_one, field_said, pointer_above, pointers_kept, table_differs}

module _ (slot rfc uc : ℕ) where
  abbrev f : Row → Row
  f = recount slot rfc uc

  count_here : (row : Row) → row.slot ≡ slot → count_word (f row).rfc (f row).uc ≡ count_word rfc uc
  count_here row e = ap (λ (b : Bool). count_word (if b then rfc else row.rfc) (if b then uc else row.uc)) (same_test row.slot slot e)

  count_other : (row : Row) → row.slot ≢ slot → count_word (f row).rfc (f row).uc ≡ count_word row.rfc row.uc
  count_other row ne = ap (λ (b : Bool). count_word (if b then rfc else row.rfc) (if b then uc else row.uc)) (other_test row.slot slot ne)

  first_same : (rs : List Row) → first_slot (map f rs) ≡ first_slot rs
  first_same [] = refl
  first_same (row ∷ rs) = refl

  next_same : (p : ℕ) (rs : List Row) → first_slot (chained p (map f rs)) ≡ first_slot (chained p rs)
  next_same p [] = refl
  next_same p (row ∷ rs) = by_test (row.slot == p)
    where
      by_test : (b : Bool) → first_slot (if b then map f rs else f row ∷ map f rs) ≡ first_slot (if b then rs else row ∷ rs)
      by_test true = first_same rs
      by_test false = refl

  page_same : (p : ℕ) (rs : List Row) → direct_page_word p (map f rs) ≡ direct_page_word p rs
  page_same p [] = refl
  page_same p (row ∷ rs) = refl

  -- only the count word of this slot differs
  rows_differ : (g : Geometry) (rs : List Row) (a v : ℕ) → RowsSay g (map f rs) a v
      → ((a ≡ slot_word g slot 4) × (v ≡ count_word rfc uc)) ⊎ ((a ≢ slot_word g slot 4) × RowsSay g rs a v)
  rows_differ g [] a v says = elim says [ ]
  rows_differ g (row ∷ rs) a v (at_field zero lt place value) = inr (λ e. omega arith, at_field 0 lt place value)
  rows_differ g (row ∷ rs) a v (at_field (suc zero) lt place value) = inr (λ e. omega arith, at_field 1 lt place value)
  rows_differ g (row ∷ rs) a v (at_field (suc (suc zero)) lt place value) = inr (λ e. omega arith, at_field 2 lt place value)
  rows_differ g (row ∷ rs) a v (at_field (suc (suc (suc zero))) lt place value) = inr (λ e. omega arith, at_field 3 lt place value)
  rows_differ g (row ∷ rs) a v (at_field (suc (suc (suc (suc k)))) lt place value) = elim (cases_eq row.slot slot) [
    | inl e ↦ inl (omega (arith, place, lt, e), value ∙ count_here row e)
    | inr ne ↦ inr (
      λ e. ne (slot_word_one g row.slot slot (suc (suc (suc (suc k)))) 4 (omega arith) (omega arith) (sym place ∙ e)).0,
      at_field (suc (suc (suc (suc k)))) lt place (value ∙ count_other row ne),
    )
  ]
  rows_differ g (row ∷ rs) a v (at_next place value) = inr (λ e. omega arith, at_next place (value ∙ first_same rs))
  rows_differ g (row ∷ rs) a v (at_later later) = ⊎_elim (λ here. inl here)
      (λ (there : (a ≢ slot_word g slot 4) × RowsSay g rs a v). inr (there.0, at_later there.1)) (rows_differ g rs a v later)

  chain_differs : (g : Geometry) (p : ℕ) (rs : List Row) (a v : ℕ) → ChainSays g p (map f rs) a v
      → ((a ≡ slot_word g slot 4) × (v ≡ count_word rfc uc)) ⊎ ((a ≢ slot_word g slot 4) × ChainSays g p rs a v)
  chain_differs g p rs a v (at_direct_page place value) = inr (λ e. omega arith, at_direct_page place (value ∙ page_same p rs))
  chain_differs g p rs a v (at_direct_next place value) = inr (λ e. omega arith, at_direct_next place (value ∙ next_same p rs))
  chain_differs g p rs a v (at_row says) = ⊎_elim (λ here. inl here)
      (λ (there : (a ≢ slot_word g slot 4) × RowsSay g rs a v). inr (there.0, at_row there.1)) (rows_differ g rs a v says)

  rows_map : (chain : ℕ → List Row) (s n : ℕ) → rows_from (λ p. map f (chain p)) s n ≡ map f (rows_from chain s n)
  rows_map chain s zero = refl
  rows_map chain s (suc n) = ap (λ (rs : List Row). map f (chain s) ++ rs) (rows_map chain (s + 1) n) ∙ sym
      (map-append f (chain s) (rows_from chain (s + 1) n))

  -- the row of a page is the one of before, with its new counts
  pub found_map : (rs : List Row) (page : ℕ) → row_of (map f rs) page ≡ option_map f (row_of rs page)
  found_map [] page = refl
  found_map (row ∷ rs) page = by_test (row.page == page) (found_map rs page)
    where
      by_test : (b : Bool) → row_of (map f rs) page ≡ option_map f (row_of rs page) → (if b then Some (f row) else row_of (map f rs) page) ≡
          option_map f (if b then Some row else row_of rs page)
      by_test true later = refl
      by_test false later = later

  pub is_some_map : (r : Option Row) → is_some (option_map f r) ≡ is_some r
  is_some_map None = refl
  is_some_map (Some x) = refl

  pub has_same : (rs : List Row) (page : ℕ) → is_some (row_of (map f rs) page) ≡ is_some (row_of rs page)
  has_same rs page = ap is_some (found_map rs page) ∙ is_some_map (row_of rs page)

  pub rows_recounted : (d : Disk) → rows (recounted d slot rfc uc) ≡ map f (rows d)
  unfolding rows
  rows_recounted d = rows_map d.chain 0 (directs d.geometry)

module _ (d : Disk) (slot rfc uc : ℕ) (good : HasGoodRows d) (rfc_fits : rfc < 2 ^ 32) (uc_fits : uc < 2 ^ 32) where
  abbrev new : Disk
  new = recounted d slot rfc uc

  table : (prefix k : ℕ) (r : Row) → prefix < directs d.geometry → slice_get (new.chain prefix) k ≡ Some r → IsRow d.geometry prefix k r
  table prefix k r lt is =
      let was = mapped_at (recount slot rfc uc) (d.chain prefix) k r is in
      let x : IsRow d.geometry prefix k was.0 = good.table prefix k was.0 lt was.1 in
      subst (IsRow d.geometry prefix k) was.2 (record {
        place = x.place;
        data_page = x.data_page;
        twenty = x.twenty;
        bytes = x.bytes;
        prefix = x.prefix;
        rfc = fits (was.0.slot == slot) rfc was.0.rfc rfc_fits x.rfc;
        uc = fits (was.0.slot == slot) uc was.0.uc uc_fits x.uc;
      })
    where
      fits : (b : Bool) (m n : ℕ) → m < 2 ^ 32 → n < 2 ^ 32 → (if b then m else n) < 2 ^ 32
      fits true m n low other = low
      fits false m n low other = other

  distinct : {X : Type 0} (key : Row → X) → ((r : Row) → key (recount slot rfc uc r) ≡ key r) → IsDistinct key (rows d) → IsDistinct key (rows new)
  distinct key same apart = subst (IsDistinct key) (sym (rows_recounted slot rfc uc d)) (distinct_map key (recount slot rfc uc) same (rows d) apart)

  pub counted_good : HasGoodRows new
  counted_good = record {
    table = table;
    apart = record {
      slot = distinct (λ (r : Row). r.slot) (λ r. refl) good.apart.slot;
      print = distinct (λ (r : Row). r.print) (λ r. refl) good.apart.print;
      page = distinct (λ (r : Row). r.page) (λ r. refl) good.apart.page;
    };
    pointers = good.pointers;
    leads = subst (All (λ (r : Row). d.pointer r.page ≡ r.slot + 1)) (sym (rows_recounted slot rfc uc d))
        (All-map (λ (r : Row). d.pointer r.page ≡ r.slot + 1) (recount slot rfc uc) (rows d)
        (all_listed (λ (r : Row). d.pointer (recount slot rfc uc r).page ≡ (recount slot rfc uc r).slot + 1) (rows d)
        (λ r has. All-contains (λ (x : Row). d.pointer x.page ≡ x.slot + 1) (rows d) r good.leads has)));
  }

module _ (d : Disk) (row : Row) (rfc uc : ℕ) (may : MayCount d row rfc uc) where
  abbrev at : ℕ
  at = slot_word d.geometry row.slot 4

  chains : DiffersAt (TableSays d) (ChainsSay (recounted d row.slot rfc uc)) (SaysRun 0 []) at (count_word rfc uc)
  chains a v told = ⊎_elim (λ here. inl here)
      (λ (there : (a ≢ at) × ChainSays d.geometry told.prefix (d.chain told.prefix) a v). inr
      (there.0, inl (inl (record { prefix = told.prefix; direct = told.direct; says = there.1 }))))
      (chain_differs row.slot rfc uc d.geometry told.prefix (d.chain told.prefix) a v told.says)

  pub count_word_decides : IsOneTableWord d (recounted d row.slot rfc uc) 0 [] at (count_word rfc uc)
  count_word_decides =
      let small : row.slot < slots d.geometry = row_slot_small d may.good row may.has in
      let high : at < 512 * first_data d.geometry = slot_word_low d.geometry row.slot 4 small (omega arith) in
      let stands = of_chain d row may.has in
      record {
        geometry = refl;
        good = counted_good d row.slot rfc uc may.good may.rfc_fits may.uc_fits;
        inside = omega (arith, high, may.accepted.room);
        said = record {
          value = count_word row.rfc row.uc;
          told = inl (record {
            prefix = stands.0;
            direct = stands.1;
            says = at_row (field_said d.geometry row (d.chain stands.0) 4 (omega arith)
                stands.2);
          });
        };
        differs = table_differs d (recounted d row.slot rfc uc) at (count_word rfc uc) 0 [] chains
            (pointers_kept d (λ p. map (recount row.slot rfc uc) (d.chain p)) at (count_word rfc uc) 0 []
            (λ page e. omega (arith, pointer_above d.geometry page row.slot 4 small (omega arith), e)));
      }

module _ (d : Disk) (slot rfc uc : ℕ) where
  pub recounts_rows : RecountsRows slot rfc uc (rows d) (rows (recounted d slot rfc uc))
  recounts_rows = record {
    are = rows_recounted slot rfc uc d;
    kept = λ row has. subst (λ (rs : List Row). Contains rs (recount slot rfc uc row)) (sym (rows_recounted slot rfc uc d))
        (map_listed (recount slot rfc uc) (rows d) row has);
    only = λ row has. listed_map (recount slot rfc uc) (rows d) row (subst (λ (rs : List Row). Contains rs row) (rows_recounted slot rfc uc d) has);
    found = λ page. ap (λ (rs : List Row). row_of rs page) (rows_recounted slot rfc uc d) ∙ found_map slot rfc uc (rows d) page;
    this = this;
    others = others;
  }
    where
      this : (row : Row) → row.slot ≡ slot → recount slot rfc uc row ≡ record {
        slot = row.slot;
        print = row.print;
        page = row.page;
        rfc = rfc;
        uc = uc;
      }
      this row e = ap (λ (b : Bool). record {
        slot = row.slot;
        print = row.print;
        page = row.page;
        rfc = if b then rfc else row.rfc;
        uc = if b then uc
            else row.uc;
      }) (same_test row.slot slot e)

      others : (row : Row) → row.slot ≢ slot → recount slot rfc uc row ≡ row
      others row ne = ap (λ (b : Bool). record {
        slot = row.slot;
        print = row.print;
        page = row.page;
        rfc = if b then rfc else row.rfc;
        uc = if b then uc else row.uc;
      }) (other_test row.slot slot ne)
