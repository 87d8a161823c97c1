-- A row is put into a direct slot by its page word: the one word at which the table differs.
use Rattle.std.proofs.Common.{◌≡◌, ◌≢◌, ◌⊎◌, inl, inr, ⊎_elim, ℕ, zero, suc, ◌*◌, ◌<◌, Bool, List, ◌∷◌, refl, sym, ◌∙◌, ap, subst, arith}
use Rattle.std.specs.Prelude.{slice_get, slice_index, if◌then◌else◌, ◌==◌, Some}
use Rattle.std.proofs.lemmas.List.Elements.{All-contains}
use Rattle.pm_layout.specs.declared.Geometry.{Geometry}
use Rattle.pm_layout.specs.Geometry.{slot_word, first_data}
use Rattle.dn_model.specs.Table.{
  Row,
  at_field,
  at_next,
  at_later,
  ChainSays,
  at_direct_page,
  at_direct_next,
  at_row,
  row_word,
  first_slot,
  direct_page_word,
}
use Rattle.dn_model.specs.Disk.{Disk, rows}
use Rattle.dn_model.specs.Valid.{IsRow}
use Rattle.law_write.proofs.Unread.{slot_word_low}
use Rattle.law_table.specs.Changes.{opened}
use Rattle.pm_device.specs.Pages.{SaysRun}
use Rattle.law_table.specs.Words.{IsOneTableWord}
use Rattle.law_table.specs.Rows.{MayPutRow, PutsRow, opened_words}
use Rattle.law_table.proofs.Rows.{same_test, other_test, all_listed, listed_at}
use Rattle.law_table.proofs.TableRows.{in_table}
use Rattle.law_table.proofs.Words.{says_run}
use Rattle.law_table.proofs.Slots.{
  AreElsewhere,
  rows_elsewhere,
  chained_none,
  chained_row,
  direct_page_row,
  chains_differ,
  pointer_above,
  pointers_kept,
  table_differs,
}
use Rattle.law_table.proofs.Put.{IsPut, put_here}
use Rattle.law_table.proofs.PutTable.{put_direct, fits_at, puts_row, put_good}

-- the chain of prefix p gets this row in its direct slot
module _ (g : Geometry) (p : ℕ) (row : Row) (rows : List Row) (here : row.slot ≡ p) (others : AreElsewhere p rows) where
  abbrev Differs : ℕ → ℕ → Type 0
  Differs a v = ((a ≡ slot_word g p 0) × (v ≡ row.page))
      ⊎ ((a ≢ slot_word g p 0) × (ChainSays g p rows a v ⊎ SaysRun (slot_word g p 1) (opened_words row) a v))

  -- words 1 to 4 are fresh
  field_fresh : (j a v : ℕ) → suc j < 5 → a ≡ slot_word g row.slot (suc j) → v ≡ row_word row (suc j) → SaysRun (slot_word g p 1) (opened_words row) a
      v
  field_fresh j a v lt place value = says_run (slot_word g p 1) (opened_words row) a v j (omega arith) (omega (arith, place, here))
      (value ∙ read j (omega arith))
    where
      read : (k : ℕ) → k < 4 → row_word row (suc k) ≡ slice_index (opened_words row) k
      read zero small = refl
      read (suc zero) small = refl
      read (suc (suc zero)) small = refl
      read (suc (suc (suc zero))) small = refl
      read (suc (suc (suc (suc k)))) small = absurd (omega arith)

  opened_differs : (a v : ℕ) → ChainSays g p (row ∷ rows) a v → Differs a v
  opened_differs a v (at_direct_page place value) = inl (place, value ∙ direct_page_row p row rows here)
  opened_differs a v (at_direct_next place value) =
      inr (λ e. omega arith, inl (at_direct_next place (value ∙ ap first_slot (chained_row p row rows here ∙ sym (chained_none p rows others)))))
  opened_differs a v (at_row (at_field zero lt place value)) = inl (place ∙ ap (λ (s : ℕ). slot_word g s 0) here, value)
  opened_differs a v (at_row (at_field (suc j) lt place value)) = inr (λ e. omega arith, inr (field_fresh j a v lt place value))
  opened_differs a v (at_row (at_next place value)) =
      inr (
        λ e. omega arith,
        inl (at_direct_next (place ∙ ap (λ (s : ℕ). slot_word g s 5) here)
            (value ∙ ap first_slot (sym (chained_none p rows others)))),
      )
  opened_differs a v (at_row (at_later later)) = inr (rows_elsewhere g p 0 rows a v (omega arith) others later, inl (at_row later))

module _ (d : Disk) (prefix : ℕ) (row : Row) (may : MayPutRow d prefix row) where
  abbrev chain' : ℕ → List Row
  chain' p = if p == prefix then row ∷ d.chain p else d.chain p

  same : (p : ℕ) → p ≢ prefix → chain' p ≡ d.chain p
  same p ne = ap (λ (b : Bool). if b then row ∷ d.chain p else d.chain p) (other_test p prefix ne)

  here : chain' prefix ≡ row ∷ d.chain prefix
  here = ap (λ (b : Bool). if b then row ∷ d.chain prefix else d.chain prefix) (same_test prefix prefix refl)

  put : IsPut row (d.chain prefix) (chain' prefix)
  put = subst (IsPut row (d.chain prefix)) (sym here) put_here

  pub opening_puts_row : PutsRow row (rows d) (rows (opened d prefix row))
  opening_puts_row = puts_row d prefix row may chain' same put

  module _ (own_slot : row.slot ≡ prefix) where
    others : AreElsewhere prefix (d.chain prefix)
    others = all_listed (λ (r : Row). r.slot ≢ prefix) (d.chain prefix)
        (λ r has e. may.fresh.new_slot r (in_table d prefix r (put_direct d prefix row may) has) (e ∙ sym own_slot))

    place : (k : ℕ) (r : Row) → slice_get (row ∷ d.chain prefix) k ≡ Some r → IsRow d.geometry prefix k r
    place zero r is = let same : row ≡ r = cc in subst (IsRow d.geometry prefix 0) same (fits_at d prefix row may 0 (inl (own_slot, refl)))
    place (suc k) r is =
        let was : IsRow d.geometry prefix k r = may.good.table prefix k r (put_direct d prefix row may) is in
        record {
          place = ⊎_elim (λ (direct : (r.slot ≡ prefix) × (k ≡ 0)). absurd (All-contains (λ (x : Row). x.slot ≢ prefix) (d.chain prefix) r others
              (listed_at (d.chain prefix) k r is) direct.0)) (λ high. inr high) was.place;
          data_page = was.data_page;
          twenty = was.twenty;
          bytes = was.bytes;
          prefix = was.prefix;
          rfc = was.rfc;
          uc = was.uc;
        }

    high : slot_word d.geometry prefix 0 < 512 * first_data d.geometry
    high = slot_word_low d.geometry prefix 0 (omega (arith, put_direct d prefix row may)) (omega arith)

    own_differs : (a v : ℕ) → ChainSays d.geometry prefix (chain' prefix) a v
        → ((a ≡ slot_word d.geometry prefix 0) × (v ≡ row.page))
        ⊎ ((a ≢ slot_word d.geometry prefix 0) × (ChainSays d.geometry prefix (d.chain prefix) a v ⊎ SaysRun (slot_word d.geometry prefix 1)
        (opened_words row) a v))
    own_differs a v says = opened_differs d.geometry prefix row (d.chain prefix) own_slot others a v
        (subst (λ (rs : List Row). ChainSays d.geometry prefix rs a v) here says)

    pub opening_decides : IsOneTableWord d (opened d prefix row) (slot_word d.geometry prefix 1) (opened_words row) (slot_word d.geometry prefix 0)
        row.page
    opening_decides = record {
      geometry = refl;
      good = put_good d prefix row may chain' same put (λ k r is. place k r (subst (λ (rs : List Row). slice_get rs k ≡ Some r) here is));
      inside = omega (arith, high, may.accepted.room);
      said = record {
        value = direct_page_word prefix (d.chain prefix);
        told = inl (record { prefix = prefix; direct = put_direct d prefix row may; says = at_direct_page refl refl });
      };
      differs = table_differs d (opened d prefix row) (slot_word d.geometry prefix 0) row.page (slot_word d.geometry prefix 1) (opened_words row)
          (chains_differ d may.good prefix (put_direct d prefix row may) chain' (λ p lt ne. same p ne) prefix 0 (omega arith) (inl refl) row.page
          (slot_word d.geometry prefix 1) (opened_words row) own_differs)
          (pointers_kept d chain' (slot_word d.geometry prefix 0) row.page (slot_word d.geometry prefix 1) (opened_words row)
          (λ page e. omega (arith, pointer_above d.geometry page prefix 0 (omega (arith, put_direct d prefix row may)) (omega arith), e)));
    }
