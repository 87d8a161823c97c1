-- A page gets another pointer: what the table then says, and that its rows make sense; and when it may.
use Rattle.std.proofs.Common.{◌≡◌, ◌≢◌, inl, inr, ℕ, ◌+◌, ◌*◌, ◌<◌, ◌≤◌, Bool, List, [], ◌∷◌, refl, sym, ◌∙◌, ap, subst, arith}
use Rattle.std.specs.Prelude.{if◌then◌else◌, ◌==◌, All, Contains}
use Rattle.std.proofs.lemmas.Bool.{cases_eq}
use Rattle.std.proofs.lemmas.List.Elements.{All-contains, All-tail}
use Rattle.pm_device.specs.Pages.{SaysRun}
use Rattle.pm_device.specs.Reading.{DiffersAt}
use Rattle.pm_layout.specs.declared.Geometry.{Geometry}
use Rattle.pm_layout.specs.Geometry.{IsAccepted, pointer_word, slots, first_data}
use Rattle.dn_model.specs.Table.{Row, RowsSay, at_field, at_next, at_later, ChainSays, at_direct_page, at_direct_next, at_row}
use Rattle.dn_model.specs.Disk.{Disk, ChainsSay, PointersSay, TableSays, rows}
use Rattle.dn_model.specs.Valid.{HasGoodRows}
use Rattle.law_write.proofs.Unread.{pointer_word_low}
use Rattle.law_table.specs.Changes.{repointed}
use Rattle.law_table.specs.Words.{IsOneTableWord}
use Rattle.law_table.specs.Rows.{MayPoint, IsFreshRow, MayPutRow}
use Rattle.law_table.proofs.Rows.{same_test, other_test, all_listed}
use Rattle.law_table.proofs.TableRows.{row_slot_small, in_table}
use Rattle.law_table.proofs.Slots.{pointer_above, table_differs}

-- a chain says nothing of a pointer's word
rows_apart : (g : Geometry) (page : ℕ) (rs : List Row) (a v : ℕ) → All (λ row. row.slot < slots g) rs → RowsSay g rs a v → a ≢ pointer_word g page
rows_apart g page [] a v small says = elim says [ ]
rows_apart g page (row ∷ rs) a v small (at_field j lt place value) = λ e. omega (
  arith,
  pointer_above g page row.slot j (small 0 row (omega arith))
      (omega arith),
  place,
  e,
)
rows_apart g page (row ∷ rs) a v small (at_next place value) = λ e. omega (
  arith,
  pointer_above g page row.slot 5 (small 0 row (omega arith))
      (omega arith),
  place,
  e,
)
rows_apart g page (row ∷ rs) a v small (at_later later) = rows_apart g page rs a v (All-tail (λ (r : Row). r.slot < slots g) row rs small) later

chain_apart : (g : Geometry) (page p : ℕ) (rs : List Row) (a v : ℕ) → p < slots g → All (λ row. row.slot < slots g) rs → ChainSays g p rs a v
    → a ≢ pointer_word g page
chain_apart g page p rs a v lt small (at_direct_page place value) = λ e. omega (arith, pointer_above g page p 0 lt (omega arith), place, e)
chain_apart g page p rs a v lt small (at_direct_next place value) = λ e. omega (arith, pointer_above g page p 5 lt (omega arith), place, e)
chain_apart g page p rs a v lt small (at_row says) = rows_apart g page rs a v small says

module _ (d : Disk) (page value : ℕ) where
  abbrev pointer' : ℕ → ℕ
  pointer' p = if p == page then value else d.pointer p

  pub rows_repointed : rows (repointed d page value) ≡ rows d
  unfolding rows
  rows_repointed = refl

  here : (p : ℕ) → p ≡ page → pointer' p ≡ value
  here p e = ap (λ (b : Bool). if b then value else d.pointer p) (same_test p page e)

  other : (p : ℕ) → p ≢ page → pointer' p ≡ d.pointer p
  other p ne = ap (λ (b : Bool). if b then value else d.pointer p) (other_test p page ne)

module _ (d : Disk) (page value : ℕ) (may : MayPoint d page value) where
  leads_one : (row : Row) → Contains (rows d) row → pointer' d page value row.page ≡ row.slot + 1
  leads_one row has = elim (cases_eq row.page page) [
    | inl e ↦ here d page value row.page e ∙ may.leads row has e
    | inr ne ↦ other d page value row.page ne ∙ All-contains (λ (x : Row). d.pointer x.page ≡ x.slot + 1) (rows d) row may.good.leads has
  ]

  small_one : (p : ℕ) → p < d.geometry.pages → pointer' d page value p ≤ slots d.geometry
  small_one p lt = elim (cases_eq p page) [
    | inl e ↦ omega (arith, here d page value p e, may.small)
    | inr ne ↦ omega (arith, other d page value p ne, may.good.pointers p lt)
  ]

  pub pointed_good : HasGoodRows (repointed d page value)
  unfolding rows
  pointed_good = record {
    table = may.good.table;
    apart = may.good.apart;
    pointers = small_one;
    leads = all_listed (λ (row : Row). pointer' d page value row.page ≡ row.slot + 1) (rows d) leads_one;
  }

  abbrev at : ℕ
  at = pointer_word d.geometry page

  high : at < 512 * first_data d.geometry
  high = pointer_word_low d.geometry page may.in_image

  chains : DiffersAt (TableSays d) (ChainsSay (repointed d page value)) (SaysRun 0 []) at value
  chains a v told = inr (
    chain_apart d.geometry page told.prefix (d.chain told.prefix) a v (omega (arith, told.direct))
        (all_listed (λ (row : Row). row.slot < slots d.geometry) (d.chain told.prefix)
        (λ row has. row_slot_small d may.good row (in_table d told.prefix row told.direct has))) told.says,
    inl (inl (record { prefix = told.prefix; direct = told.direct; says = told.says })),
  )

  word_one : (g : Geometry) (p q : ℕ) → pointer_word g p ≡ pointer_word g q → p ≡ q
  unfolding pointer_word
  word_one g p q e = omega arith

  pointers : DiffersAt (TableSays d) (PointersSay (repointed d page value)) (SaysRun 0 []) at value
  pointers a v told = elim (cases_eq told.page page) [
    | inl e ↦ inl (told.place ∙ ap (pointer_word d.geometry) e, told.value ∙ here d page value told.page e)
    | inr ne ↦ inr (
      λ e. ne (word_one d.geometry told.page page (sym told.place ∙ e)),
      inl (inr (record { page = told.page; in_image = told.in_image; place = told.place; value = told.value ∙ other d page value told.page ne })),
    )
  ]

  pub pointer_decides : IsOneTableWord d (repointed d page value) 0 [] at value
  pointer_decides = record {
    geometry = refl;
    good = pointed_good;
    inside = omega (arith, high, may.accepted.room);
    said = record { value = d.pointer page; told = inr (record { page = page; in_image = may.in_image; place = refl; value = refl }) };
    differs = table_differs d (repointed d page value) at value 0 [] chains pointers;
  }

pub stale_may_clear : (d : Disk) (page : ℕ) → IsAccepted d.geometry → HasGoodRows d → page < d.geometry.pages
    → ((r : Row) → Contains (rows d) r → r.page ≢ page) → MayPoint d page 0
stale_may_clear d page accepted good in_image none = record {
  accepted = accepted;
  good = good;
  in_image = in_image;
  small = omega arith;
  leads = λ r has e. absurd (none r has e);
}

module _ (d : Disk) (prefix : ℕ) (row : Row) (accepted : IsAccepted d.geometry) (good : HasGoodRows d) (fresh : IsFreshRow d prefix row)
    (small : row.slot < slots d.geometry) where
  pub fresh_may_point : MayPoint d row.page (row.slot + 1)
  fresh_may_point = record {
    accepted = accepted;
    good = good;
    in_image = fresh.data_page.high;
    small = omega (arith, small);
    leads = λ r has e. absurd (fresh.new_page r has e);
  }

  abbrev pointed : Disk
  pointed = repointed d row.page (row.slot + 1)

  was : (r : Row) → Contains (rows pointed) r → Contains (rows d) r
  was r has = subst (λ (rs : List Row). Contains rs r) (rows_repointed d row.page (row.slot + 1)) has

  pub pointed_may_put : MayPutRow pointed prefix row
  pointed_may_put = record {
    accepted = accepted;
    good = pointed_good d row.page (row.slot + 1) fresh_may_point;
    fresh = record {
      data_page = fresh.data_page;
      twenty = fresh.twenty;
      bytes = fresh.bytes;
      prefix_is = fresh.prefix_is;
      rfc_fits = fresh.rfc_fits;
      uc_fits = fresh.uc_fits;
      new_slot = λ r has. fresh.new_slot r (was r has);
      new_print = λ r has. fresh.new_print r (was r has);
      new_page = λ r has. fresh.new_page r (was r has);
    };
    leads = ap (λ (b : Bool). if b then row.slot + 1 else d.pointer row.page) (same_test row.page row.page refl);
  }
