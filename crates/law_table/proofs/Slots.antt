-- Slots of the table: each has its words, and a chain speaks of its own slots alone.
use Rattle.std.proofs.Common.{◌≡◌, ◌≢◌, ◌⊎◌, inl, inr, ⊎_elim, ℕ, suc, ◌+◌, ◌-◌, ◌*◌, ◌^◌, ◌<◌, ◌≤◌, List, [], ◌∷◌, refl, sym, ◌∙◌, ap, subst, arith}
use Rattle.std.specs.Prelude.{slice_get, All, Contains}
use Rattle.std.proofs.lemmas.Bool.{cases_eq}
use Rattle.std.proofs.lemmas.Bool.Decides.{nat_tests}
use Rattle.std.proofs.lemmas.List.Elements.{All-head, All-tail}
use Rattle.std.proofs.lemmas.Nat.{pow-add}
use Rattle.pm_device.specs.Reading.{DiffersAt}
use Rattle.pm_device.specs.Pages.{SaysRun}
use Rattle.pm_layout.specs.declared.Geometry.{Geometry}
use Rattle.pm_layout.specs.Geometry.{slot_word, pointer_word, prefix_bits, directs, slots}
use Rattle.pm_layout.proofs.Bits.{bits_of_within}
use Rattle.dn_model.specs.Table.{
  Row,
  RowsSay,
  at_field,
  at_next,
  at_later,
  ChainSays,
  at_direct_page,
  at_direct_next,
  at_row,
  chained,
  direct_page_word,
  first_slot,
  row_word,
}
use Rattle.dn_model.specs.Disk.{Disk, ChainsSay, PointersSay, TableSays}
use Rattle.dn_model.specs.Valid.{HasGoodRows}
use Rattle.law_table.specs.Changes.{with_table}
use Rattle.law_table.proofs.Rows.{all_listed, at_listed, listed_cases, listed_here, listed_later}
use Rattle.law_table.proofs.TableRows.{row_slot, one_chain}

-- different slots have different words
pub slot_word_one : (g : Geometry) (s t i j : ℕ) → i < 8 → j < 8 → slot_word g s i ≡ slot_word g t j → (s ≡ t) × (i ≡ j)
slot_word_one g s t i j il jl e = (omega arith, omega arith)

-- all rows are at other slots
abbrev pub AreElsewhere : ℕ → List Row → Type 0
AreElsewhere slot rows = All (λ row. row.slot ≢ slot) rows

-- then no row speaks of a word of that slot
pub rows_elsewhere : (g : Geometry) (s i : ℕ) (rows : List Row) (a v : ℕ) → i < 8 → AreElsewhere s rows → RowsSay g rows a v → a ≢ slot_word g s i
rows_elsewhere g s i [] a v small others says = elim says [ ]
rows_elsewhere g s i (row ∷ rows) a v small others (at_field j lt place value) =
    λ e. All-head (λ (r : Row). r.slot ≢ s) row rows others (slot_word_one g row.slot s j i (omega arith) small (sym place ∙ e)).0
rows_elsewhere g s i (row ∷ rows) a v small others (at_next place value) =
    λ e. All-head (λ (r : Row). r.slot ≢ s) row rows others (slot_word_one g row.slot s 5 i (omega arith) small (sym place ∙ e)).0
rows_elsewhere g s i (row ∷ rows) a v small others (at_later later) = rows_elsewhere g s i rows a v small (All-tail (λ (r : Row). r.slot ≢ s) row rows
    others) later

pub chained_none : (s : ℕ) (rows : List Row) → AreElsewhere s rows → chained s rows ≡ rows
chained_none s [] others = refl
chained_none s (row ∷ rows) others = let ne : row.slot ≢ s = All-head (λ (r : Row). r.slot ≢ s) row rows others in grind (arith, nat_tests)

pub chained_row : (s : ℕ) (row : Row) (rows : List Row) → row.slot ≡ s → chained s (row ∷ rows) ≡ rows
chained_row s row rows e = grind (arith, nat_tests)

pub direct_page_none : (s : ℕ) (rows : List Row) → AreElsewhere s rows → direct_page_word s rows ≡ 0
direct_page_none s [] others = refl
direct_page_none s (row ∷ rows) others = let ne : row.slot ≢ s = All-head (λ (r : Row). r.slot ≢ s) row rows others in grind (arith, nat_tests)

pub direct_page_row : (s : ℕ) (row : Row) (rows : List Row) → row.slot ≡ s → direct_page_word s (row ∷ rows) ≡ row.page
direct_page_row s row rows e = grind (arith, nat_tests)

-- the words of a row are told, and its next word
pub field_said : (g : Geometry) (row : Row) (rows : List Row) (j : ℕ) → j < 5 → Contains rows row → RowsSay g rows (slot_word g row.slot j)
    (row_word row j)
field_said g row [] j lt has = absurd (omega (arith, has.1))
field_said g row (x ∷ rows) j lt has = ⊎_elim
    (λ (e : x ≡ row). at_field j lt (ap (λ (r : Row). slot_word g r.slot j) (sym e)) (ap (λ (r : Row). row_word r j) (sym e)))
    (λ (later : Contains rows row). at_later (field_said g row rows j lt later)) (listed_cases x rows row has)

pub next_of : (g : Geometry) (row : Row) (rows : List Row) → Contains rows row → (v : ℕ) × RowsSay g rows (slot_word g row.slot 5) v
next_of g row [] has = absurd (omega (arith, has.1))
next_of g row (x ∷ rows) has = ⊎_elim
    (λ (e : x ≡ row). (first_slot rows, at_next (ap (λ (r : Row). slot_word g r.slot 5) (sym e)) refl))
    (λ (later : Contains rows row). let says = next_of g row rows later in (says.0, at_later says.1)) (listed_cases x rows row has)

-- a row of these has this slot
abbrev pub HasSlot : List Row → ℕ → Type 0
HasSlot rows slot = (row : Row) × Contains rows row × (row.slot ≡ slot)

has_later : (x : Row) (rows : List Row) (s : ℕ) → HasSlot rows s → HasSlot (x ∷ rows) s
has_later x rows s has = (has.0, listed_later x rows has.0 has.1, has.2)

-- a word of which a chain speaks is one of the direct slot or of a row's slot
pub record IsChainWord (g : Geometry) (p : ℕ) (rows : List Row) (a : ℕ) : Type 0 where
  pub slot : ℕ
  pub field : ℕ
  pub small : field < 8
  pub place : a ≡ slot_word g slot field
  pub owned : (slot ≡ p) ⊎ HasSlot rows slot

rows_word : (g : Geometry) (p : ℕ) (rows : List Row) (a v : ℕ) → RowsSay g rows a v → IsChainWord g p rows a
rows_word g p [] a v says = elim says [ ]
rows_word g p (row ∷ rows) a v (at_field j lt place value) = record {
  slot = row.slot;
  field = j;
  small = omega arith;
  place = place;
  owned = inr (row, listed_here row rows, refl);
}
rows_word g p (row ∷ rows) a v (at_next place value) = record {
  slot = row.slot;
  field = 5;
  small = omega arith;
  place = place;
  owned = inr (row, listed_here row rows, refl);
}
rows_word g p (row ∷ rows) a v (at_later later) =
    let word = rows_word g p rows a v later in
    record {
      slot = word.slot;
      field = word.field;
      small = word.small;
      place = word.place;
      owned = ⊎_elim (λ own. inl own)
          (λ (has : HasSlot rows word.slot). inr (has_later row rows word.slot has)) word.owned;
    }

pub chain_word : (g : Geometry) (p : ℕ) (rows : List Row) (a v : ℕ) → ChainSays g p rows a v → IsChainWord g p rows a
chain_word g p rows a v (at_direct_page place value) = record { slot = p; field = 0; small = omega arith; place = place; owned = inl refl }
chain_word g p rows a v (at_direct_next place value) = record { slot = p; field = 5; small = omega arith; place = place; owned = inl refl }
chain_word g p rows a v (at_row says) = rows_word g p rows a v says

module _ (d : Disk) (good : HasGoodRows d) where
  -- a slot is of one chain
  slot_one : (p q s : ℕ) → p < directs d.geometry → q < directs d.geometry → (s ≡ p) ⊎ HasSlot (d.chain p) s → (s ≡ q) ⊎ HasSlot (d.chain q) s → p ≡ q
  slot_one p q s pl ql (inl own_p) (inl own_q) = omega arith
  slot_one p q s pl ql (inl own_p) (inr has_q) = ⊎_elim (λ (e : has_q.0.slot ≡ q). omega (arith, e, has_q.2, own_p))
      (λ (high : (directs d.geometry ≤ has_q.0.slot) × (has_q.0.slot < slots d.geometry)). absurd (omega (arith, high.0, has_q.2, own_p, pl)))
      (row_slot d good q has_q.0 ql has_q.1)
  slot_one p q s pl ql (inr has_p) (inl own_q) = ⊎_elim (λ (e : has_p.0.slot ≡ p). omega (arith, e, has_p.2, own_q))
      (λ (high : (directs d.geometry ≤ has_p.0.slot) × (has_p.0.slot < slots d.geometry)). absurd (omega (arith, high.0, has_p.2, own_q, ql)))
      (row_slot d good p has_p.0 pl has_p.1)
  slot_one p q s pl ql (inr has_p) (inr has_q) = one_chain d good p q has_p.0 has_q.0 pl ql has_p.1 has_q.1 (has_p.2 ∙ sym has_q.2)

  -- behind the first place no row has the direct slot
  pub behind_first : (prefix : ℕ) (row : Row) (rs : List Row) → prefix < directs d.geometry → d.chain prefix ≡ row ∷ rs → AreElsewhere prefix rs
  behind_first prefix row rs lt is = all_listed (λ (r : Row). r.slot ≢ prefix) rs (λ r has e. not_direct r has e)
    where
      not_direct : (r : Row) → Contains rs r → r.slot ≡ prefix → ⊥
      not_direct r has e = ⊎_elim (λ (own : (r.slot ≡ prefix) × (suc has.0 ≡ 0)). omega (arith, own.1))
          (λ (high : (directs d.geometry ≤ r.slot) × (r.slot < slots d.geometry)). omega (arith, high.0, e, lt))
          (good.table prefix (suc has.0) r lt (ap (λ (xs : List Row). slice_get xs (suc has.0)) is ∙ at_listed rs r has)).place

-- Only the chain of one prefix differs, at a word of a slot that it has.
module _ (d : Disk) (good : HasGoodRows d) (prefix : ℕ) (direct : prefix < directs d.geometry) (chain : ℕ → List Row) (same : (p : ℕ)
    → p < directs d.geometry → p ≢ prefix → chain p ≡ d.chain p)
    (s i : ℕ) (small : i < 8) (owned : (s ≡ prefix) ⊎ HasSlot (d.chain prefix) s) (value first : ℕ) (fresh : List ℕ) where
  abbrev at : ℕ
  at = slot_word d.geometry s i

  other_chain : (p : ℕ) (a v : ℕ) → p < directs d.geometry → p ≢ prefix → ChainSays d.geometry p (d.chain p) a v → a ≢ at
  other_chain p a v lt ne says e =
      let word = chain_word d.geometry p (d.chain p) a v says in
      let slot : word.slot ≡ s = (slot_word_one d.geometry word.slot s word.field i word.small small (sym word.place ∙ e)).0 in
      ne (slot_one d good p prefix s lt direct (subst (λ (t : ℕ). (t ≡ p) ⊎ HasSlot (d.chain p) t) slot word.owned) owned)

  -- where the chain itself differs so, the chains do
  pub chains_differ : ((a v : ℕ) → ChainSays d.geometry prefix (chain prefix) a v
      → ((a ≡ at) × (v ≡ value)) ⊎ ((a ≢ at) × (ChainSays d.geometry prefix (d.chain prefix) a v ⊎ SaysRun first fresh a v)))
      → (a v : ℕ) → ChainsSay (with_table d chain d.pointer) a v → ((a ≡ at) × (v ≡ value)) ⊎ ((a ≢ at) × (TableSays d a v ⊎ SaysRun first fresh a v))
  chains_differ own a v told = elim (cases_eq told.prefix prefix) [
    | inl e ↦ ⊎_elim (λ here. inl here)
        (λ (there : (a ≢ at) × (ChainSays d.geometry prefix (d.chain prefix) a v ⊎ SaysRun first fresh a v)). inr (
          there.0,
          ⊎_elim (λ (says : ChainSays d.geometry prefix (d.chain prefix) a v). inl (inl (record { prefix = prefix; direct = direct; says = says })))
              (λ (word : SaysRun first fresh a v). inr word) there.1,
        ))
        (own a v (subst (λ (p : ℕ). ChainSays d.geometry p (chain p) a v) e told.says))
    | inr ne ↦
        let says : ChainSays d.geometry told.prefix (d.chain told.prefix) a v = subst (λ (rs : List Row). ChainSays d.geometry told.prefix rs a v)
        (same told.prefix told.direct ne) told.says in
        inr (other_chain told.prefix a v told.direct ne says, inl (inl (record { prefix = told.prefix; direct = told.direct; says = says })))
  ]

directs_fill : (g : Geometry) → directs g ≡ 64 * 2 ^ (prefix_bits g - 6)
directs_fill g =
    let some = (bits_of_within g.pages).0 in
    let split : prefix_bits g ≡ 6 + (prefix_bits g - 6) = omega arith in
    ap (λ (n : ℕ). 2 ^ n) split ∙ pow-add 2 6 (prefix_bits g - 6)

-- the pointers lie behind all slots
pub pointer_above : (g : Geometry) (page slot field : ℕ) → slot < slots g → field < 8 → slot_word g slot field < pointer_word g page
unfolding pointer_word
pointer_above g page slot field lt small = omega (arith, directs_fill g)

module _ (d : Disk) (chain : ℕ → List Row) (at value first : ℕ) (fresh : List ℕ) where
  -- the pointers that a change of chains leaves alone
  pub pointers_kept : ((page : ℕ) → at ≢ pointer_word d.geometry page) → (a v : ℕ) → PointersSay (with_table d chain d.pointer) a v
      → ((a ≡ at) × (v ≡ value)) ⊎ ((a ≢ at) × (TableSays d a v ⊎ SaysRun first fresh a v))
  pointers_kept apart a v told = inr (
    λ e. apart told.page (sym e ∙ told.place),
    inl (inr (record { page = told.page; in_image = told.in_image; place = told.place; value = told.value })),
  )

-- where the chains and the pointers differ so, the table does
pub table_differs : (old new : Disk) (word value first : ℕ) (fresh : List ℕ) → DiffersAt (TableSays old) (ChainsSay new) (SaysRun first fresh) word
    value
    → DiffersAt (TableSays old) (PointersSay new) (SaysRun first fresh) word value → DiffersAt (TableSays old) (TableSays new) (SaysRun first fresh)
    word value
table_differs old new word value first fresh chains pointers a v (inl told) = chains a v told
table_differs old new word value first fresh chains pointers a v (inr told) = pointers a v told
