-- A row is linked behind a direct slot by the slot's next word: the one word at which the table differs.
use Rattle.std.proofs.Common.{
  ◌≡◌,
  ◌≢◌,
  ◌⊎◌,
  inl,
  inr,
  ⊎_elim,
  ℕ,
  zero,
  suc,
  ◌*◌,
  ◌<◌,
  ◌≤◌,
  Bool,
  true,
  false,
  List,
  [],
  ◌∷◌,
  refl,
  sym,
  ◌∙◌,
  ap,
  subst,
  arith,
}
use Rattle.std.specs.Prelude.{slice_get, slice_index, if◌then◌else◌, ◌==◌, Some}
use Rattle.std.proofs.lemmas.Bool.{cases_eq}
use Rattle.std.proofs.lemmas.List.Elements.{All-contains, All-head, All-cons}
use Rattle.pm_layout.specs.declared.Geometry.{Geometry}
use Rattle.pm_layout.specs.Geometry.{slot_word, directs, slots, first_data}
use Rattle.dn_model.specs.Table.{
  Row,
  RowsSay,
  at_field,
  at_next,
  at_later,
  ChainSays,
  at_direct_page,
  at_direct_next,
  at_row,
  row_word,
  first_slot,
  chained,
}
use Rattle.dn_model.specs.Disk.{Disk, rows}
use Rattle.dn_model.specs.Valid.{IsRow}
use Rattle.law_write.proofs.Unread.{slot_word_low}
use Rattle.law_table.specs.Changes.{link, linked}
use Rattle.pm_device.specs.Pages.{SaysRun}
use Rattle.law_table.specs.Words.{IsOneTableWord}
use Rattle.law_table.specs.Rows.{MayPutRow, PutsRow, linked_words}
use Rattle.law_table.proofs.Rows.{same_test, other_test, listed_at}
use Rattle.law_table.proofs.Words.{says_run}
use Rattle.law_table.proofs.Slots.{
  AreElsewhere,
  slot_word_one,
  rows_elsewhere,
  chained_none,
  chained_row,
  direct_page_row,
  direct_page_none,
  behind_first,
  chains_differ,
  pointer_above,
  pointers_kept,
  table_differs,
}
use Rattle.law_table.proofs.Put.{IsPut, put_here, put_later}
use Rattle.law_table.proofs.PutTable.{put_direct, fits_at, puts_row, put_good}

link_direct : (p : ℕ) (row first : Row) (rs : List Row) → first.slot ≡ p → link p row (first ∷ rs) ≡ first ∷ row ∷ rs
link_direct p row first rs e = ap (λ (b : Bool). if b then first ∷ row ∷ rs else row ∷ first ∷ rs) (same_test first.slot p e)

link_first : (p : ℕ) (row : Row) (rs : List Row) → AreElsewhere p rs → link p row rs ≡ row ∷ rs
link_first p row [] others = refl
link_first p row (first ∷ rs) others = ap (λ (b : Bool). if b then first ∷ row ∷ rs else row ∷ first ∷ rs)
    (other_test first.slot p (All-head (λ (r : Row). r.slot ≢ p) first rs others))

pub link_put : (p : ℕ) (row : Row) (rs : List Row) → IsPut row rs (link p row rs)
link_put p row [] = put_here
link_put p row (first ∷ rs) = by_test (first.slot == p)
  where
    by_test : (b : Bool) → IsPut row (first ∷ rs) (if b then first ∷ row ∷ rs else row ∷ first ∷ rs)
    by_test true = put_later put_here
    by_test false = put_here

-- the row comes before these rows, none of which has the direct slot p
module _ (g : Geometry) (p : ℕ) (row : Row) (behind : List Row) (indirect : row.slot ≢ p) (others : AreElsewhere p behind) where
  abbrev Differs : List Row → ℕ → ℕ → Type 0
  Differs olds a v = ((a ≡ slot_word g p 5) × (v ≡ row.slot))
      ⊎ ((a ≢ slot_word g p 5) × (ChainSays g p olds a v ⊎ SaysRun (slot_word g row.slot 0) (linked_words row (first_slot behind)) a v))

  apart : (j a : ℕ) → j < 8 → a ≡ slot_word g row.slot j → a ≢ slot_word g p 5
  apart j a small place e = indirect (slot_word_one g row.slot p j 5 small (omega arith) (sym place ∙ e)).0

  field_fresh : (j a v : ℕ) → j < 5 → a ≡ slot_word g row.slot j → v ≡ row_word row j → SaysRun (slot_word g row.slot 0)
      (linked_words row (first_slot behind)) a v
  field_fresh j a v lt place value = says_run (slot_word g row.slot 0) (linked_words row (first_slot behind)) a v j (omega arith)
      (omega (arith, place)) (value ∙ read j lt)
    where
      read : (k : ℕ) → k < 5 → row_word row k ≡ slice_index (linked_words row (first_slot behind)) k
      read zero small = refl
      read (suc zero) small = refl
      read (suc (suc zero)) small = refl
      read (suc (suc (suc zero))) small = refl
      read (suc (suc (suc (suc zero)))) small = refl
      read (suc (suc (suc (suc (suc k))))) small = absurd (omega arith)

  row_part : (olds : List Row) → ((a v : ℕ) → RowsSay g behind a v → RowsSay g olds a v) → (a v : ℕ) → RowsSay g (row ∷ behind) a v → Differs olds a v
  row_part olds was a v (at_field j lt place value) = inr (apart j a (omega arith) place, inr (field_fresh j a v lt place value))
  row_part olds was a v (at_next place value) = inr (
    apart 5 a (omega arith) place,
    inr (says_run (slot_word g row.slot 0) (linked_words row (first_slot behind)) a v 5 (omega arith) (omega (arith, place)) value),
  )
  row_part olds was a v (at_later later) = inr (rows_elsewhere g p 5 behind a v (omega arith) others later, inl (at_row (was a v later)))

  -- behind the row of the direct slot
  linked_behind : (first : Row) → first.slot ≡ p → (a v : ℕ) → ChainSays g p (first ∷ row ∷ behind) a v → Differs (first ∷ behind) a v
  linked_behind first here a v (at_direct_page place value) = inr
      (λ e. omega arith, inl (at_direct_page place (value ∙ direct_page_row p first (row ∷ behind) here ∙ sym (direct_page_row p first behind here))))
  linked_behind first here a v (at_direct_next place value) = inl (place, value ∙ ap first_slot (chained_row p first (row ∷ behind) here))
  linked_behind first here a v (at_row (at_field j lt place value)) = inr (λ e. omega arith, inl (at_row (at_field j lt place value)))
  linked_behind first here a v (at_row (at_next place value)) = inl (place ∙ ap (λ (s : ℕ). slot_word g s 5) here, value)
  linked_behind first here a v (at_row (at_later later)) = row_part (first ∷ behind) (λ b w says. at_later says) a v later

  -- first in the chain
  linked_first : (a v : ℕ) → ChainSays g p (row ∷ behind) a v → Differs behind a v
  linked_first a v (at_direct_page place value) =
      inr (
        λ e. omega arith,
        inl
            (at_direct_page place (value ∙ direct_page_none p (row ∷ behind) (All-cons (λ (r : Row). r.slot ≢ p) row behind indirect others) ∙ sym
            (direct_page_none p behind others))),
      )
  linked_first a v (at_direct_next place value) = inl
      (place, value ∙ ap first_slot (chained_none p (row ∷ behind) (All-cons (λ (r : Row). r.slot ≢ p) row behind indirect others)))
  linked_first a v (at_row says) = row_part behind (λ b w told. told) a v says

-- a chain has a row in the direct slot, and others behind it; or none has the direct slot
pub chain_cases : (p : ℕ) (rs : List Row) → ((first : Row) (rest : List Row) → rs ≡ first ∷ rest → AreElsewhere p rest)
    → ((first : Row) × (rest : List Row) × (rs ≡ first ∷ rest) × (first.slot ≡ p) × AreElsewhere p rest) ⊎ AreElsewhere p rs
chain_cases p [] behind = inr (λ k d lt. absurd (omega arith))
chain_cases p (first ∷ rest) behind = elim (cases_eq first.slot p) [
  | inl e ↦ inl (first, rest, refl, e, behind first rest refl)
  | inr ne ↦ inr (All-cons (λ (r : Row). r.slot ≢ p) first rest ne (behind first rest refl))
]

module _ (g : Geometry) (p : ℕ) (row : Row) (indirect : row.slot ≢ p) (a v : ℕ) where
  -- what is said of a word, where the chain was this and went on so behind the direct slot
  abbrev LinkDiffers : List Row → List Row → Type 0
  LinkDiffers olds behind = ((a ≡ slot_word g p 5) × (v ≡ row.slot))
      ⊎ ((a ≢ slot_word g p 5) × (ChainSays g p olds a v ⊎ SaysRun (slot_word g row.slot 0) (linked_words row (first_slot behind)) a v))

  link_behind : (first : Row) (rest : List Row) → first.slot ≡ p → AreElsewhere p rest → ChainSays g p (link p row (first ∷ rest)) a v
      → LinkDiffers (first ∷ rest) (chained p (first ∷ rest))
  link_behind first rest here others says =
      subst (LinkDiffers (first ∷ rest)) (sym (chained_row p first rest here)) (linked_behind g p row rest indirect others first here a v
      (subst (λ (xs : List Row). ChainSays g p xs a v) (link_direct p row first rest here) says))

  link_none : (rs : List Row) → AreElsewhere p rs → ChainSays g p (link p row rs) a v → LinkDiffers rs (chained p rs)
  link_none rs others says =
      subst (LinkDiffers rs) (sym (chained_none p rs others)) (linked_first g p row rs indirect others a v
      (subst (λ (xs : List Row). ChainSays g p xs a v) (link_first p row rs others) says))

  linked_differs : (rs : List Row) → ((first : Row) (rest : List Row) → rs ≡ first ∷ rest → AreElsewhere p rest) → ChainSays g p (link p row rs) a v
      → LinkDiffers rs (chained p rs)
  linked_differs rs behind says = ⊎_elim
      (λ (direct : (first : Row) × (rest : List Row) × (rs ≡ first ∷ rest) × (first.slot ≡ p) × AreElsewhere p rest).
      subst (λ (xs : List Row). LinkDiffers xs (chained p xs)) (sym direct.2)
      (link_behind direct.0 direct.1 direct.3 direct.4 (subst (λ (xs : List Row). ChainSays g p (link p row xs) a v) direct.2 says)))
      (λ (none : AreElsewhere p rs). link_none rs none says) (chain_cases p rs behind)

-- a row that doesn't have the direct slot may stand at any place of its chain
moves : (d : Disk) (p k j : ℕ) (r : Row) → IsRow d.geometry p k r → r.slot ≢ p → IsRow d.geometry p j r
moves d p k j r was ne = record {
  place = ⊎_elim (λ (direct : (r.slot ≡ p) × (k ≡ 0)). absurd (ne direct.0)) (λ high. inr high) was.place;
  data_page = was.data_page;
  twenty = was.twenty;
  bytes = was.bytes;
  prefix = was.prefix;
  rfc = was.rfc;
  uc = was.uc;
}

-- rows of which each may stand where it stands
abbrev pub AllFit : Disk → ℕ → List Row → Type 0
AllFit d p rs = (k : ℕ) (r : Row) → slice_get rs k ≡ Some r → IsRow d.geometry p k r

module _ (d : Disk) (p : ℕ) (row : Row) (fits : (k : ℕ) → IsRow d.geometry p k row) where
  first_fits : (rs : List Row) → AreElsewhere p rs → AllFit d p rs → AllFit d p (row ∷ rs)
  first_fits rs others were zero r is = let same : row ≡ r = cc in subst (IsRow d.geometry p 0) same (fits 0)
  first_fits rs others were (suc k) r is = moves d p k (suc k) r (were k r is) (All-contains (λ (x : Row). x.slot ≢ p) rs r others
      (listed_at rs k r is))

  behind_fits : (first : Row) (rs : List Row) → AreElsewhere p rs → AllFit d p (first ∷ rs) → AllFit d p (first ∷ row ∷ rs)
  behind_fits first rs others were zero r is = were 0 r is
  behind_fits first rs others were (suc zero) r is = let same : row ≡ r = cc in subst (IsRow d.geometry p 1) same (fits 1)
  behind_fits first rs others were (suc (suc k)) r is = moves d p (suc k) (suc (suc k)) r (were (suc k) r is)
      (All-contains (λ (x : Row). x.slot ≢ p) rs r others (listed_at rs k r is))

  link_fits : (rs : List Row) → ((first : Row) (rest : List Row) → rs ≡ first ∷ rest → AreElsewhere p rest) → AllFit d p rs
      → AllFit d p (link p row rs)
  link_fits rs behind were = ⊎_elim
      (λ (direct : (first : Row) × (rest : List Row) × (rs ≡ first ∷ rest) × (first.slot ≡ p) × AreElsewhere p rest).
      subst (λ (xs : List Row). AllFit d p (link p row xs)) (sym direct.2) (subst (AllFit d p) (sym (link_direct p row direct.0 direct.1 direct.3))
      (behind_fits direct.0 direct.1 direct.4 (subst (AllFit d p) direct.2 were))))
      (λ (none : AreElsewhere p rs). subst (AllFit d p) (sym (link_first p row rs none)) (first_fits rs none were)) (chain_cases p rs behind)

module _ (d : Disk) (prefix : ℕ) (row : Row) (may : MayPutRow d prefix row) where
  abbrev chain' : ℕ → List Row
  chain' p = if p == prefix then link prefix row (d.chain p) else d.chain p

  same : (p : ℕ) → p ≢ prefix → chain' p ≡ d.chain p
  same p ne = ap (λ (b : Bool). if b then link prefix row (d.chain p) else d.chain p) (other_test p prefix ne)

  here : chain' prefix ≡ link prefix row (d.chain prefix)
  here = ap (λ (b : Bool). if b then link prefix row (d.chain prefix) else d.chain prefix) (same_test prefix prefix refl)

  put : IsPut row (d.chain prefix) (chain' prefix)
  put = subst (IsPut row (d.chain prefix)) (sym here) (link_put prefix row (d.chain prefix))

  pub link_puts_row : PutsRow row (rows d) (rows (linked d prefix row))
  link_puts_row = puts_row d prefix row may chain' same put

  module _ (above : directs d.geometry ≤ row.slot) (small : row.slot < slots d.geometry) where
    behind : (first : Row) (rest : List Row) → d.chain prefix ≡ first ∷ rest → AreElsewhere prefix rest
    behind first rest is = behind_first d may.good prefix first rest (put_direct d prefix row may) is

    fits : AllFit d prefix (chain' prefix)
    fits = subst (AllFit d prefix) (sym here)
        (link_fits d prefix row (λ k. fits_at d prefix row may k (inr (above, small))) (d.chain prefix) behind
        (λ k r is. may.good.table prefix k r (put_direct d prefix row may) is))

    abbrev at : ℕ
    at = slot_word d.geometry prefix 5

    abbrev next : ℕ
    next = first_slot (chained prefix (d.chain prefix))

    high : at < 512 * first_data d.geometry
    high = slot_word_low d.geometry prefix 5 (omega (arith, put_direct d prefix row may)) (omega arith)

    own_differs : (a v : ℕ) → ChainSays d.geometry prefix (chain' prefix) a v
        → ((a ≡ at) × (v ≡ row.slot)) ⊎ ((a ≢ at) × (ChainSays d.geometry prefix (d.chain prefix) a v ⊎ SaysRun (slot_word d.geometry row.slot 0)
        (linked_words row next) a v))
    own_differs a v says = linked_differs d.geometry prefix row (λ e. omega (arith, e, above, put_direct d prefix row may)) a v (d.chain prefix)
        behind (subst (λ (rs : List Row). ChainSays d.geometry prefix rs a v) here says)

    pub link_decides : IsOneTableWord d (linked d prefix row) (slot_word d.geometry row.slot 0) (linked_words row next) at row.slot
    link_decides = record {
      geometry = refl;
      good = put_good d prefix row may chain' same put fits;
      inside = omega (arith, high, may.accepted.room);
      said = record { value = next; told = inl (record { prefix = prefix; direct = put_direct d prefix row may; says = at_direct_next refl refl }) };
      differs = table_differs d (linked d prefix row) at row.slot (slot_word d.geometry row.slot 0) (linked_words row next)
          (chains_differ d may.good prefix (put_direct d prefix row may) chain' (λ p lt ne. same p ne) prefix 5 (omega arith) (inl refl) row.slot
          (slot_word d.geometry row.slot 0) (linked_words row next) own_differs)
          (pointers_kept d chain' at row.slot (slot_word d.geometry row.slot 0) (linked_words row next)
          (λ page e. omega (arith, pointer_above d.geometry page prefix 5 (omega (arith, put_direct d prefix row may)) (omega arith), e)));
    }
