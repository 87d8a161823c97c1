-- Rows with one row more, and chains with one chain more.
use Rattle.std.proofs.Common.{
  ◌≡◌,
  ◌≢◌,
  ◌⊎◌,
  inl,
  inr,
  ℕ,
  zero,
  suc,
  ◌+◌,
  ◌<◌,
  Bool,
  true,
  false,
  List,
  [],
  ◌∷◌,
  ◌++◌,
  length,
  refl,
  sym,
  ◌∙◌,
  ap,
  arith,
  append-nil,
  append_assoc,
}
use Rattle.std.specs.Prelude.{slice_index, slice_get, Some, Contains, if◌then◌else◌, ◌==◌}
use Rattle.std.proofs.lemmas.Bool.Decides.{nat_tests}
use Rattle.std.proofs.lemmas.Option.{slice_get_within}
use Rattle.pm_device.specs.Reading.{Reads}
use Rattle.pm_layout.specs.declared.Geometry.{Geometry}
use Rattle.pm_layout.specs.Geometry.{slot_word}
use Rattle.dn_model.specs.Table.{Row, RowsSay, at_field, at_next, at_later, first_slot, rows_from}
use Rattle.dn_model.specs.Valid.{AreApart}
use Rattle.dn_model.specs.Faults.{RowStands}
use Rattle.fact_scan.proofs.Listed.{place_of, listed, get-append_left, get-append_right}

-- the last of them
pub get-push_new : {X : Type 0} (xs : List X) (x : X) → slice_get (xs ++ x ∷ []) (length xs) ≡ Some x
get-push_new xs x = let place : length xs + 0 ≡ length xs = omega arith in ap (slice_get (xs ++ x ∷ [])) (sym place) ∙ get-append_right xs (x ∷ []) 0

-- each is an old one or the last
pub get-push_cases : {X : Type 0} (xs : List X) (x : X) (k : ℕ) (y : X) → slice_get (xs ++ x ∷ []) k ≡ Some y
    → ((k < length xs) × (slice_get xs k ≡ Some y)) ⊎ ((k ≡ length xs) × (x ≡ y))
get-push_cases [] x zero y got = inr (refl, cc)
get-push_cases [] x (suc k) y got = cc
get-push_cases (z ∷ xs) x zero y got = inl (omega arith, got)
get-push_cases (z ∷ xs) x (suc k) y got = elim (get-push_cases xs x k y got) [
  | inl old ↦ inl (omega (arith, old.0), old.1)
  | inr new ↦ inr (omega (arith, new.0), new.1)
]

pub in-push_cases : {X : Type 0} (xs : List X) (x y : X) → Contains (xs ++ x ∷ []) y → Contains xs y ⊎ (x ≡ y)
in-push_cases xs x y there = let at = place_of (xs ++ x ∷ []) y there in elim (get-push_cases xs x at.0 y at.1) [
  | inl old ↦ inl (listed xs at.0 y old.1)
  | inr new ↦ inr new.1
]

pub in-push_old : {X : Type 0} (xs : List X) (x y : X) → Contains xs y → Contains (xs ++ x ∷ []) y
in-push_old xs x y there = let at = place_of xs y there in listed (xs ++ x ∷ []) at.0 y (get-append_left xs (x ∷ []) at.0 y at.1)

pub in-push_new : {X : Type 0} (xs : List X) (x : X) → Contains (xs ++ x ∷ []) x
in-push_new xs x = listed (xs ++ x ∷ []) (length xs) x (get-push_new xs x)

pub in-append_right : {X : Type 0} (xs ys : List X) (y : X) → Contains ys y → Contains (xs ++ ys) y
in-append_right xs ys y there = let at = place_of ys y there in listed (xs ++ ys) (length xs + at.0) y (get-append_right xs ys at.0 ∙ at.1)

-- rows that differ in what h tells of them
module _ {A : Type 0} (h : Row → A) where
  abbrev Differ : List Row → Type 0
  Differ xs = (j k : ℕ) (r s : Row) → slice_get xs j ≡ Some r → slice_get xs k ≡ Some s → h r ≡ h s → j ≡ k

  differ-push : (xs : List Row) (row : Row) → Differ xs → ((s : Row) → Contains xs s → h s ≡ h row → ⊥) → Differ (xs ++ row ∷ [])
  differ-push xs row differ new j k r s at_r at_s same = elim (get-push_cases xs row j r at_r) [
    | inl old_r ↦ elim (get-push_cases xs row k s at_s) [
      | inl old_s ↦ differ j k r s old_r.1 old_s.1 same
      | inr new_s ↦ absurd (new r (listed xs j r old_r.1) (same ∙ ap h (sym new_s.1)))
    ]
    | inr new_r ↦ elim (get-push_cases xs row k s at_s) [
      | inl old_s ↦ absurd (new s (listed xs k s old_s.1) (sym same ∙ ap h (sym new_r.1)))
      | inr new_s ↦ new_r.0 ∙ sym new_s.0
    ]
  ]

  -- so the last one is like none before
  pub last_differs : (xs : List Row) (row : Row) → Differ (xs ++ row ∷ []) → (s : Row) → Contains xs s → h s ≡ h row → ⊥
  last_differs xs row differ s there same =
      let at = place_of xs s there in
      let here : at.0 ≡ length xs = differ at.0 (length xs) s row (get-append_left xs (row ∷ []) at.0 s at.1) (get-push_new xs row) same in
      let lt = slice_get_within xs at.0 s at.1 in omega (arith, here, lt)

pub apart-push : (xs : List Row) (row : Row) → AreApart xs → ((s : Row) → Contains xs s → s.slot ≡ row.slot → ⊥)
    → ((s : Row) → Contains xs s → s.print ≡ row.print → ⊥) → ((s : Row) → Contains xs s → s.page ≡ row.page → ⊥) → AreApart (xs ++ row ∷ [])
apart-push xs row apart slot print page = record {
  slot = differ-push (λ (r : Row). r.slot) xs row apart.slot slot;
  print = differ-push (λ (r : Row). r.print) xs row apart.print print;
  page = differ-push (λ (r : Row). r.page) xs row apart.page page;
}

-- rows that stand, each of which leads to the next and the last to none, are read
pub rows_read : (g : Geometry) (words : List ℕ) (rows : List Row) → ((k : ℕ) (row : Row) → slice_get rows k ≡ Some row
    → RowStands g words row.slot row)
    → ((k : ℕ) (row next : Row) → slice_get rows k ≡ Some row → slice_get rows (k + 1) ≡ Some next → slice_index words (slot_word g row.slot 5) ≡
    next.slot)
    → ((k : ℕ) (row : Row) → slice_get rows k ≡ Some row → length rows ≡ k + 1 → slice_index words (slot_word g row.slot 5) ≡ 0)
    → Reads (RowsSay g rows) words
rows_read g words [] stand linked last a v says = elim says [ ]
rows_read g words (row ∷ rows) stand linked last a v (at_field j lt place value) = ap (slice_index words) place ∙ (stand 0 row refl).1 j lt ∙ sym
    value
rows_read g words (row ∷ rows) stand linked last a v (at_next place value) = ap (slice_index words) place ∙ next_is rows refl ∙ sym value
  where
    next_is : (rs : List Row) → rs ≡ rows → slice_index words (slot_word g row.slot 5) ≡ first_slot rs
    next_is [] e = last 0 row refl (omega (arith, ap length e))
    next_is (s ∷ rs) e = linked 0 row s refl (ap (λ (xs : List Row). slice_get xs 0) (sym e))
rows_read g words (row ∷ rows) stand linked last a v (at_later later) =
    rows_read g words rows (λ k r got. stand (suc k) r got)
    (λ k r n got after. let place : suc k + 1 ≡ suc (k + 1) = omega arith in linked (suc k) r n got (ap (slice_get (row ∷ rows)) place ∙ after))
    (λ k r got long. last (suc k) r got (omega (arith, long))) a v later

-- the chain of one prefix is another one
abbrev pub put_chain : (ℕ → List Row) → ℕ → List Row → ℕ → List Row
put_chain chain p own q = if q == p then own else chain q

pub put_here : (chain : ℕ → List Row) (p : ℕ) (own : List Row) (q : ℕ) → q ≡ p → put_chain chain p own q ≡ own
put_here chain p own q e = by_test (q == p) refl
  where
    by_test : (b : Bool) → (q == p) ≡ b → (if b then own else chain q) ≡ own
    by_test true t = refl
    by_test false t = absurd (grind (arith, nat_tests))

pub put_other : (chain : ℕ → List Row) (p : ℕ) (own : List Row) (q : ℕ) → q ≢ p → put_chain chain p own q ≡ chain q
put_other chain p own q ne = by_test (q == p) refl
  where
    by_test : (b : Bool) → (q == p) ≡ b → (if b then own else chain q) ≡ chain q
    by_test true t = absurd (ne (grind (arith, nat_tests)))
    by_test false t = refl

pub rows_from-put : (chain : ℕ → List Row) (p : ℕ) (own : List Row) (d n : ℕ) → d + n ≡ p → rows_from (put_chain chain p own) d (suc n) ≡ rows_from
    chain d n ++ own
rows_from-put chain p own d zero e = ap (λ (rs : List Row). rs ++ []) (put_here chain p own d (omega (arith, e))) ∙ append-nil own
rows_from-put chain p own d (suc n) e =
    ap (λ (rs : List Row). rs ++ rows_from (put_chain chain p own) (d + 1) (suc n)) (put_other chain p own d (λ same. omega (arith, e, same)))
    ∙ ap (λ (rs : List Row). chain d ++ rs) (rows_from-put chain p own (d + 1) n (omega (arith, e))) ∙ sym
    (append_assoc (chain d) (rows_from chain (d + 1) n) own)
