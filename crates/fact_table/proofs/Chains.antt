-- What a chain of rows says of its words, and how it is walked.
use Rattle.std.proofs.Common.{
  ◌≡◌,
  ◌≢◌,
  ◌⊎◌,
  inl,
  inr,
  ℕ,
  zero,
  suc,
  ◌-◌,
  ◌<◌,
  ◌≤◌,
  Bool,
  true,
  false,
  List,
  [],
  ◌∷◌,
  length,
  map,
  get_or,
  refl,
  sym,
  ◌∙◌,
  ap,
  subst,
  arith,
}
use Rattle.std.specs.Prelude.{slice_get, Some, if◌then◌else◌, ◌==◌, nat_eq}
use Rattle.std.proofs.lemmas.Bool.Decides.{nat_tests}
use Rattle.std.proofs.lemmas.List.{length-map, get_or-map}
use Rattle.std.proofs.lemmas.List.Folds.{Any-from_list_any}
use Rattle.std.proofs.lemmas.Map.Keys.{IsDistinct-from_apart}
use Rattle.std.proofs.lemmas.Map.Steps.{length-le_from_distinct_below}
use Rattle.std.proofs.lemmas.Option.{slice_get_within}
use Rattle.std.specs.List.{list_any}
use Rattle.pm_device.specs.Reading.{Reads}
use Rattle.pm_layout.specs.declared.Geometry.{Geometry}
use Rattle.pm_layout.specs.Geometry.{directs, slot_word}
use Rattle.dn_model.specs.Table.{Row, RowsSay, at_field, at_next, at_later, ChainSays, at_row, first_slot, row_word, chained}
use Rattle.dn_model.specs.Valid.{IsRow}
use Rattle.fact_slot.proofs.Places.{directs-low}
use Rattle.fact_table.specs.Chained.{IsIndirect, IsChained, slot_from, IsWalked, HasNoRow}
use Rattle.fact_scan.proofs.Listed.{place_of, get_at, get_or_got}

-- the words of row k, and the way to the next one
pub says_field : (g : Geometry) (rows : List Row) (k : ℕ) (row : Row) (j : ℕ) → j < 5 → slice_get rows k ≡ Some row
    → RowsSay g rows (slot_word g row.slot j) (row_word row j)
says_field g [] k row j lt e = cc
says_field g (r ∷ rows) zero row j lt e =
    let same : r ≡ row = cc in subst (λ (x : Row). RowsSay g (r ∷ rows) (slot_word g x.slot j) (row_word x j)) same (at_field j lt refl refl)
says_field g (r ∷ rows) (suc k) row j lt e = at_later (says_field g rows k row j lt e)

pub first_from : (rows : List Row) → slot_from rows 0 ≡ first_slot rows
first_from [] = refl
first_from (r ∷ rows) = refl

pub says_next : (g : Geometry) (rows : List Row) (k : ℕ) (row : Row) → slice_get rows k ≡ Some row → RowsSay g rows (slot_word g row.slot 5)
    (slot_from rows (suc k))
says_next g [] k row e = cc
says_next g (r ∷ rows) zero row e =
    let same : r ≡ row = cc in subst (λ (x : Row). RowsSay g (r ∷ rows) (slot_word g x.slot 5) (slot_from rows 0)) same
    (at_next refl (first_from rows))
says_next g (r ∷ rows) (suc k) row e = at_later (says_next g rows k row e)

-- a slot that isn't 0 is that of a row
pub row_from : (rows : List Row) (i : ℕ) → slot_from rows i ≢ 0 → (row : Row) × (slice_get rows i ≡ Some row) × (row.slot ≡ slot_from rows i)
row_from [] i some = absurd (some refl)
row_from (r ∷ rows) zero some = (r, refl, refl)
row_from (r ∷ rows) (suc i) some = row_from rows i some

-- and a row has one
pub slot_of_row : (rows : List Row) (i : ℕ) (row : Row) → slice_get rows i ≡ Some row → slot_from rows i ≡ row.slot
slot_of_row [] i row e = cc
slot_of_row (r ∷ rows) zero row e = let same : r ≡ row = cc in ap (λ (x : Row). x.slot) same
slot_of_row (r ∷ rows) (suc i) row e = slot_of_row rows i row e

some_at : (rows : List Row) (k : ℕ) → k < length rows → (row : Row) × (slice_get rows k ≡ Some row)
some_at [] k lt = absurd (omega arith)
some_at (r ∷ rows) zero lt = (r, refl)
some_at (r ∷ rows) (suc k) lt = some_at rows k (omega arith)

differs : (a b : ℕ) → a ≢ b → nat_eq a b ≡ false
differs a b ne = grind (arith, nat_tests)

equal : (a b : ℕ) → nat_eq a b ≡ true → a ≡ b
equal a b e = grind (arith, nat_tests)

module _ (g : Geometry) (words : List ℕ) (rows : List Row) (is : IsChained g words rows) where
  -- where the next slot is 0, all rows were looked at
  pub walked_all : (print : List ℕ) (i slot : ℕ) → IsWalked rows print i slot → slot ≡ 0 → HasNoRow rows print
  walked_all print i slot walked ends row there same =
      let at = place_of rows row there in
      let low = (is.indirect at.0 row at.1).low in
      elim (below at.0) [
        | inl lt ↦ walked.passed at.0 row lt at.1 same
        | inr ge ↦ absurd (past at ge)
      ]
    where
      below : (k : ℕ) → (k < i) ⊎ (i ≤ k)
      below k = grind arith

      past : (at : (k : ℕ) × (slice_get rows k ≡ Some row)) → i ≤ at.0 → ⊥
      past at ge =
          let long = slice_get_within rows at.0 row at.1 in
          let r = get_or rows i row in
          let got : slice_get rows i ≡ Some r = get_at rows i row (omega arith) in
          let from = slot_of_row rows i r got in
          let low = (is.indirect i r got).low in
          let many = directs-low g in
          omega (arith, walked.slot_is)

  -- there are no more rows than indirect slots
  pub rows_fit : length rows ≤ g.pages
  rows_fit =
      let places = map (λ (row : Row). row.slot - directs g) rows in
      let long = length-map rows (λ (row : Row). row.slot - directs g) in
      let few = length-le_from_distinct_below places g.pages (IsDistinct-from_apart nat_eq places differ) fits in
      omega (arith, long, few)
    where
      place : (k : ℕ) (d : ℕ) (row : Row) → slice_get rows k ≡ Some row → get_or (map (λ (row : Row). row.slot - directs g) rows) k d ≡ row.slot
          - directs g
      place k d row got =
          get_or-map (λ (row : Row). row.slot - directs g) rows k row d (slice_get_within rows k row got) ∙ ap (λ (r : Row). r.slot - directs g)
          (get_or_got rows k row row got)

      row_at : (k : ℕ) → k < length (map (λ (row : Row). row.slot - directs g) rows) → (row : Row) × (slice_get rows k ≡ Some row)
      row_at k lt = some_at rows k (omega (arith, lt, length-map rows (λ (row : Row). row.slot - directs g)))

      differ : (i j : ℕ) (d : ℕ) → i < j → j < length (map (λ (row : Row). row.slot - directs g) rows)
          → nat_eq (get_or (map (λ (row : Row). row.slot - directs g) rows) i d) (get_or (map (λ (row : Row). row.slot - directs g) rows) j d) ≡ false
      differ i j d lt long =
          let r = row_at i (omega arith) in
          let s = row_at j long in
          let low_r = (is.indirect i r.0 r.1).low in
          let low_s = (is.indirect j s.0 s.1).low in
          let apart : r.0.slot - directs g ≢ s.0.slot - directs g = λ e. omega (arith, is.apart i j r.0 s.0 r.1 s.1 (omega arith)) in
          rw (place i d r.0 r.1, place j d s.0 s.1) (differs (r.0.slot - directs g) (s.0.slot - directs g) apart)

      fits : (q : ℕ) → list_any (nat_eq q) (map (λ (row : Row). row.slot - directs g) rows) ≡ true → q < g.pages
      fits q any =
          let found = Any-from_list_any (nat_eq q) (map (λ (row : Row). row.slot - directs g) rows) any in
          let r = row_at found.0 found.2 in
          let high = (is.indirect found.0 r.0 r.1).high in
          let low = (is.indirect found.0 r.0 r.1).low in
          let here : found.1 ≡ r.0.slot - directs g = sym found.3 ∙ place found.0 found.1 r.0 r.1 in
          let same : q ≡ found.1 = equal q found.1 found.4 in
          omega arith

-- the rows behind the direct slot
module _ (g : Geometry) (p : ℕ) (direct : p < directs g) (words : List ℕ) where
  indirect_of : (k : ℕ) (r : Row) → IsRow g p k r → (r.slot ≡ p → k ≡ 0 → ⊥) → IsIndirect g r
  indirect_of k r is not_direct = elim is.place [
    | inl here ↦ absurd (not_direct here.0 here.1)
    | inr later ↦ record { low = later.0; high = later.1; print = record { twenty = is.twenty; bytes = is.bytes }; uc = is.uc }
  ]

  pub behind : (rows : List Row) → Reads (ChainSays g p rows) words → ((k : ℕ) (row : Row) → slice_get rows k ≡ Some row → IsRow g p k row)
      → ((j k : ℕ) (r s : Row) → slice_get rows j ≡ Some r → slice_get rows k ≡ Some s → r.slot ≡ s.slot → j ≡ k)
      → IsChained g words (chained p rows)
  behind [] reads valid apart = record { reads = λ a v says. elim says [ ]; indirect = λ k row e. cc; apart = λ j k r s is_r is_s e. cc }
  behind (row ∷ rows) reads valid apart = by_test (row.slot == p) refl
    where
      by_test : (b : Bool) → (row.slot == p) ≡ b → IsChained g words (if b then rows else row ∷ rows)
      by_test true t = record {
        reads = λ a v says. reads a v (at_row (at_later says));
        indirect = λ k r got. indirect_of (suc k) r (valid (suc k) r got) (λ same zero_place. omega (arith, zero_place));
        apart = λ j k r s is_r is_s e. let next : suc j ≡ suc k = apart (suc j) (suc k) r s is_r is_s e in omega arith;
      }
      by_test false t = record {
        reads = λ a v says. reads a v (at_row says);
        indirect = λ k r got. indirect_of k r (valid k r got) (λ same zero_place. other k r got same zero_place);
        apart = apart;
      }
        where
          other : (k : ℕ) (r : Row) → slice_get (row ∷ rows) k ≡ Some r → r.slot ≡ p → k ≡ 0 → ⊥
          other zero r got same zero_place = let here : row ≡ r = cc in let slot : row.slot ≡ r.slot = ap (λ (x : Row). x.slot) here in
              grind (arith, nat_tests)
          other (suc k) r got same zero_place = omega arith
