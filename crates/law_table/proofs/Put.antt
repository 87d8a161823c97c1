-- A row more among rows: which there are then, and what stays apart.
use Rattle.std.proofs.Common.{
  ◌≡◌,
  ◌≢◌,
  ◌⊎◌,
  inl,
  inr,
  ⊎_elim,
  ℕ,
  zero,
  suc,
  ◌+◌,
  ◌<◌,
  ◌≤◌,
  Bool,
  true,
  false,
  List,
  [],
  ◌∷◌,
  ◌++◌,
  refl,
  sym,
  ◌∙◌,
  ap,
  subst,
  arith,
}
use Rattle.std.specs.Prelude.{if◌then◌else◌, ◌==◌, Option, Some, Contains}
use Rattle.std.proofs.lemmas.Bool.{cases_eq}
use Rattle.dn_model.specs.Table.{Row, row_of, rows_from}
use Rattle.law_table.proofs.Rows.{
  same_test,
  other_test,
  listed_here,
  listed_later,
  listed_cases,
  IsDistinct,
  distinct_cons,
  distinct_tail,
  distinct_head,
}

-- new is old with this row put in somewhere
pub data IsPut (row : Row) : List Row → List Row → Type 0 where
  put_here : {olds : List Row} → IsPut row olds (row ∷ olds)
  put_later : {other : Row} {olds news : List Row} → IsPut row olds news → IsPut row (other ∷ olds) (other ∷ news)

pub put_row : (row : Row) (olds news : List Row) → IsPut row olds news → Contains news row
put_row row olds (new ∷ news) (put_here) = listed_here row olds
put_row row (other ∷ olds) (_ ∷ news) (put_later put) = listed_later other news row (put_row row olds news put)
put_row row olds [] put = elim put [ ]

pub put_kept : (row : Row) (olds news : List Row) → IsPut row olds news → (r : Row) → Contains olds r → Contains news r
put_kept row olds (_ ∷ news) (put_here) r has = listed_later row olds r has
put_kept row (other ∷ olds) (_ ∷ news) (put_later put) r has = ⊎_elim
    (λ (e : other ≡ r). subst (Contains (other ∷ news)) e (listed_here other news))
    (λ (later : Contains olds r). listed_later other news r (put_kept row olds news put r later)) (listed_cases other olds r has)
put_kept row olds [] put r has = elim put [ ]

pub put_listed : (row : Row) (olds news : List Row) → IsPut row olds news → (r : Row) → Contains news r → (r ≡ row) ⊎ Contains olds r
put_listed row olds (_ ∷ news) (put_here) r has = ⊎_elim (λ (e : row ≡ r). inl (sym e)) (λ later. inr later) (listed_cases row olds r has)
put_listed row (other ∷ olds) (_ ∷ news) (put_later put) r has = ⊎_elim
    (λ (e : other ≡ r). inr (subst (Contains (other ∷ olds)) e (listed_here other olds)))
    (λ (later : Contains news r). ⊎_elim (λ (e : r ≡ row). inl e) (λ (was : Contains olds r). inr (listed_later other olds r was))
    (put_listed row olds news put r later)) (listed_cases other news r has)
put_listed row olds [] put r has = elim put [ ]

module _ {X : Type 0} (f : Row → X) where
  pub put_distinct : (row : Row) (olds news : List Row) → IsPut row olds news → IsDistinct f olds → ((r : Row) → Contains olds r → f r ≢ f row)
      → IsDistinct f news
  put_distinct row olds (_ ∷ news) (put_here) apart other = distinct_cons f row olds apart other
  put_distinct row (x ∷ olds) (_ ∷ news) (put_later put) apart other =
      distinct_cons f x news (put_distinct row olds news put (distinct_tail f x olds apart) (λ r has. other r (listed_later x olds r has)))
      (λ r has e. ⊎_elim (λ (same : r ≡ row). other x (listed_here x olds) (sym (sym (ap f same) ∙ e))) (λ (was : Contains olds r). distinct_head f x
      olds apart r was e) (put_listed row olds news put r has))
  put_distinct row olds [] put apart other = elim put [ ]

  pub taken_distinct : (row : Row) (olds news : List Row) → IsPut row olds news → IsDistinct f news → IsDistinct f olds
  taken_distinct row olds (_ ∷ news) (put_here) apart = distinct_tail f row olds apart
  taken_distinct row (x ∷ olds) (_ ∷ news) (put_later put) apart =
      distinct_cons f x olds (taken_distinct row olds news put (distinct_tail f x news apart))
      (λ r has. distinct_head f x news apart r (put_kept row olds news put r has))
  taken_distinct row olds [] put apart = elim put [ ]

  -- the row differs from the others
  pub put_other : (row : Row) (olds news : List Row) → IsPut row olds news → IsDistinct f news → (r : Row) → Contains olds r → f r ≢ f row
  put_other row olds (_ ∷ news) (put_here) apart r has = distinct_head f row olds apart r has
  put_other row (x ∷ olds) (_ ∷ news) (put_later put) apart r has = ⊎_elim
      (λ (e : x ≡ r). λ same. distinct_head f x news apart row (put_row row olds news put) (sym (ap f e ∙ same)))
      (λ (later : Contains olds r). put_other row olds news put (distinct_tail f x news apart) r later) (listed_cases x olds r has)
  put_other row olds [] put apart r has = elim put [ ]

-- the row of a page: the new one for its page, and else the one of before
pub put_found : (row : Row) (olds news : List Row) → IsPut row olds news → ((r : Row) → Contains olds r → r.page ≢ row.page) → (page : ℕ)
    → row_of news page ≡ (if row.page == page then Some row else row_of olds page)
put_found row olds (_ ∷ news) (put_here) other page = refl
put_found row (x ∷ olds) (_ ∷ news) (put_later put) other page =
    let later = put_found row olds news put (λ r has. other r (listed_later x olds r has)) page in
    elim (cases_eq row.page page) [
      | inl e ↦
          let off : (x.page == page) ≡ false = other_test x.page page (λ at. other x (listed_here x olds) (at ∙ sym e)) in
          let on : (row.page == page) ≡ true = same_test row.page page e in
          ap (λ (b : Bool). if b then Some x else row_of news page) off ∙ later ∙ ap (λ (b : Bool). if b then Some row else row_of olds page) on
          ∙ ap (λ (b : Bool). if b then Some row else (if x.page == page then Some x else row_of olds page)) (sym on)
      | inr ne ↦
          let off : (row.page == page) ≡ false = other_test row.page page ne in
          ap (λ (r : Option Row). if x.page == page then Some x else r) (later ∙ ap (λ (b : Bool). if b then Some row else row_of olds page) off)
          ∙ ap (λ (b : Bool). if b then Some row else (if x.page == page then Some x else row_of olds page)) (sym off)
    ]
put_found row olds [] put other page = elim put [ ]

pub put_front : (row : Row) (xs olds news : List Row) → IsPut row olds news → IsPut row (xs ++ olds) (xs ++ news)
put_front row [] olds news put = put
put_front row (x ∷ xs) olds news put = put_later (put_front row xs olds news put)

pub put_back : (row : Row) (olds news ys : List Row) → IsPut row olds news → IsPut row (olds ++ ys) (news ++ ys)
put_back row olds (_ ∷ news) ys (put_here) = put_here
put_back row (x ∷ olds) (_ ∷ news) ys (put_later put) = put_later (put_back row olds news ys put)
put_back row olds [] ys put = elim put [ ]

-- a row more in one chain is one more in the table
module _ (row : Row) (chain chain' : ℕ → List Row) (prefix : ℕ) (same : (p : ℕ) → p ≢ prefix → chain' p ≡ chain p) where
  rows_past : (s n : ℕ) → prefix < s → rows_from chain' s n ≡ rows_from chain s n
  rows_past s zero lt = refl
  rows_past s (suc n) lt = (λ i. same s (omega arith) i ++ rows_past (s + 1) n (omega arith) i)

  pub put_rows : IsPut row (chain prefix) (chain' prefix) → (s n : ℕ) → s ≤ prefix → prefix < s + n → IsPut row (rows_from chain s n)
      (rows_from chain' s n)
  put_rows put s zero low high = absurd (omega arith)
  put_rows put s (suc n) low high = elim (cases_eq s prefix) [
    | inl e ↦ subst (λ (rs : List Row). IsPut row (chain s ++ rows_from chain (s + 1) n) (chain' s ++ rs)) (sym (rows_past (s + 1) n (omega arith)))
        (put_back row (chain s) (chain' s) (rows_from chain (s + 1) n) (subst (λ (p : ℕ). IsPut row (chain p) (chain' p)) (sym e) put))
    | inr ne ↦ subst (λ (rs : List Row). IsPut row (chain s ++ rows_from chain (s + 1) n) (rs ++ rows_from chain' (s + 1) n)) (sym (same s ne))
        (put_front row (chain s) (rows_from chain (s + 1) n) (rows_from chain' (s + 1) n) (put_rows put (s + 1) n (omega arith) (omega arith)))
  ]
