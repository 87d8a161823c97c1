-- Rows of a table: which there are, at which places, and the row of a page.
use Rattle.std.proofs.Common.{
  ◌≡◌,
  ◌≢◌,
  ◌⊎◌,
  inl,
  inr,
  ⊎_elim,
  ℕ,
  zero,
  suc,
  ◌+◌,
  ◌<◌,
  ◌≤◌,
  Bool,
  true,
  false,
  List,
  [],
  ◌∷◌,
  ◌++◌,
  length,
  get_or,
  map,
  refl,
  sym,
  ◌∙◌,
  ap,
  subst,
  arith,
}
use Rattle.std.specs.Prelude.{slice_get, if◌then◌else◌, ◌==◌, Option, Some, None, is_some, IsSome, IsNone, All, Contains}
use Rattle.std.proofs.lemmas.Bool.{cases_eq}
use Rattle.std.proofs.lemmas.Bool.Decides.{nat_tests}
use Rattle.std.proofs.lemmas.Option.{slice_get_read, slice_get_within, get_or_from_slice_get}
use Rattle.std.proofs.lemmas.List.Elements.{Contains-get_or, Contains-append_left, Contains-append_right, Contains-append_cases}
use Rattle.dn_model.specs.Table.{Row, row_of, rows_from}

pub same_test : (a b : ℕ) → a ≡ b → (a == b) ≡ true
same_test a b e = grind (arith, nat_tests)

pub other_test : (a b : ℕ) → a ≢ b → (a == b) ≡ false
other_test a b ne = grind (arith, nat_tests)

module _ {X : Type 0} where
  pub all_listed : (P : X → Type 0) (xs : List X) → ((x : X) → Contains xs x → P x) → All P xs
  all_listed P xs each k x lt = each (get_or xs k x) (Contains-get_or xs k x lt)

  pub listed_here : (x : X) (xs : List X) → Contains (x ∷ xs) x
  listed_here x xs = (0, omega arith, refl)

  pub listed_later : (y : X) (xs : List X) (x : X) → Contains xs x → Contains (y ∷ xs) x
  listed_later y xs x has = (suc has.0, omega (arith, has.1), has.2)

  pub listed_cases : (y : X) (xs : List X) (x : X) → Contains (y ∷ xs) x → (y ≡ x) ⊎ Contains xs x
  listed_cases y xs x has = by_place has.0 has.1 has.2
    where
      by_place : (k : ℕ) → k < length (y ∷ xs) → get_or (y ∷ xs) k x ≡ x → (y ≡ x) ⊎ Contains xs x
      by_place zero lt e = inl e
      by_place (suc k) lt e = inr (k, omega arith, e)

  pub listed_at : (xs : List X) (k : ℕ) (x : X) → slice_get xs k ≡ Some x → Contains xs x
  listed_at xs k x is = (k, slice_get_within xs k x is, get_or_from_slice_get xs k x x is)

  pub at_listed : (xs : List X) (x : X) (has : Contains xs x) → slice_get xs has.0 ≡ Some x
  at_listed xs x has = slice_get_read xs (length xs) has.0 x refl has.1 (sym has.2)

  -- an element of a mapped list
  pub mapped_at : (f : X → X) (xs : List X) (k : ℕ) (y : X) → slice_get (map f xs) k ≡ Some y → (x : X) × (slice_get xs k ≡ Some x) × (f x ≡ y)
  mapped_at f [] k y is = cc
  mapped_at f (x ∷ xs) zero y is = (x, refl, cc)
  mapped_at f (x ∷ xs) (suc k) y is = mapped_at f xs k y is

  pub map_listed : (f : X → X) (xs : List X) (x : X) → Contains xs x → Contains (map f xs) (f x)
  map_listed f [] x has = absurd (omega (arith, has.1))
  map_listed f (y ∷ xs) x has = ⊎_elim
      (λ (e : y ≡ x). subst (λ (z : X). Contains (map f (y ∷ xs)) (f z)) e (listed_here (f y) (map f xs)))
      (λ (later : Contains xs x). listed_later (f y) (map f xs) (f x) (map_listed f xs x later)) (listed_cases y xs x has)

  pub listed_map : (f : X → X) (xs : List X) (y : X) → Contains (map f xs) y → (x : X) × Contains xs x × (f x ≡ y)
  listed_map f xs y has =
      let found = mapped_at f xs has.0 y (at_listed (map f xs) y has) in
      (found.0, listed_at xs has.0 found.0 found.1, found.2)

-- a row of a chain is one of the table, and the other way round
pub chain_listed : (chain : ℕ → List Row) (s n : ℕ) (row : Row) → Contains (rows_from chain s n) row → (p : ℕ) × (p < s + n) × Contains (chain p) row
chain_listed chain s zero row listed = absurd (omega (arith, listed.1))
chain_listed chain s (suc n) row listed = ⊎_elim
    (λ (here : Contains (chain s) row). (s, omega arith, here))
    (λ (later : Contains (rows_from chain (s + 1) n) row). let found = chain_listed chain (s + 1) n row later in
    (found.0, omega (arith, found.1), found.2))
    (Contains-append_cases (chain s) (rows_from chain (s + 1) n) row listed)

pub listed_chain : (chain : ℕ → List Row) (s n p : ℕ) (row : Row) → s ≤ p → p < s + n → Contains (chain p) row → Contains (rows_from chain s n) row
listed_chain chain s zero p row low high listed = absurd (omega arith)
listed_chain chain s (suc n) p row low high listed = elim (cases_eq p s) [
  | inl e ↦ Contains-append_left (chain s) (rows_from chain (s + 1) n) row (subst (λ (q : ℕ). Contains (chain q) row) e listed)
  | inr ne ↦ Contains-append_right (chain s) (rows_from chain (s + 1) n) row (listed_chain chain (s + 1) n p row (omega arith) (omega arith) listed)
]

-- the row that is found for a page
pub row_listed : (rs : List Row) (page : ℕ) → IsSome (row_of rs page) → (row : Row) × Contains rs row × (row.page ≡ page)
row_listed [] page some = cc
row_listed (row ∷ rs) page some = by_test (row.page == page) refl (row_listed rs page) some
  where
    by_test : (b : Bool) → (row.page == page) ≡ b → (IsSome (row_of rs page) → (r : Row) × Contains rs r × (r.page ≡ page))
        → IsSome (if b then Some row else row_of rs page)
        → (r : Row) × Contains (row ∷ rs) r × (r.page ≡ page)
    by_test true t later some = (row, (0, omega arith, refl), grind (arith, nat_tests))
    by_test false t later some = let found = later some in (found.0, (suc found.1.0, omega (arith, found.1.1), found.1.2), found.2)

-- a row's page has a row
pub row_found : (rs : List Row) (row : Row) → Contains rs row → IsSome (row_of rs row.page)
row_found [] row has = absurd (omega (arith, has.1))
row_found (x ∷ rs) row has = ⊎_elim
    (λ (e : x ≡ row). ap (λ (b : Bool). is_some (if b then Some x else row_of rs row.page)) (same_test x.page row.page (ap (λ (r : Row). r.page) e)))
    (λ (later : Contains rs row). by_test (x.page == row.page) (row_found rs row later)) (listed_cases x rs row has)
  where
    by_test : (b : Bool) → IsSome (row_of rs row.page) → IsSome (if b then Some x else row_of rs row.page)
    by_test true later = refl
    by_test false later = later

pub none_or_some : (r : Option Row) → IsNone r → IsSome r → ⊥
none_or_some None none some = cc
none_or_some (Some x) none some = cc

pub some_or_none : (r : Option Row) → IsSome r ⊎ IsNone r
some_or_none None = inr refl
some_or_none (Some x) = inl refl

-- no row has the page
pub none_listed : (rs : List Row) (page : ℕ) → IsNone (row_of rs page) → (row : Row) → Contains rs row → row.page ≢ page
none_listed rs page none row has e = none_or_some (row_of rs page) none (subst (λ (p : ℕ). IsSome (row_of rs p)) e (row_found rs row has))

pub none_found : (rs : List Row) (page : ℕ) → ((row : Row) → Contains rs row → row.page ≢ page) → IsNone (row_of rs page)
none_found rs page other = ⊎_elim (λ (some : IsSome (row_of rs page)). let found = row_listed rs page some in absurd (other found.0 found.1 found.2))
    (λ none. none) (some_or_none (row_of rs page))

-- rows that agree in this are one row, at one place
abbrev pub IsDistinct : {X : Type 0} → (Row → X) → List Row → Type 0
IsDistinct f rs = (j k : ℕ) (r s : Row) → slice_get rs j ≡ Some r → slice_get rs k ≡ Some s → f r ≡ f s → j ≡ k

nothing_at : (r : Row) → None ≡ Some r → ⊥
nothing_at r is = cc

module _ {X : Type 0} (f : Row → X) where
  pub distinct_cons : (x : Row) (rs : List Row) → IsDistinct f rs → ((r : Row) → Contains rs r → f r ≢ f x) → IsDistinct f (x ∷ rs)
  distinct_cons x rs apart other zero zero r s at_j at_k e = refl
  distinct_cons x rs apart other zero (suc k) r s at_j at_k e = let same : x ≡ r = cc in
      absurd (other s (listed_at rs k s at_k) (sym (ap f same ∙ e)))
  distinct_cons x rs apart other (suc j) zero r s at_j at_k e = let same : x ≡ s = cc in
      absurd (other r (listed_at rs j r at_j) (e ∙ sym (ap f same)))
  distinct_cons x rs apart other (suc j) (suc k) r s at_j at_k e = ap suc (apart j k r s at_j at_k e)

  pub distinct_tail : (x : Row) (rs : List Row) → IsDistinct f (x ∷ rs) → IsDistinct f rs
  distinct_tail x rs apart j k r s at_j at_k e = let more : suc j ≡ suc k = apart (suc j) (suc k) r s at_j at_k e in omega arith

  pub distinct_head : (x : Row) (rs : List Row) → IsDistinct f (x ∷ rs) → (r : Row) → Contains rs r → f r ≢ f x
  distinct_head x rs apart r has e = let more : suc has.0 ≡ 0 = apart (suc has.0) 0 r x (at_listed rs r has) refl e in omega arith

  pub distinct_map : (g : Row → Row) → ((r : Row) → f (g r) ≡ f r) → (rs : List Row) → IsDistinct f rs → IsDistinct f (map g rs)
  distinct_map g same rs apart j k r s at_j at_k e =
      let one = mapped_at g rs j r at_j in
      let two = mapped_at g rs k s at_k in
      apart j k one.0 two.0 one.1 two.1 (sym (same one.0) ∙ ap f one.2 ∙ e ∙ sym (ap f two.2) ∙ same two.0)

  pub distinct_same : (rs : List Row) → IsDistinct f rs → (r s : Row) → Contains rs r → Contains rs s → f r ≡ f s → r ≡ s
  distinct_same rs apart r s has_r has_s e =
      let place : has_r.0 ≡ has_s.0 = apart has_r.0 has_s.0 r s (at_listed rs r has_r) (at_listed rs s has_s) e in
      one r s (sym (at_listed rs r has_r) ∙ ap (slice_get rs) place ∙ at_listed rs s has_s)
    where
      one : (x y : Row) → Some x ≡ Some y → x ≡ y
      one x y e = cc

  pub distinct_left : (xs ys : List Row) → IsDistinct f (xs ++ ys) → IsDistinct f xs
  distinct_left [] ys apart = λ j k r s at_j at_k e. absurd (nothing_at r at_j)
  distinct_left (x ∷ xs) ys apart = distinct_cons x xs (distinct_left xs ys (distinct_tail x (xs ++ ys) apart))
      (λ r has. distinct_head x (xs ++ ys) apart r (Contains-append_left xs ys r has))

  pub distinct_right : (xs ys : List Row) → IsDistinct f (xs ++ ys) → IsDistinct f ys
  distinct_right [] ys apart = apart
  distinct_right (x ∷ xs) ys apart = distinct_right xs ys (distinct_tail x (xs ++ ys) apart)

  -- rows of one chain are apart, if those of the table are
  pub distinct_chain : (chain : ℕ → List Row) (s n p : ℕ) → s ≤ p → p < s + n → IsDistinct f (rows_from chain s n) → IsDistinct f (chain p)
  distinct_chain chain s zero p low high apart = absurd (omega arith)
  distinct_chain chain s (suc n) p low high apart = elim (cases_eq p s) [
    | inl e ↦ subst (λ (q : ℕ). IsDistinct f (chain q)) (sym e) (distinct_left (chain s) (rows_from chain (s + 1) n) apart)
    | inr ne ↦ distinct_chain chain (s + 1) n p (omega arith) (omega arith) (distinct_right (chain s) (rows_from chain (s + 1) n) apart)
  ]
