-- Statements of which it is decided whether they hold.
use Rattle.std.proofs.Common.{◌≡◌, ◌⊎◌, inl, inr, ⊎_elim, ℕ, zero, suc, ◌<◌, ◌≤◌, List, [], ◌∷◌, ◌++◌, length, get_or, refl, sym, ap, subst, arith}
use Rattle.std.specs.Prelude.{All, Contains}
use Rattle.std.proofs.lemmas.Bool.{cases_lt, cases_eq}
use Rattle.std.proofs.lemmas.List.Elements.{All-nil, All-cons, All-head, All-tail}
use Rattle.dn_model.specs.Faults.{IsLeast}
use Rattle.law_unique.proofs.Listings.{here, later, none_listed, cons_cases}

abbrev pub Decided : Type 0 → Type 0
Decided P = P ⊎ (P → ⊥)

pub decide_lt : (a b : ℕ) → Decided (a < b)
decide_lt a b = elim (cases_lt a b) [
  | inl lt ↦ inl lt
  | inr ge ↦ inr (λ lt. omega (arith, lt, ge))
]

pub decide_le : (a b : ℕ) → Decided (a ≤ b)
decide_le a b = elim (cases_lt b a) [
  | inl lt ↦ inr (λ le. omega (arith, lt, le))
  | inr le ↦ inl le
]

module _ (P Q : Type 0) where
  pub decide_both : Decided P → Decided Q → Decided (P × Q)
  decide_both (inl p) (inl q) = inl (p, q)
  decide_both (inl p) (inr none) = inr (λ both. none both.1)
  decide_both (inr none) q = inr (λ both. none both.0)

  pub decide_either : Decided P → Decided Q → Decided (P ⊎ Q)
  decide_either (inl p) q = inl (inl p)
  decide_either (inr none) (inl q) = inl (inr q)
  decide_either (inr none) (inr none') = inr (λ either. ⊎_elim none none' either)

  pub decide_as : (P → Q) → (Q → P) → Decided P → Decided Q
  decide_as to from (inl p) = inl (to p)
  decide_as to from (inr none) = inr (λ q. none (from q))

pub decide_not : (P : Type 0) → Decided P → Decided (P → ⊥)
decide_not P (inl p) = inr (λ none. none p)
decide_not P (inr none) = inl none

-- two lists of numbers are the same or not
pub decide_same : (xs ys : List ℕ) → Decided (xs ≡ ys)
decide_same [] [] = inl refl
decide_same [] (y ∷ ys) = inr (λ e. cc)
decide_same (x ∷ xs) [] = inr (λ e. cc)
decide_same (x ∷ xs) (y ∷ ys) = by_parts (cases_eq x y) (decide_same xs ys)
  where
    by_parts : Decided (x ≡ y) → Decided (xs ≡ ys) → Decided (x ∷ xs ≡ y ∷ ys)
    by_parts (inl e) (inl f) = inl (λ i. e i ∷ f i)
    by_parts (inl e) (inr ne) = inr (λ f. ne (cc))
    by_parts (inr ne) d = inr (λ f. ne (cc))

-- the least number below a bound with P, or none
module _ (P : ℕ → Type 0) where
  pub least_or_none : (n : ℕ) → ((k : ℕ) → k < n → Decided (P k)) → ((k : ℕ) × IsLeast n P k) ⊎ ((k : ℕ) → k < n → P k → ⊥)
  least_or_none zero each = inr (λ k lt p. omega (arith, lt))
  least_or_none (suc n) each = by_first (least_or_none n (λ k lt. each k (omega (arith, lt)))) (each n (omega arith))
    where
      by_first : ((k : ℕ) × IsLeast n P k) ⊎ ((k : ℕ) → k < n → P k → ⊥) → Decided (P n) → ((k : ℕ) × IsLeast (suc n) P k) ⊎ ((k : ℕ) → k < suc n
          → P k → ⊥)
      by_first (inl found) d = inl (found.0, record { below = omega (arith, found.1.below); has = found.1.has; least = found.1.least })
      by_first (inr none) (inl p) = inl (n, record { below = omega arith; has = p; least = none })
      by_first (inr none) (inr not) = inr (λ k lt p. ⊎_elim (λ (e : k ≡ n). not (subst P e p)) (λ (ne : k ≡ n → ⊥). none k (omega (arith, lt, ne)) p)
          (cases_eq k n))

  pub decide_below : (n : ℕ) → ((k : ℕ) → k < n → Decided (P k)) → Decided ((k : ℕ) × (k < n) × P k)
  decide_below n each = elim (least_or_none n each) [
    | inl found ↦ inl (found.0, found.1.below, found.1.has)
    | inr none ↦ inr (λ some. none some.0 some.1 some.2)
  ]

-- the elements of a list
module _ {X : Type 0} (P : X → Type 0) where
  -- all of a list have P, or it has a first one that doesn't
  pub all_or_first : ((x : X) → Decided (P x)) → (xs : List X) → All P xs ⊎ ((front : List X) × (x : X) × (rest : List X) × (xs ≡ front ++ x ∷ rest) ×
      All P front × (P x → ⊥))
  all_or_first each [] = inl (All-nil P)
  all_or_first each (x ∷ xs) = by_first (each x) (all_or_first each xs)
    where
      by_first : Decided (P x) → All P xs ⊎ ((front : List X) × (y : X) × (rest : List X) × (xs ≡ front ++ y ∷ rest) × All P front × (P y → ⊥))
          → All P (x ∷ xs) ⊎ ((front : List X) × (y : X) × (rest : List X) × (x ∷ xs ≡ front ++ y ∷ rest) × All P front × (P y → ⊥))
      by_first (inr not) more = inr ([], x, xs, refl, All-nil P, not)
      by_first (inl p) (inl all) = inl (All-cons P x xs p all)
      by_first (inl p) (inr found) = inr (
        x ∷ found.0,
        found.1,
        found.2,
        ap (λ (ys : List X). x ∷ ys) found.3,
        All-cons P x found.0 p found.4,
        found.5,
      )

  pub decide_all : ((x : X) → Decided (P x)) → (xs : List X) → Decided (All P xs)
  decide_all each [] = inl (All-nil P)
  decide_all each (x ∷ xs) = by_parts (each x) (decide_all each xs)
    where
      by_parts : Decided (P x) → Decided (All P xs) → Decided (All P (x ∷ xs))
      by_parts (inl p) (inl all) = inl (All-cons P x xs p all)
      by_parts (inl p) (inr not) = inr (λ all. not (All-tail P x xs all))
      by_parts (inr not) d = inr (λ all. not (All-head P x xs all))

  -- one of a list has P, or none
  pub decide_listed : ((x : X) → Decided (P x)) → (xs : List X) → Decided ((x : X) × Contains xs x × P x)
  decide_listed each [] = inr (λ some. none_listed some.0 some.1)
  decide_listed each (x ∷ xs) = by_parts (each x) (decide_listed each xs)
    where
      by_parts : Decided (P x) → Decided ((y : X) × Contains xs y × P y) → Decided ((y : X) × Contains (x ∷ xs) y × P y)
      by_parts (inl p) d = inl (x, here x xs, p)
      by_parts (inr not) (inl found) = inl (found.0, later x found.0 xs found.1, found.2)
      by_parts (inr not) (inr none) = inr (λ some. ⊎_elim (λ (e : x ≡ some.0). not (subst P (sym e) some.2))
          (λ (more : Contains xs some.0). none (some.0, more, some.2)) (cons_cases x some.0 xs some.1))

-- a number is listed or not
pub decide_contains : (xs : List ℕ) (x : ℕ) → Decided (Contains xs x)
decide_contains xs x = decide_below (λ k. get_or xs k x ≡ x) (length xs) (λ k lt. cases_eq (get_or xs k x) x)
