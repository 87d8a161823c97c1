-- What can be decided by natural numbers and lists.
use Rattle.std.proofs.Common.{◌≡◌, ◌⊎◌, inl, inr, ⊎_elim, ℕ, zero, suc, ◌<◌, ◌≤◌, List, [], ◌∷◌, length, refl, ap, subst, arith}
use Rattle.std.specs.Prelude.{All, Contains}
use Rattle.std.proofs.lemmas.Bool.{cases_lt, cases_eq}
use Rattle.std.proofs.lemmas.List.Elements.{All-nil, All-cons, All-head, All-tail}
use Rattle.page_alloc.proofs.FreeLaws.{Contains-there, Contains-cons_cases}

-- so or not so
abbrev pub Decided : Type 0 → Type 0
Decided A = A ⊎ (A → ⊥)

pub le_decided : (a b : ℕ) → Decided (a ≤ b)
le_decided a b = elim (cases_lt b a) [
  | inl lt ↦ inr (λ le. omega (arith, lt, le))
  | inr le ↦ inl le
]

pub lt_decided : (a b : ℕ) → Decided (a < b)
lt_decided a b = elim (cases_lt a b) [
  | inl lt ↦ inl lt
  | inr le ↦ inr (λ lt. omega (arith, lt, le))
]

module _ (A B : Type 0) where
  pub same_decided : (A → B) → (B → A) → Decided A → Decided B
  same_decided to from (inl a) = inl (to a)
  same_decided to from (inr never) = inr (λ b. never (from b))

  pub both_decided : Decided A → Decided B → Decided (A × B)
  both_decided (inl a) (inl b) = inl (a, b)
  both_decided (inl a) (inr never) = inr (λ both. never both.1)
  both_decided (inr never) b = inr (λ both. never both.0)

  pub either_decided : Decided A → Decided B → Decided (A ⊎ B)
  either_decided (inl a) b = inl (inl a)
  either_decided (inr never) (inl b) = inl (inr b)
  either_decided (inr never) (inr none) = inr (⊎_elim never none)

  pub implies_decided : Decided A → Decided B → Decided (A → B)
  implies_decided (inr never) b = inl (λ a. absurd (never a))
  implies_decided (inl a) (inl b) = inl (λ x. b)
  implies_decided (inl a) (inr never) = inr (λ f. never (f a))

pub not_decided : (A : Type 0) → Decided A → Decided (A → ⊥)
not_decided A (inl a) = inr (λ never. never a)
not_decided A (inr never) = inl never

-- each number below an end
module _ (P : ℕ → Type 0) (test : (k : ℕ) → Decided (P k)) where
  abbrev EachBelow : ℕ → Type 0
  EachBelow n = (k : ℕ) → k < n → P k

  one_more : (n : ℕ) → EachBelow n → P n → EachBelow (suc n)
  one_more n all here k lt = elim (cases_lt k n) [
    | inl low ↦ all k low
    | inr high ↦ let e : n ≡ k = omega (arith, lt, high) in subst P e here
  ]

  add_one : (n : ℕ) → Decided (EachBelow n) → Decided (P n) → Decided (EachBelow (suc n))
  add_one n (inl all) (inl here) = inl (one_more n all here)
  add_one n (inl all) (inr not_here) = inr (λ each. not_here (each n (omega arith)))
  add_one n (inr not_all) here = inr (λ each. not_all (λ k lt. each k (omega (arith, lt))))

  pub each_decided : (n : ℕ) → Decided (EachBelow n)
  each_decided zero = inl (λ k lt. absurd (omega (arith, lt)))
  each_decided (suc n) = add_one n (each_decided n) (test n)

-- each element
pub all_decided : {X : Type 0} (P : X → Type 0) → ((x : X) → Decided (P x)) → (xs : List X) → Decided (All P xs)
all_decided P test [] = inl (All-nil P)
all_decided P test (x ∷ xs) =
    same_decided (P x × All P xs) (All P (x ∷ xs)) (λ both. All-cons P x xs both.0 both.1) (λ all. (All-head P x xs all, All-tail P x xs all))
    (both_decided (P x) (All P xs) (test x) (all_decided P test xs))

pub contains_decided : (xs : List ℕ) (x : ℕ) → Decided (Contains xs x)
contains_decided [] x = inr (λ at. omega (arith, at.1))
contains_decided (y ∷ ys) x =
    same_decided ((y ≡ x) ⊎ Contains ys x) (Contains (y ∷ ys) x)
    (⊎_elim (λ (e : y ≡ x). (0, omega arith, e)) (λ (at : Contains ys x). Contains-there y ys x at))
    (Contains-cons_cases y ys x)
    (either_decided (y ≡ x) (Contains ys x) (cases_eq y x) (contains_decided ys x))

-- lists of numbers are the same
pub lists_decided : (xs ys : List ℕ) → Decided (xs ≡ ys)
lists_decided [] [] = inl refl
lists_decided [] (y ∷ ys) = inr (λ e. omega (arith, ap length e))
lists_decided (x ∷ xs) [] = inr (λ e. omega (arith, ap length e))
lists_decided (x ∷ xs) (y ∷ ys) =
    same_decided ((x ≡ y) × (xs ≡ ys)) (x ∷ xs ≡ y ∷ ys) (λ both. let first = both.0 in let rest = both.1 in cc)
    (λ e. (let first : x ≡ y = cc in first, let rest : xs ≡ ys = cc in rest))
    (both_decided (x ≡ y) (xs ≡ ys) (cases_eq x y) (lists_decided xs ys))
