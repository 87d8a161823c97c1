-- The least number that passes a test, and an element that does.
use Rattle.std.proofs.Common.{◌≡◌, ◌⊎◌, inl, inr, ℕ, zero, suc, ◌<◌, List, [], ◌∷◌, subst, arith}
use Rattle.std.specs.Prelude.{All}
use Rattle.std.proofs.lemmas.Bool.{cases_lt}
use Rattle.std.proofs.lemmas.List.Elements.{All-nil, All-cons}
use Rattle.dn_model.specs.Faults.{IsLeast}
use Rattle.law_log_read.proofs.Decided.{Decided}

module _ (P : ℕ → Type 0) (test : (k : ℕ) → Decided (P k)) where
  abbrev pub NoneBelow : ℕ → Type 0
  NoneBelow n = (k : ℕ) → k < n → P k → ⊥

  abbrev LeastBelow : ℕ → Type 0
  LeastBelow n = NoneBelow n ⊎ ((k : ℕ) × IsLeast n P k)

  none_more : (n : ℕ) → NoneBelow n → (P n → ⊥) → NoneBelow (suc n)
  none_more n none never k lt = elim (cases_lt k n) [
    | inl low ↦ none k low
    | inr high ↦ let e : n ≡ k = omega (arith, lt, high) in subst (λ (i : ℕ). P i → ⊥) e never
  ]

  least_more : (n : ℕ) → LeastBelow n → Decided (P n) → LeastBelow (suc n)
  least_more n (inl none) (inl here) = inr (n, record { below = omega arith; has = here; least = none })
  least_more n (inl none) (inr never) = inl (none_more n none never)
  least_more n (inr found) here = inr (found.0, record { below = omega (arith, found.1.below); has = found.1.has; least = found.1.least })

  -- no number below an end passes, or one is the least
  pub least_below : (n : ℕ) → NoneBelow n ⊎ ((k : ℕ) × IsLeast n P k)
  least_below zero = inl (λ k lt. absurd (omega (arith, lt)))
  least_below (suc n) = least_more n (least_below n) (test n)

module _ {X : Type 0} (P : X → Type 0) (test : (x : X) → Decided (P x)) where
  abbrev SomeOrNone : List X → Type 0
  SomeOrNone xs = ((x : X) × P x) ⊎ All (λ x. P x → ⊥) xs

  add_one : (x : X) (xs : List X) → Decided (P x) → SomeOrNone xs → SomeOrNone (x ∷ xs)
  add_one x xs (inl here) rest = inl (x, here)
  add_one x xs (inr never) (inl found) = inl found
  add_one x xs (inr never) (inr none) = inr (All-cons (λ y. P y → ⊥) x xs never none)

  -- an element passes, or none of the list does
  pub some_or_none : (xs : List X) → ((x : X) × P x) ⊎ All (λ x. P x → ⊥) xs
  some_or_none [] = inr (All-nil (λ x. P x → ⊥))
  some_or_none (x ∷ xs) = add_one x xs (test x) (some_or_none xs)
