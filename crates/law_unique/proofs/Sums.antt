-- Sums below a bound.
use Rattle.std.proofs.Common.{◌≡◌, inl, inr, ℕ, zero, suc, ◌<◌, ◌≤◌, refl, ap, arith}
use Rattle.std.proofs.lemmas.Bool.{cases_eq}
use Rattle.dn_model.specs.Counts.{total}

pub total-same : (f g : ℕ → ℕ) (n : ℕ) → ((j : ℕ) → j < n → f j ≡ g j) → total n f ≡ total n g
unfolding total
total-same f g zero same = refl
total-same f g (suc n) same = omega (arith, total-same f g n (λ j lt. same j (omega arith)), same n (omega arith))

-- each term is at most the sum
pub term-le : (f : ℕ → ℕ) (n i : ℕ) → i < n → f i ≤ total n f
unfolding total
term-le f zero i lt = absurd (omega arith)
term-le f (suc n) i lt = elim (cases_eq n i) [
  | inl e ↦ let here : f n ≡ f i = ap f e in omega arith
  | inr ne ↦ omega (arith, term-le f n i (omega arith))
]

-- a sum above 0 has a term above 0
pub total-some : (f : ℕ → ℕ) (n : ℕ) → 1 ≤ total n f → (j : ℕ) × (j < n) × (1 ≤ f j)
unfolding total
total-some f zero some = absurd (omega arith)
total-some f (suc n) some = elim (cases_eq (f n) 0) [
  | inl none ↦ let found = total-some f n (omega arith) in (found.0, omega (arith, found.1), found.2)
  | inr here ↦ (n, omega arith, omega arith)
]
