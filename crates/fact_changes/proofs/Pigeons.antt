-- More numbers than values: two have one value.
use Rattle.std.proofs.Common.{◌≡◌, ◌≢◌, ◌⊎◌, inl, inr, ⊎_elim, ℕ, zero, suc, ◌+◌, ◌<◌, subst, arith}
use Rattle.std.proofs.lemmas.Bool.{cases_eq}

-- k is related to a value below n
pub record Hits (n : ℕ) (R : ℕ → ℕ → Type 0) (k : ℕ) : Type 0 where
  pub value : ℕ
  pub small : value < n
  pub related : R k value

-- one value and one number less
record Next (n : ℕ) (R : ℕ → ℕ → Type 0) (k v : ℕ) : Type 0 where
  below : k < n + 1
  how : R k v ⊎ (R k n × R (n + 1) v)

module _ (n : ℕ) (R : ℕ → ℕ → Type 0) (one : (j k v : ℕ) → R j v → R k v → j ≡ k) where
  next_hits : ((k : ℕ) → k < suc n + 1 → Hits (suc n) R k) → (k : ℕ) → k < n + 1 → Hits n (Next n R) k
  next_hits hits k lt = by_value (hits k (omega arith)) (hits (n + 1) (omega arith))
    where
      by_value : Hits (suc n) R k → Hits (suc n) R (n + 1) → Hits n (Next n R) k
      by_value x y = elim (cases_eq x.value n) [
        | inl e ↦
            let here : R k n = subst (R k) e x.related in
            let ne : y.value ≢ n = λ same. omega (arith, lt, one k (n + 1) n here (subst (R (n + 1)) same y.related)) in
            record { value = y.value; small = omega (arith, y.small, ne); related = record { below = lt; how = inr (here, y.related) } }
        | inr ne ↦ record { value = x.value; small = omega (arith, x.small, ne); related = record { below = lt; how = inl x.related } }
      ]

  next_one : (j k v : ℕ) → Next n R j v → Next n R k v → j ≡ k
  next_one j k v a b = ⊎_elim
      (λ (x : R j v). ⊎_elim (λ (y : R k v). one j k v x y) (λ (y : R k n × R (n + 1) v). absurd (omega (arith, a.below, one j (n + 1) v x y.1)))
      b.how)
      (λ (x : R j n × R (n + 1) v). ⊎_elim (λ (y : R k v). absurd (omega (arith, b.below, one k (n + 1) v y x.1)))
      (λ (y : R k n × R (n + 1) v). one j k n x.0 y.0) b.how) a.how

pub pigeons : (n : ℕ) (R : ℕ → ℕ → Type 0) → ((j k v : ℕ) → R j v → R k v → j ≡ k) → ((k : ℕ) → k < n + 1 → Hits n R k) → ⊥
pigeons zero R one hits = let x = hits 0 (omega arith) in omega (arith, x.small)
pigeons (suc n) R one hits = pigeons n (Next n R) (next_one n R one) (next_hits n R one hits)
