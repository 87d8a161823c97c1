-- Numbers are counted, one after another.
use Rattle.std.proofs.Common.{
  ◌≡◌,
  ◌≢◌,
  inl,
  inr,
  ℕ,
  zero,
  suc,
  ◌+◌,
  ◌<◌,
  ◌≤◌,
  Bool,
  true,
  false,
  List,
  [],
  ◌∷◌,
  length,
  get_or,
  refl,
  sym,
  ◌∙◌,
  subst,
  arith,
}
use Rattle.std.specs.Prelude.{Contains, All}
use Rattle.std.proofs.lemmas.Bool.{cases_eq}
use Rattle.std.proofs.lemmas.List.Kept.{AllPairs-cons}
use Rattle.image_uses.specs.Uses.{HasSo}
use Rattle.image_uses.specs.UsesLoop.{IsBelow, CountsTo}

module _ (P : ℕ → Type 0) where
  pub counts-none : (low : ℕ) → ((x : ℕ) → P x → low ≤ x) → CountsTo P low 0
  counts-none low from = record {
    few = omega arith;
    are = (
      [],
      (λ x. ((λ there. absurd (omega (arith, there.1))), (λ b. absurd (omega (arith, b.below, from x b.has))))),
      (λ i j d lt within. absurd (omega arith)),
      refl,
    );
  }

  pub counts-yes : (end n : ℕ) → CountsTo P end n → P end → CountsTo P (end + 1) (n + 1)
  counts-yes end n so_far has = record {
    few = omega (arith, so_far.few);
    are = (end ∷ so_far.are.0, (λ x. (to x, from x)), AllPairs-cons (λ x y. x ≢ y) end so_far.are.0 apart so_far.are.2, omega (arith, so_far.are.3));
  }
    where
      to : (x : ℕ) → Contains (end ∷ so_far.are.0) x → IsBelow P (end + 1) x
      to x (zero, lt, is) = record { below = omega (arith, is); has = subst P is has }
      to x (suc k, lt, is) = let b = (so_far.are.1 x).0 (k, omega arith, is) in record { below = omega (arith, b.below); has = b.has }

      from : (x : ℕ) → IsBelow P (end + 1) x → Contains (end ∷ so_far.are.0) x
      from x b = elim (cases_eq x end) [
        | inl e ↦ (0, omega arith, sym e)
        | inr ne ↦ let there = (so_far.are.1 x).1 (record { below = omega (arith, b.below, ne); has = b.has }) in
            (suc there.0, omega (arith, there.1), there.2)
      ]

      apart : All (λ (y : ℕ). end ≢ y) so_far.are.0
      apart k d lt e = let b = (so_far.are.1 end).0 (k, lt, at k d lt e) in omega (arith, b.below)
        where
          at : (k d : ℕ) → k < length so_far.are.0 → end ≡ get_or so_far.are.0 k d → get_or so_far.are.0 k end ≡ end
          at k d lt e = get_or_same so_far.are.0 k end d lt ∙ sym e
            where
              get_or_same : (xs : List ℕ) (i a b : ℕ) → i < length xs → get_or xs i a ≡ get_or xs i b
              get_or_same [] i a b lt = absurd (omega arith)
              get_or_same (x ∷ xs) zero a b lt = refl
              get_or_same (x ∷ xs) (suc i) a b lt = get_or_same xs i a b (omega arith)

  pub counts-no : (end n : ℕ) → CountsTo P end n → (P end → ⊥) → CountsTo P (end + 1) n
  counts-no end n so_far none = record {
    few = omega (arith, so_far.few);
    are = (so_far.are.0, (λ x. (to x, from x)), so_far.are.2, so_far.are.3);
  }
    where
      to : (x : ℕ) → Contains so_far.are.0 x → IsBelow P (end + 1) x
      to x there = let b = (so_far.are.1 x).0 there in record { below = omega (arith, b.below); has = b.has }

      from : (x : ℕ) → IsBelow P (end + 1) x → Contains so_far.are.0 x
      from x b = elim (cases_eq x end) [
        | inl e ↦ absurd (none (subst P e b.has))
        | inr ne ↦ (so_far.are.1 x).1 (record { below = omega (arith, b.below, ne); has = b.has })
      ]

  pub counts-if : (end n n' : ℕ) (b : Bool) → CountsTo P end n → (b ≡ true → P end) → (b ≡ false → P end → ⊥) → (b ≡ true → n' ≡ n + 1)
      → (b ≡ false → n' ≡ n) → CountsTo P (end + 1) n'
  counts-if end n n' true so_far has none more same = subst (CountsTo P (end + 1)) (sym (more refl)) (counts-yes end n so_far (has refl))
  counts-if end n n' false so_far has none more same = subst (CountsTo P (end + 1)) (sym (same refl)) (counts-no end n so_far (none refl))

  -- all of them, which are those with Q
  pub counts-all : (Q : ℕ → Type 0) (end n : ℕ) → CountsTo P end n → ((x : ℕ) → x < end → P x → Q x) → ((x : ℕ) → Q x → IsBelow P end x) → HasSo Q n
  counts-all Q end n so_far to from = (
    so_far.are.0,
    (λ x. ((λ there. let b = (so_far.are.1 x).0 there in to x b.below b.has), (λ q. (so_far.are.1 x).1 (from x q)))),
    so_far.are.2,
    so_far.are.3,
  )
