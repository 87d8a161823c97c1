-- The numbers of a range that pass a test, and how they change with one answer of the test.
use Rattle.std.proofs.Common.{◌≡◌, ◌≢◌, inl, inr, ℕ, zero, suc, ◌+◌, ◌<◌, ◌≤◌, Bool, true, false, cond, List, [], ◌∷◌, length, refl, sym, ◌∙◌, ap, subst, arith}
use Rattle.std.specs.Prelude.{Contains}
use Rattle.std.specs.List.Sorted.{IsStrictlyIncreasing}
use Rattle.std.proofs.lemmas.Bool.{cases_Bool, cases_eq, lt-ltb, le-ltb}
use Rattle.page_alloc.specs.Free.{with_page}
use Rattle.page_alloc.specs.Bitmap.{passing}
use Rattle.page_alloc.proofs.FreeLaws.{Contains-there, Contains-cons_cases, IsStrictlyIncreasing-cons}

-- just the numbers of the range that pass
pub Contains-passing : (p : ℕ → Bool) (low n x : ℕ) → low ≤ x → x < low + n → p x ≡ true → Contains (passing p low n) x
Contains-passing p low zero x above below passes = absurd (omega arith)
Contains-passing p low (suc n) x above below passes = elim (cases_eq low x) [
  | inl e ↦ let here : p low ≡ true = ap p e ∙ passes in rw here (0, omega arith, e)
  | inr ne ↦
      let rest : Contains (passing p (low + 1) n) x = Contains-passing p (low + 1) n x (omega arith) (omega arith) passes in
      elim (cases_Bool (p low)) [ inl t ↦ rw t (Contains-there low (passing p (low + 1) n) x rest) | inr f ↦ rw f rest ]
]

-- what is known of a number in the list
pub record Passed (p : ℕ → Bool) (low n x : ℕ) : Type 0 where
  pub above : low ≤ x
  pub below : x < low + n
  pub passes : p x ≡ true

pub passed : (p : ℕ → Bool) (low n x : ℕ) → Contains (passing p low n) x → Passed p low n x
passed p low zero x (k, lt, e) = absurd (omega arith)
passed p low (suc n) x has = elim (cases_Bool (p low)) [
  | inl t ↦
      let there : Contains (low ∷ passing p (low + 1) n) x = rw t at has in
      elim (Contains-cons_cases low (passing p (low + 1) n) x there) [
        | inl e ↦ record { above = omega arith; below = omega arith; passes = subst (λ (y : ℕ). p y ≡ true) e t }
        | inr rest ↦ let r = passed p (low + 1) n x rest in record { above = omega arith; below = omega arith; passes = r.passes }
      ]
  | inr f ↦ let r = passed p (low + 1) n x (rw f at has) in record { above = omega arith; below = omega arith; passes = r.passes }
]

-- two tests that agree in the range
pub passing-same : (p q : ℕ → Bool) (low n : ℕ) → ((x : ℕ) → low ≤ x → x < low + n → p x ≡ q x) → passing p low n ≡ passing q low n
passing-same p q low zero same = refl
passing-same p q low (suc n) same =
    let rest = passing-same p q (low + 1) n (λ x above below. same x (omega arith) (omega arith)) in
    let here = same low (omega arith) (omega arith) in
    rw here (ap (λ (ys : List ℕ). cond (q low) (low ∷ ys) ys) rest)

pub passing-none : (p : ℕ → Bool) (low n : ℕ) → ((x : ℕ) → low ≤ x → x < low + n → p x ≡ false) → passing p low n ≡ []
passing-none p low zero none = refl
passing-none p low (suc n) none =
    let here = none low (omega arith) (omega arith) in
    rw here (passing-none p (low + 1) n (λ x above below. none x (omega arith) (omega arith)))

-- the least number that passes fails longer does
pub passing-first : (p q : ℕ → Bool) (low n k : ℕ) → low ≤ k → k < low + n → p k ≡ true → q k ≡ false
    → ((x : ℕ) → low ≤ x → x < k → p x ≡ false) → ((x : ℕ) → x ≢ k → x < low + n → q x ≡ p x) → passing p low n ≡ k ∷ passing q low n
passing-first p q low zero k above below passes fails first same = absurd (omega arith)
passing-first p q low (suc n) k above below passes fails first same = elim (cases_eq low k) [
  | inl e ↦
      let p_here : p low ≡ true = ap p e ∙ passes in let q_here : q low ≡ false = ap q e ∙ fails in
      let rest = passing-same p q (low + 1) n (λ x after end. sym (same x (omega arith) (omega arith))) in
      rw (p_here, q_here, e) (ap (λ (ys : List ℕ). k ∷ ys) (subst (λ (y : ℕ). passing p (y + 1) n ≡ passing q (y + 1) n) e rest))
  | inr ne ↦
      let p_here : p low ≡ false = first low (omega arith) (omega arith) in
      let q_here : q low ≡ false = same low ne (omega arith) ∙ p_here in
      rw (p_here, q_here) (passing-first p q (low + 1) n k (omega arith) (omega arith) passes fails (λ x after before. first x (omega arith) before) (λ x other end. same x other (omega arith)))
]

-- a page goes before what is above it
with_page-front : (p : ℕ → Bool) (k low n : ℕ) → k < low → with_page k (passing p low n) ≡ k ∷ passing p low n
with_page-front p k low zero lt = refl
with_page-front p k low (suc n) lt = elim (cases_Bool (p low)) [
  | inl t ↦ rw (t, lt-ltb k low lt) refl
  | inr f ↦ rw f (with_page-front p k (low + 1) n (omega arith))
]

-- a number passes that did not
pub passing-with : (p q : ℕ → Bool) (low n k : ℕ) → low ≤ k → k < low + n → p k ≡ false → q k ≡ true
    → ((x : ℕ) → x ≢ k → x < low + n → q x ≡ p x) → passing q low n ≡ with_page k (passing p low n)
passing-with p q low zero k above below fails passes same = absurd (omega arith)
passing-with p q low (suc n) k above below fails passes same = elim (cases_eq low k) [
  | inl e ↦
      let p_here : p low ≡ false = ap p e ∙ fails in let q_here : q low ≡ true = ap q e ∙ passes in
      let rest : passing q (k + 1) n ≡ passing p (k + 1) n = passing-same q p (k + 1) n (λ x after end. same x (omega arith) (omega arith)) in
      rw (p_here, q_here, e) (ap (λ (ys : List ℕ). k ∷ ys) rest ∙ sym (with_page-front p k (k + 1) n (omega arith)))
  | inr ne ↦
      let rest = passing-with p q (low + 1) n k (omega arith) (omega arith) fails passes (λ x other end. same x other (omega arith)) in
      elim (cases_Bool (p low)) [
        | inl t ↦
            let q_here : q low ≡ true = same low ne (omega arith) ∙ t in
            rw (t, q_here, le-ltb k low (omega arith)) (ap (λ (ys : List ℕ). low ∷ ys) rest)
        | inr f ↦ let q_here : q low ≡ false = same low ne (omega arith) ∙ f in rw (f, q_here) rest
      ]
]

pub length-passing-le : (p : ℕ → Bool) (low n : ℕ) → length (passing p low n) ≤ n
length-passing-le p low zero = omega arith
length-passing-le p low (suc n) =
    let rest = length-passing-le p (low + 1) n in
    elim (cases_Bool (p low)) [ inl t ↦ rw t (omega arith) | inr f ↦ rw f (omega arith) ]

pub IsStrictlyIncreasing-passing : (p : ℕ → Bool) (low n : ℕ) → IsStrictlyIncreasing (passing p low n)
IsStrictlyIncreasing-passing p low zero = λ k lt. absurd (omega arith)
IsStrictlyIncreasing-passing p low (suc n) =
    let rest = IsStrictlyIncreasing-passing p (low + 1) n in
    elim (cases_Bool (p low)) [
      | inl t ↦ rw t (IsStrictlyIncreasing-cons low (passing p (low + 1) n) (λ y has. let above = (passed p (low + 1) n y has).above in omega arith) rest)
      | inr f ↦ rw f rest
    ]
