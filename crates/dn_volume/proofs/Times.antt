-- How often a slot stands in a list.
use Rattle.std.proofs.Common.{◌≡◌, ◌≢◌, ℕ, zero, suc, ◌+◌, ◌≤◌, Bool, true, false, List, [], ◌∷◌, length, refl, sym, ◌∙◌, ap, arith}
use Rattle.std.specs.Prelude.{take, if◌then◌else◌, ◌==◌}
use Rattle.law_table.proofs.Rows.{same_test, other_test}
use Rattle.dn_volume.specs.Balance.{times}

pub times_first : (slot : ℕ) (rest : List ℕ) → times slot (slot ∷ rest) ≡ 1 + times slot rest
times_first slot rest = ap (λ (t : Bool). (if t then 1 else 0) + times slot rest) (same_test slot slot refl)

pub times_other : (other slot : ℕ) (rest : List ℕ) → other ≢ slot → times other (slot ∷ rest) ≡ times other rest
times_other other slot rest ne = ap (λ (t : Bool). (if t then 1 else 0) + times other rest) (other_test slot other (λ e. ne (sym e))) ∙ omega arith

pub times-le : (slot : ℕ) (xs : List ℕ) → times slot xs ≤ length xs
times-le slot [] = omega arith
times-le slot (x ∷ xs) = let later = times-le slot xs in by_test (x == slot) later
  where
    by_test : (b : Bool) → times slot xs ≤ length xs → (if b then 1 else 0) + times slot xs ≤ length (x ∷ xs)
    by_test true later = omega (arith, later)
    by_test false later = omega (arith, later)

pub times-take : (slot n : ℕ) (xs : List ℕ) → times slot (take n xs) ≤ length xs
times-take slot zero xs = omega arith
times-take slot (suc n) [] = omega arith
times-take slot (suc n) (x ∷ xs) = let later = times-take slot n xs in by_test (x == slot) later
  where
    by_test : (b : Bool) → times slot (take n xs) ≤ length xs → (if b then 1 else 0) + times slot (take n xs) ≤ length (x ∷ xs)
    by_test true later = omega (arith, later)
    by_test false later = omega (arith, later)
