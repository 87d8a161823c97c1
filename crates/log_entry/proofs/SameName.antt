-- The test whether two names are the same says so.
use Rattle.std.proofs.Common.{◌≡◌, Bool, true, false, List, [], ◌∷◌, ℕ, refl, ap, arith}
use Rattle.std.specs.Prelude.{◌&&◌, ◌==◌, ◌↔◌}
use Rattle.std.proofs.lemmas.Bool.{and_parts, and_from, eqb-true, eq-eqb}
use Rattle.log_entry.specs.Name.{same_name}

pub same_name-true : (n m : List ℕ) → same_name n m ≡ true → n ≡ m
same_name-true [] [] t = refl
same_name-true [] (y ∷ ys) t = cc
same_name-true (x ∷ xs) [] t = cc
same_name-true (x ∷ xs) (y ∷ ys) t =
    let parts = and_parts (x == y) (same_name xs ys) t in
    let head : x ≡ y = eqb-true x y parts.0 in
    let tail : xs ≡ ys = same_name-true xs ys parts.1 in cc

pub same_name-same : (n : List ℕ) → same_name n n ≡ true
same_name-same [] = refl
same_name-same (x ∷ xs) = and_from (x == x) (same_name xs xs) (eq-eqb x x refl) (same_name-same xs)
