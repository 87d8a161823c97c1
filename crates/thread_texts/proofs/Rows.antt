-- Texts that are flat maps over numbers in order.
use Rattle.std.proofs.Common.{◌≡◌, ◌∙◌, ◌+◌, ◌++◌, ℕ, List, [], ◌∷◌, zero, suc, sym, ap, refl, arith, add-zero}
use Rattle.std.specs.List.{flat_map, range_with_len}
use Rattle.std.proofs.lemmas.Grind.{flat_map-append}
use Rattle.std.proofs.lemmas.List.{append-nil}

range_more : (from n : ℕ) → range_with_len from (suc n) ≡ range_with_len from n ++ (from + n) ∷ []
range_more from zero = ap (λ m. m ∷ []) (sym (add-zero from))
range_more from (suc n) = ap (λ ms. from ∷ ms) (range_more (from + 1) n ∙ ap (λ m. range_with_len (from + 1) n ++ m ∷ []) (omega arith))

pub flat_more : (f : ℕ → List ℕ) (n : ℕ) → flat_map f (range_with_len 0 (n + 1)) ≡ flat_map f (range_with_len 0 n) ++ f n
flat_more f n =
    let same : 0 + n ≡ n = omega arith in
    let more : n + 1 ≡ suc n = omega arith in
    ap (λ (m : ℕ). flat_map f (range_with_len 0 m)) more
    ∙ ap (flat_map f) (range_more 0 n)
    ∙ ap (λ (m : ℕ). flat_map f (range_with_len 0 n ++ m ∷ [])) same
    ∙ flat_map-append f (range_with_len 0 n) (n ∷ [])
    ∙ ap (λ (xs : List ℕ). flat_map f (range_with_len 0 n) ++ xs) (append-nil (f n))
