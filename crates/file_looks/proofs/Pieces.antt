-- A file is read piece by piece.
use Rattle.std.proofs.Common.{◌≡◌, ℕ, ◌+◌, ◌≤◌, List, ◌++◌, length, take, drop, sym, ◌∙◌, ap, arith}
use Rattle.std.proofs.lemmas.List.{take_all}
use Rattle.std.proofs.Math.Seq.{take-add}

-- the front and a piece behind it
pub piece_more : (xs front piece : List ℕ) (at : ℕ) → front ≡ take at xs → piece ≡ take 65536 (drop at xs) → front ++ piece ≡ take (at + 65536) xs
piece_more xs front piece at so_far next =
    ap (λ (ys : List ℕ). ys ++ piece) so_far ∙ ap (λ (ys : List ℕ). take at xs ++ ys) next ∙ sym (take-add at 65536 xs)

-- all of it
pub piece_last : (xs front : List ℕ) (at size : ℕ) → front ≡ take at xs → length xs ≡ size → size ≤ at → front ≡ xs
piece_last xs front at size so_far long all = so_far ∙ take_all at xs (omega (arith, long, all))
