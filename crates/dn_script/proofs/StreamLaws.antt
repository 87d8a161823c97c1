-- Bytes before what is left, and behind what was taken.
use Rattle.std.proofs.Common.{◌≡◌, ℕ, ◌+◌, ◌-◌, List, [], ◌++◌, length, take, drop, Option, Some, None, refl, sym, ap, ◌∙◌, append_assoc}
use Rattle.std.proofs.lemmas.List.{append-nil, take_rest, drop-drop, take-append-drop}
use Rattle.std.proofs.Math.Seq.{take-add}
use Rattle.dn_script.specs.Streams.{with_front, with_back}

pub with_front-nil : (o : Option (List ℕ)) → with_front [] o ≡ o
with_front-nil None = refl
with_front-nil (Some rest) = refl

pub with_back-nil : (o : Option (List ℕ)) → with_back o [] ≡ o
with_back-nil None = refl
with_back-nil (Some taken) = ap Some (append-nil taken)

pub with_back-with_back : (o : Option (List ℕ)) (a b : List ℕ) → with_back (with_back o a) b ≡ with_back o (a ++ b)
with_back-with_back None a b = refl
with_back-with_back (Some taken) a b = ap Some (append_assoc taken a b)

-- a front of a list, and then more of it
pub with_back_further : (o : Option (List ℕ)) (xs : List ℕ) (m n : ℕ) → with_back (with_back o (take m xs)) (take n (drop m xs)) ≡ with_back o
    (take (m + n) xs)
with_back_further o xs m n = with_back-with_back o (take m xs) (take n (drop m xs)) ∙ ap (λ ys. with_back o ys) (sym (take-add m n xs))

-- what is left, as a front that was copied and the rest
pub drop_copied : (xs ys front : List ℕ) (m n : ℕ) → ys ≡ xs → front ≡ take n (take (length ys - m) (drop m ys)) → drop m xs ≡ front ++ drop (m + n)
    xs
drop_copied xs ys front m n same copied =
    let e : front ≡ take n (drop m xs) = copied ∙ rw (same, take_rest xs m) refl in
    rw (e, ← drop-drop n m xs) (sym (take-append-drop n (drop m xs)))
