-- Two sorted lists of the same elements are one list.
use Rattle.std.proofs.Common.{◌≡◌, ◌⊎◌, inl, inr, ⊎_elim, ℕ, zero, suc, ◌<◌, List, [], ◌∷◌, length, get_or, refl, sym, ◌∙◌, ap, subst, arith}
use Rattle.std.specs.Prelude.{AllPairs, Contains}
use Rattle.std.specs.Ordering.{nat_cmp, ordering_reverse}
use Rattle.std.specs.Cmp.Lexicographic.{slice_cmp}
use Rattle.std.specs.declared.cmp.Ordering.TheVariants.{Less, Greater}
use Rattle.std.proofs.lemmas.Cmp.{nat_list_cmp_total}
use Rattle.dn_model.specs.Files.{Files}
use Rattle.dn_model.specs.Apply.{IsListing}

module _ {X : Type 0} where
  pub here : (x : X) (xs : List X) → Contains (x ∷ xs) x
  here x xs = (0, omega arith, refl)

  pub later : (x z : X) (xs : List X) → Contains xs z → Contains (x ∷ xs) z
  later x z xs found = (suc found.0, omega (arith, found.1), found.2)

  pub none_listed : (z : X) → Contains [] z → ⊥
  none_listed z found = omega (arith, found.1)

  pub cons_cases : (x z : X) (xs : List X) → Contains (x ∷ xs) z → (x ≡ z) ⊎ Contains xs z
  cons_cases x z xs found = by_place found.0 found.1 found.2
    where
      by_place : (k : ℕ) → k < length (x ∷ xs) → get_or (x ∷ xs) k z ≡ z → (x ≡ z) ⊎ Contains xs z
      by_place zero lt e = inl e
      by_place (suc k) lt e = inr (k, omega (arith, lt), e)

module _ {X : Type 0} (R : X → X → Type 0) where
  pub pairs_tail : (x : X) (xs : List X) → AllPairs R (x ∷ xs) → AllPairs R xs
  pairs_tail x xs pairs = λ i j d lt jl. pairs (suc i) (suc j) d (omega arith) (omega arith)

  pub pairs_head : (x z : X) (xs : List X) → AllPairs R (x ∷ xs) → Contains xs z → R x z
  pairs_head x z xs pairs found = subst (R x) found.2 (pairs 0 (suc found.0) z (omega arith) (omega (arith, found.1)))

  -- sorted by a test that never holds both ways
  module _ (one_way : (x y : X) → R x y → R y x → ⊥) where
    same_head : (x y : X) (xs ys : List X) → AllPairs R (x ∷ xs) → AllPairs R (y ∷ ys) → Contains (y ∷ ys) x → Contains (x ∷ xs) y → x ≡ y
    same_head x y xs ys px py has_x has_y = ⊎_elim
        (λ (e : y ≡ x). sym e)
        (λ (x_later : Contains ys x). ⊎_elim
        (λ (e : x ≡ y). e)
        (λ (y_later : Contains xs y). absurd (one_way x y (pairs_head x y xs px y_later) (pairs_head y x ys py x_later)))
        (cons_cases x y xs has_y))
        (cons_cases y x ys has_x)

    same_tail : (x y z : X) (xs ys : List X) → x ≡ y → AllPairs R (x ∷ xs) → Contains (y ∷ ys) z → Contains xs z → Contains ys z
    same_tail x y z xs ys e px has found = ⊎_elim
        (λ (first : y ≡ z).
        let less : R x z = pairs_head x z xs px found in let all : x ≡ z = e ∙ first in
        absurd (one_way x z less (subst (λ (w : X). R w x) all (subst (R x) (sym all) less))))
        (λ (rest : Contains ys z). rest)
        (cons_cases y z ys has)

    pub same_sorted : (xs ys : List X) → AllPairs R xs → AllPairs R ys → ((z : X) → Contains xs z → Contains ys z)
        → ((z : X) → Contains ys z → Contains xs z) → xs ≡ ys
    same_sorted [] [] px py to from = refl
    same_sorted [] (y ∷ ys) px py to from = absurd (none_listed y (from y (here y ys)))
    same_sorted (x ∷ xs) [] px py to from = absurd (none_listed x (to x (here x xs)))
    same_sorted (x ∷ xs) (y ∷ ys) px py to from =
        let e : x ≡ y = same_head x y xs ys px py (to x (here x xs)) (from y (here y ys)) in
        let rest : xs ≡ ys = same_sorted xs ys (pairs_tail x xs px) (pairs_tail y ys py)
        (λ z found. same_tail x y z xs ys e px (to z (later x z xs found)) found)
        (λ z found. same_tail y x z ys xs (sym e) py (from z (later y z ys found)) found) in
        (λ i. e i ∷ rest i)

less_one_way : (x y : List ℕ) → slice_cmp nat_cmp x y ≡ Less → slice_cmp nat_cmp y x ≡ Less → ⊥
less_one_way x y xy yx =
    let back : Less ≡ Greater = sym xy ∙ nat_list_cmp_total.antisymm x y ∙ ap ordering_reverse yx in cc

-- the same files have one listing
pub listing_one : (f : Files) (xs ys : List (List ℕ)) → IsListing f xs → IsListing f ys → xs ≡ ys
listing_one f xs ys lx ly = same_sorted (λ x y. slice_cmp nat_cmp x y ≡ Less) less_one_way xs ys lx.sorted ly.sorted
    (λ z found. (ly.files z).1 ((lx.files z).0 found))
    (λ z found. (lx.files z).1 ((ly.files z).0 found))
