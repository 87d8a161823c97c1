-- What is among the elements of a list, by recursion on the list.
use Rattle.std.proofs.Common.{◌≡◌, ◌⊎◌, inl, inr, ⊎_elim, ℕ, zero, suc, ◌+◌, ◌<◌, ◌≤◌, Bool, true, false, cond, List, [], ◌∷◌, ◌++◌, map, refl, sym, ◌∙◌, ap, arith}
use Rattle.std.specs.Prelude.{All, filter}
use Rattle.std.specs.List.{range_with_len, flat_map}
use Rattle.std.proofs.lemmas.List.Elements.{All-nil, All-cons, All-head, All-tail}

abbrev pub Among : {X : Type 0} → X → List X → Type 0
Among x [] = ⊥
Among x (y ∷ ys) = (y ≡ x) ⊎ Among x ys

pub among_left : {X : Type 0} (x : X) (xs ys : List X) → Among x xs → Among x (xs ++ ys)
among_left x [] ys in' = absurd in'
among_left x (z ∷ xs) ys (inl e) = inl e
among_left x (z ∷ xs) ys (inr in') = inr (among_left x xs ys in')

pub among_right : {X : Type 0} (x : X) (xs ys : List X) → Among x ys → Among x (xs ++ ys)
among_right x [] ys in' = in'
among_right x (z ∷ xs) ys in' = inr (among_right x xs ys in')

pub among_either : {X : Type 0} (x : X) (xs ys : List X) → Among x (xs ++ ys) → Among x xs ⊎ Among x ys
among_either x [] ys in' = inr in'
among_either x (z ∷ xs) ys (inl e) = inl (inl e)
among_either x (z ∷ xs) ys (inr in') = ⊎_elim (λ l. inl (inr l)) (λ r. inr r) (among_either x xs ys in')

pub among_map : {X Y : Type 0} (f : X → Y) (x : X) (xs : List X) → Among x xs → Among (f x) (map f xs)
among_map f x [] in' = absurd in'
among_map f x (z ∷ xs) (inl e) = inl (ap f e)
among_map f x (z ∷ xs) (inr in') = inr (among_map f x xs in')

pub of_map : {X Y : Type 0} (f : X → Y) (y : Y) (xs : List X) → Among y (map f xs) → (x : X) × Among x xs × (f x ≡ y)
of_map f y [] in' = absurd in'
of_map f y (z ∷ xs) (inl e) = (z, inl refl, e)
of_map f y (z ∷ xs) (inr in') = let rest = of_map f y xs in' in (rest.0, inr rest.1, rest.2)

pub among_flat_map : {X Y : Type 0} (f : X → List Y) (x : X) (y : Y) (xs : List X) → Among x xs → Among y (f x) → Among y (flat_map f xs)
among_flat_map f x y [] in' there = absurd in'
among_flat_map {X} {Y} f x y (z ∷ xs) (inl e) there =
    let here : Among y (f z) = let P : X → Type 0 = λ w. Among y (f w) in back P e there in
    among_left y (f z) (flat_map f xs) here
  where
    back : (P : X → Type 0) {v w : X} → v ≡ w → P w → P v
    back P e p = rw e p
among_flat_map f x y (z ∷ xs) (inr in') there = among_right y (f z) (flat_map f xs) (among_flat_map f x y xs in' there)

pub of_flat_map : {X Y : Type 0} (f : X → List Y) (y : Y) (xs : List X) → Among y (flat_map f xs) → (x : X) × Among x xs × Among y (f x)
of_flat_map f y [] in' = absurd in'
of_flat_map {X} {Y} f y (z ∷ xs) in' = by_part (λ later. of_flat_map f y xs later) (among_either y (f z) (flat_map f xs) in')
  where
    by_part : (Among y (flat_map f xs) → (x : X) × Among x xs × Among y (f x)) → Among y (f z) ⊎ Among y (flat_map f xs)
        → (x : X) × Among x (z ∷ xs) × Among y (f x)
    by_part rest (inl here) = (z, inl refl, here)
    by_part rest (inr later) = let found = rest later in (found.0, inr found.1, found.2)

pub among_filter : {X : Type 0} (p : X → Bool) (x : X) (xs : List X) → Among x xs → p x ≡ true → Among x (filter p xs)
among_filter p x [] in' t = absurd in'
among_filter {X} p x (z ∷ xs) in' t = by_test (λ later. among_filter p x xs later t) (p z) refl in'
  where
    by_test : (Among x xs → Among x (filter p xs)) → (b : Bool) → p z ≡ b → (z ≡ x) ⊎ Among x xs
        → Among x (cond b (z ∷ filter p xs) (filter p xs))
    by_test rest true at (inl e) = inl e
    by_test rest true at (inr later) = inr (rest later)
    by_test rest false at (inl e) = let clash : true ≡ false = sym t ∙ ap p (sym e) ∙ at in cc
    by_test rest false at (inr later) = rest later

pub of_filter : {X : Type 0} (p : X → Bool) (x : X) (xs : List X) → Among x (filter p xs) → Among x xs × (p x ≡ true)
of_filter p x [] in' = absurd in'
of_filter {X} p x (z ∷ xs) in' = by_test (λ later. of_filter p x xs later) (p z) refl in'
  where
    by_test : (Among x (filter p xs) → Among x xs × (p x ≡ true)) → (b : Bool) → p z ≡ b
        → Among x (cond b (z ∷ filter p xs) (filter p xs)) → Among x (z ∷ xs) × (p x ≡ true)
    by_test rest true at (inl e) = (inl e, ap p (sym e) ∙ at)
    by_test rest true at (inr later) = let found = rest later in (inr found.0, found.1)
    by_test rest false at later = let found = rest later in (inr found.0, found.1)

pub among_range : (first n k : ℕ) → first ≤ k → k < first + n → Among k (range_with_len first n)
among_range first zero k low high = absurd (omega arith)
among_range first (suc n) k low high = by_place (λ later. among_range (first + 1) n k later (omega arith)) (first_or_later first k low)
  where
    first_or_later : (a b : ℕ) → a ≤ b → (a ≡ b) ⊎ (a + 1 ≤ b)
    first_or_later a b le = grind arith

    by_place : (first + 1 ≤ k → Among k (range_with_len (first + 1) n)) → (first ≡ k) ⊎ (first + 1 ≤ k)
        → Among k (first ∷ range_with_len (first + 1) n)
    by_place rest (inl e) = inl e
    by_place rest (inr later) = inr (rest later)

pub of_range : (first n k : ℕ) → Among k (range_with_len first n) → (first ≤ k) × (k < first + n)
of_range first zero k in' = absurd in'
of_range first (suc n) k (inl e) = (omega arith, omega arith)
of_range first (suc n) k (inr in') = let rest = of_range (first + 1) n k in' in (omega (arith, rest.0), omega (arith, rest.1))

-- what holds of all that is among a list holds of each element
pub All-from_among : {X : Type 0} (P : X → Type 0) (xs : List X) → ((x : X) → Among x xs → P x) → All P xs
All-from_among P [] each = All-nil P
All-from_among P (x ∷ xs) each = All-cons P x xs (each x (inl refl)) (All-from_among P xs (λ y in'. each y (inr in')))

pub All-among : {X : Type 0} (P : X → Type 0) (x : X) (xs : List X) → All P xs → Among x xs → P x
All-among P x [] all in' = absurd in'
All-among {X} P x (z ∷ xs) all (inl e) = let Q : X → Type 0 = P in forth Q e (All-head P z xs all)
  where
    forth : (Q : X → Type 0) {v w : X} → v ≡ w → Q v → Q w
    forth Q e q = rw (← e) q
All-among P x (z ∷ xs) all (inr in') = All-among P x xs (All-tail P z xs all) in'
