-- Lists by their places, and lists in pairs.
use Rattle.std.proofs.Common.{◌≡◌, ℕ, zero, suc, ◌+◌, ◌<◌, ◌≤◌, List, [], ◌∷◌, ◌++◌, length, get_or, drop, refl, sym, ◌∙◌, ap, subst, arith, length-append}
use Rattle.std.proofs.lemmas.List.{drop_more}
use Rattle.thread_runs.specs.Reading.{Pairs}
use Rattle.thread_runs.specs.Parts.{Each}

-- the place behind a front
pub get_front : {A : Type 0} (xs : List A) (y : A) (i : ℕ) (d : A) → i < length xs → get_or (xs ++ y ∷ []) i d ≡ get_or xs i d
get_front [] y i d lt = absurd (omega (arith, lt))
get_front (x ∷ xs) y zero d lt = refl
get_front (x ∷ xs) y (suc i) d lt = get_front xs y i d (omega (arith, lt))

pub get_end : {A : Type 0} (xs : List A) (y : A) (i : ℕ) (d : A) → i ≡ length xs → get_or (xs ++ y ∷ []) i d ≡ y
get_end [] y zero d is = refl
get_end [] y (suc i) d is = absurd (omega (arith, is))
get_end (x ∷ xs) y zero d is = absurd (omega (arith, is))
get_end (x ∷ xs) y (suc i) d is = get_end xs y i d (omega (arith, is))

pub length_more : {A : Type 0} (xs : List A) (y : A) → length (xs ++ y ∷ []) ≡ length xs + 1
length_more xs y = length-append xs (y ∷ [])

module _ {A : Type 0} (P : ℕ → A → Type 0) where
  pub each_none : Each P []
  each_none i d lt = absurd (omega (arith, lt))

  pub each_front : (xs : List A) (y : A) → Each P (xs ++ y ∷ []) → Each P xs
  each_front xs y each i d lt =
      subst (P i) (get_front xs y i d lt) (each i d (let long = length_more xs y in omega (arith, lt, long)))

  pub each_end : (xs : List A) (y : A) → Each P (xs ++ y ∷ []) → P (length xs) y
  each_end xs y each =
      subst (P (length xs)) (get_end xs y (length xs) y refl) (each (length xs) y (let long = length_more xs y in omega (arith, long)))

pub each_more : {A : Type 0} (P : ℕ → A → Type 0) (xs : List A) (y : A) → Each P xs → P (length xs) y → Each P (xs ++ y ∷ [])
each_more P [] y each last zero d lt = last
each_more P [] y each last (suc i) d lt = absurd (omega (arith, lt))
each_more P (x ∷ xs) y each last zero d lt = each zero d (omega arith)
each_more P (x ∷ xs) y each last (suc i) d lt = each_more (λ k. P (suc k)) xs y (λ j e lt'. each (suc j) e (omega (arith, lt'))) last i d (omega (arith, lt))

-- the rest of a list from a place on
pub rest_here : {A : Type 0} (xs : List A) (i : ℕ) (x : A) → i < length xs → x ≡ get_or xs i x → drop i xs ≡ x ∷ drop (i + 1) xs
rest_here {A} xs i x lt is = drop_more xs i x lt ∙ ap (λ (y : A). y ∷ drop (i + 1) xs) (sym is)

pub rest_none : {A : Type 0} (xs : List A) (i : ℕ) → length xs ≤ i → drop i xs ≡ []
rest_none [] zero le = refl
rest_none [] (suc i) le = refl
rest_none (x ∷ xs) zero le = absurd (omega (arith, le))
rest_none (x ∷ xs) (suc i) le = rest_none xs i (omega (arith, le))

-- pairs behind pairs
pub pairs_append : {A B : Type 0} (P : A → B → Type 0) (xs xs' : List A) (ys ys' : List B) → Pairs P xs ys → Pairs P xs' ys'
    → Pairs P (xs ++ xs') (ys ++ ys')
pairs_append P [] xs' [] ys' one two = two
pairs_append P [] xs' (y ∷ ys) ys' one two = absurd one
pairs_append P (x ∷ xs) xs' [] ys' one two = absurd one
pairs_append P (x ∷ xs) xs' (y ∷ ys) ys' one two = (one.0, pairs_append P xs xs' ys ys' one.1 two)

-- what holds of the members of a list
abbrev pub Members : {A : Type 0} → (A → Type 0) → List A → Type 0
Members P [] = Unit {0}
Members P (x ∷ xs) = P x × Members P xs

pub pairs_as : {A B : Type 0} (M : A → Type 0) (P Q : A → B → Type 0) → ((x : A) (y : B) → M x → P x y → Q x y) → (xs : List A) (ys : List B)
    → Members M xs → Pairs P xs ys → Pairs Q xs ys
pairs_as M P Q f [] [] members pairs = tt
pairs_as M P Q f [] (y ∷ ys) members pairs = absurd pairs
pairs_as M P Q f (x ∷ xs) [] members pairs = absurd pairs
pairs_as M P Q f (x ∷ xs) (y ∷ ys) members pairs = (f x y members.0 pairs.0, pairs_as M P Q f xs ys members.1 pairs.1)
