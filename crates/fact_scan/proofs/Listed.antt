-- Places in lists, and the rows of all chains.
use Rattle.std.proofs.Common.{◌≡◌, ⊎_elim, ℕ, zero, suc, ◌+◌, ◌<◌, List, [], ◌∷◌, ◌++◌, length, get_or, refl, sym, ◌∙◌, ap, arith}
use Rattle.std.specs.Prelude.{slice_get, Some, Contains}
use Rattle.std.proofs.lemmas.Option.{slice_get_within}
use Rattle.std.proofs.lemmas.List.Elements.{Contains-append_cases}
use Rattle.dn_model.specs.Table.{Row, rows_from}

pub get_at : {X : Type 0} (xs : List X) (k : ℕ) (d : X) → k < length xs → slice_get xs k ≡ Some (get_or xs k d)
get_at [] k d lt = absurd (omega arith)
get_at (x ∷ xs) zero d lt = refl
get_at (x ∷ xs) (suc k) d lt = get_at xs k d (omega arith)

pub get_or_got : {X : Type 0} (xs : List X) (k : ℕ) (x d : X) → slice_get xs k ≡ Some x → get_or xs k d ≡ x
get_or_got [] k x d e = cc
get_or_got (y ∷ xs) zero x d e = cc
get_or_got (y ∷ xs) (suc k) x d e = get_or_got xs k x d e

-- an element has a place, and what stands at a place is an element
pub place_of : {X : Type 0} (xs : List X) (x : X) → Contains xs x → (k : ℕ) × (slice_get xs k ≡ Some x)
place_of xs x there = (there.0, get_at xs there.0 x there.1 ∙ ap Some there.2)

pub listed : {X : Type 0} (xs : List X) (k : ℕ) (x : X) → slice_get xs k ≡ Some x → Contains xs x
listed xs k x e = (k, slice_get_within xs k x e, get_or_got xs k x x e)

pub get-append_left : {X : Type 0} (xs ys : List X) (k : ℕ) (x : X) → slice_get xs k ≡ Some x → slice_get (xs ++ ys) k ≡ Some x
get-append_left [] ys k x e = cc
get-append_left (y ∷ xs) ys zero x e = e
get-append_left (y ∷ xs) ys (suc k) x e = get-append_left xs ys k x e

pub get-append_right : {X : Type 0} (xs ys : List X) (k : ℕ) → slice_get (xs ++ ys) (length xs + k) ≡ slice_get ys k
get-append_right [] ys k = ap (slice_get ys) (omega arith)
get-append_right (x ∷ xs) ys k = let place : length (x ∷ xs) + k ≡ suc (length xs + k) = omega arith in ap (slice_get (x ∷ (xs ++ ys)))
    place ∙ get-append_right xs ys k

-- the number of rows in the q chains from s on
abbrev pub rows_before : (ℕ → List Row) → ℕ → ℕ → ℕ
rows_before chain s zero = 0
rows_before chain s (suc q) = length (chain s) + rows_before chain (s + 1) q

-- a row of a chain is one of all
pub row_in_all : (chain : ℕ → List Row) (s n q k : ℕ) (row : Row) → q < n → slice_get (chain (s + q)) k ≡ Some row → slice_get (rows_from chain s n)
    (rows_before chain s q + k) ≡ Some row
row_in_all chain s zero q k row lt e = absurd (omega arith)
row_in_all chain s (suc n) zero k row lt e =
    let here : s + 0 ≡ s = omega arith in
    let place : k ≡ 0 + k = omega arith in
    ap (slice_get (rows_from chain s (suc n))) (sym place)
    ∙ get-append_left (chain s) (rows_from chain (s + 1) n) k row (ap (λ (p : ℕ). slice_get (chain p) k) (sym here) ∙ e)
row_in_all chain s (suc n) (suc q) k row lt e =
    let here : s + 1 + q ≡ s + suc q = omega arith in
    let place : length (chain s) + rows_before chain (s + 1) q + k ≡ length (chain s) + (rows_before chain (s + 1) q + k) = omega arith in
    ap (slice_get (rows_from chain s (suc n))) place
    ∙ get-append_right (chain s) (rows_from chain (s + 1) n) (rows_before chain (s + 1) q + k)
    ∙ row_in_all chain (s + 1) n q k row (omega arith) (ap (λ (p : ℕ). slice_get (chain p) k) here ∙ e)

-- and a row of all is one of a chain
pub record IsInChain (chain : ℕ → List Row) (high : ℕ) (row : Row) : Type 0 where
  pub prefix : ℕ
  pub place : ℕ
  pub lt : prefix < high
  pub got : slice_get (chain prefix) place ≡ Some row

pub chain_of : (chain : ℕ → List Row) (s n : ℕ) (row : Row) → Contains (rows_from chain s n) row → IsInChain chain (s + n) row
chain_of chain s zero row there = absurd (omega (arith, there.1))
chain_of chain s (suc n) row there = ⊎_elim
    (λ (here : Contains (chain s) row). let at = place_of (chain s) row here in record { prefix = s; place = at.0; lt = omega arith; got = at.1 })
    (λ (later : Contains (rows_from chain (s + 1) n) row).
    let found = chain_of chain (s + 1) n row later in record {
      prefix = found.prefix;
      place = found.place;
      lt = omega (arith, found.lt);
      got = found.got;
    })
    (Contains-append_cases (chain s) (rows_from chain (s + 1) n) row there)
