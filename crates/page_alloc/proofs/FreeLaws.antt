-- Laws of rising lists of pages: membership, and what one page more makes of them.
use Rattle.std.proofs.Common.{◌≡◌, ◌⊎◌, inl, inr, ⊎_elim, ℕ, zero, suc, ◌+◌, ◌<◌, ◌≤◌, List, [], ◌∷◌, length, get_or, refl, arith}
use Rattle.std.specs.Prelude.{Contains, ◌↔◌}
use Rattle.std.specs.List.Sorted.{IsStrictlyIncreasing}
use Rattle.std.proofs.lemmas.Bool.{cases_lt, cases_order, lt-ltb, le-ltb, ne_eqb}
use Rattle.std.specs.List.{IsDistinct}
use Rattle.std.specs.Prelude.{nat_eq}
use Rattle.std.proofs.lemmas.Map.Keys.{IsDistinct-from_apart, below_from_sorted, sorted_from_strictly_increasing}
use Rattle.std.proofs.lemmas.List.Elements.{All-contains}
use Rattle.page_alloc.specs.Free.{FreePages, IsInOrder, with_page}

-- membership
pub Contains-here : (x : ℕ) (xs : List ℕ) → Contains (x ∷ xs) x
Contains-here x xs = (0, omega arith, refl)

none_in : (q : ℕ) → Contains [] q → ⊥
none_in q (k, lt, e) = omega arith

pub Contains-there : (x : ℕ) (xs : List ℕ) (q : ℕ) → Contains xs q → Contains (x ∷ xs) q
Contains-there x xs q (k, lt, e) = (suc k, omega arith, e)

pub Contains-cons_cases : (x : ℕ) (xs : List ℕ) (q : ℕ) → Contains (x ∷ xs) q → (x ≡ q) ⊎ Contains xs q
Contains-cons_cases x xs q (zero, lt, e) = inl e
Contains-cons_cases x xs q (suc k, lt, e) = inr (k, omega arith, e)

-- a number before a rising list of greater ones
pub IsStrictlyIncreasing-cons : (x : ℕ) (xs : List ℕ) → ((y : ℕ) → Contains xs y → x < y) → IsStrictlyIncreasing xs → IsStrictlyIncreasing (x ∷ xs)
IsStrictlyIncreasing-cons x [] above rising = λ k lt. absurd (omega arith)
IsStrictlyIncreasing-cons x (y ∷ ys) above rising = cases
  where
    cases : (k : ℕ) → k + 1 < length (x ∷ (y ∷ ys)) → get_or (x ∷ (y ∷ ys)) k 0 < get_or (x ∷ (y ∷ ys)) (k + 1) 0
    cases zero lt = above y (Contains-here y ys)
    cases (suc k) lt = let z : suc k + 1 ≡ suc (k + 1) = omega arith in rw z (rising k (omega arith))

pub IsStrictlyIncreasing-tail : (x : ℕ) (xs : List ℕ) → IsStrictlyIncreasing (x ∷ xs) → IsStrictlyIncreasing xs
IsStrictlyIncreasing-tail x xs rising = λ k lt. let z : suc k + 1 ≡ suc (k + 1) = omega arith in rw z at (rising (suc k) (omega arith))

pub length-with_page : (page : ℕ) (xs : List ℕ) → length (with_page page xs) ≡ length xs + 1
length-with_page page [] = refl
length-with_page page (x ∷ xs) = elim (cases_lt page x) [
  | inl lt ↦ rw (lt-ltb page x lt) (omega arith)
  | inr le ↦ rw (le-ltb page x le) (omega (arith, length-with_page page xs))
]

-- the first of a rising list is below all others
pub below_rest : (x : ℕ) (xs : List ℕ) (q : ℕ) → IsStrictlyIncreasing (x ∷ xs) → Contains xs q → x < q
below_rest x [] q rising (k, lt, e) = absurd (omega arith)
below_rest x (y ∷ ys) q rising has =
    let step : x < y = rising 0 (omega arith) in
    elim (Contains-cons_cases y ys q has) [
      | inl e ↦ omega arith
      | inr rest ↦ let more = below_rest y ys q (IsStrictlyIncreasing-tail x (y ∷ ys) rising) rest in omega arith
    ]

-- a rising list holds each number once
pub same_rising : (xs ys : List ℕ) → IsStrictlyIncreasing xs → IsStrictlyIncreasing ys → ((q : ℕ) → Contains xs q ↔ Contains ys q) → xs ≡ ys
same_rising [] [] rx ry same = refl
same_rising [] (y ∷ ys) rx ry same = absurd (none_in y ((same y).1 (Contains-here y ys)))
same_rising (x ∷ xs) [] rx ry same = absurd (none_in x ((same x).0 (Contains-here x xs)))
same_rising (x ∷ xs) (y ∷ ys) rx ry same =
    let heads : x ≡ y = elim (cases_order x y) [
      | inl e ↦ e
      | inr (inl lt) ↦ absurd (elim (Contains-cons_cases y ys x ((same x).0 (Contains-here x xs))) [ inl e ↦ omega arith | inr rest ↦ let over = below_rest y ys x ry rest in omega arith ])
      | inr (inr lt) ↦ absurd (elim (Contains-cons_cases x xs y ((same y).1 (Contains-here y ys))) [ inl e ↦ omega arith | inr rest ↦ let over = below_rest x xs y rx rest in omega arith ])
    ] in
    let rest : xs ≡ ys = same_rising xs ys (IsStrictlyIncreasing-tail x xs rx) (IsStrictlyIncreasing-tail y ys ry) (λ q. (
      λ has. let over = below_rest x xs q rx has in elim (Contains-cons_cases y ys q ((same q).0 (Contains-there x xs q has))) [ inl e ↦ absurd (omega arith) | inr there ↦ there ],
      λ has. let over = below_rest y ys q ry has in elim (Contains-cons_cases x xs q ((same q).1 (Contains-there y ys q has))) [ inl e ↦ absurd (omega arith) | inr there ↦ there ],
    )) in
    cc

pub Contains-with_page : (page : ℕ) (xs : List ℕ) (q : ℕ) → (Contains (with_page page xs) q) ↔ ((page ≡ q) ⊎ Contains xs q)
Contains-with_page page [] q = (λ has. Contains-cons_cases page [] q has, ⊎_elim (λ e. (0, omega arith, e)) (λ none. absurd (none_in q none)))
Contains-with_page page (x ∷ xs) q = elim (cases_lt page x) [
  | inl lt ↦ rw (lt-ltb page x lt) (Contains-cons_cases page (x ∷ xs) q, ⊎_elim (λ e. (0, omega arith, e)) (λ has. Contains-there page (x ∷ xs) q has))
  | inr le ↦ rw (le-ltb page x le) (
    λ has. elim (Contains-cons_cases x (with_page page xs) q has) [
      | inl e ↦ inr (0, omega arith, e)
      | inr rest ↦ ⊎_elim (λ same. inl same) (λ old. inr (Contains-there x xs q old)) ((Contains-with_page page xs q).0 rest)
    ],
    ⊎_elim (λ same. Contains-there x (with_page page xs) q ((Contains-with_page page xs q).1 (inl same)))
        (λ has. elim (Contains-cons_cases x xs q has) [ inl e ↦ (0, omega arith, e) | inr rest ↦ Contains-there x (with_page page xs) q ((Contains-with_page page xs q).1 (inr rest)) ]),
  )
]

-- a rising list has no number twice
pub IsDistinct-rising : (xs : List ℕ) → IsStrictlyIncreasing xs → IsDistinct nat_eq xs
IsDistinct-rising xs rising = IsDistinct-from_apart nat_eq xs (λ i j d lt end. let below = below_from_sorted xs i j d (sorted_from_strictly_increasing xs rising) lt end in ne_eqb _ _ (λ e. omega arith))

-- there are no more free pages than pages
pub length-free_le : (s : FreePages) → IsInOrder s → length s.free ≤ s.pages
length-free_le s order = from_below s.free 0 s.pages order.rising (λ q has. let b = All-contains (λ page. page < s.pages) s.free q order.below has in (omega arith, omega arith))
  where
    from_below : (xs : List ℕ) (low n : ℕ) → IsStrictlyIncreasing xs → ((q : ℕ) → Contains xs q → (low ≤ q) × (q < low + n)) → length xs ≤ n
    from_below [] low n rising between = omega arith
    from_below (x ∷ xs) low zero rising between = let b = between x (Contains-here x xs) in omega arith
    from_below (x ∷ xs) low (suc n) rising between =
        let first = between x (Contains-here x xs) in
        let rest = from_below xs (low + 1) n (IsStrictlyIncreasing-tail x xs rising) (λ q has. let b = between q (Contains-there x xs q has) in let over = below_rest x xs q rising has in (omega arith, omega arith)) in
        omega arith
