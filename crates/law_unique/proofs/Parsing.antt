-- Slots of items, one after another, and what follows them.
use Rattle.std.proofs.Common.{◌≡◌, ℕ, zero, suc, ◌+◌, ◌<◌, ◌≤◌, List, [], ◌∷◌, ◌++◌, length, map, refl, sym, ◌∙◌, ap, arith, append_assoc}
use Rattle.std.specs.Prelude.{All, Contains}
use Rattle.std.specs.List.{range_with_len}
use Rattle.std.proofs.lemmas.List.Elements.{All-head, All-tail}
use Rattle.log_entry.specs.Spelling.{spelling, spelled, IsSpelled}
use Rattle.log_entry.specs.declared.item.LogItem.{LogItem}
use Rattle.log_entry.proofs.Unique.{spelling_one}
use Rattle.log_entry.proofs.Spelled.{length-spelled-cons}
use Rattle.law_unique.proofs.Listings.{here, later}

module _ {X : Type 0} where
  -- the shorter of two fronts of one list is a front of the longer
  pub front_of : (xs ys r s : List X) → xs ++ r ≡ ys ++ s → length ys ≤ length xs → (rest : List X) × (xs ≡ ys ++ rest)
  front_of xs [] r s e le = (xs, refl)
  front_of [] (y ∷ ys) r s e le = absurd (omega arith)
  front_of (x ∷ xs) (y ∷ ys) r s e le =
      let first : x ≡ y = cc in
      let after : xs ++ r ≡ ys ++ s = cc in
      let more = front_of xs ys r s after (omega arith) in
      (more.0, (λ i. first i ∷ more.1 i))

  -- behind fronts of one length the same follows
  pub same_rest : (xs ys r s : List X) → xs ++ r ≡ ys ++ s → length xs ≡ length ys → r ≡ s
  same_rest [] [] r s e same = e
  same_rest [] (y ∷ ys) r s e same = absurd (omega (arith, same))
  same_rest (x ∷ xs) [] r s e same = absurd (omega (arith, same))
  same_rest (x ∷ xs) (y ∷ ys) r s e same = let after : xs ++ r ≡ ys ++ s = cc in same_rest xs ys r s after (omega (arith, same))

  -- a list made from a function, cut in two
  pub map_split : (f : ℕ → X) (a n k : ℕ) → map f (range_with_len a (n + k)) ≡ map f (range_with_len a n) ++ map f (range_with_len (a + n) k)
  map_split f a zero k =
      let e : 0 + k ≡ k = omega arith in let z : a + 0 ≡ a = omega arith in
      ap (λ (j : ℕ). map f (range_with_len a j)) e ∙ ap (λ (j : ℕ). map f (range_with_len j k)) (sym z)
  map_split f a (suc n) k =
      let e : suc n + k ≡ suc (n + k) = omega arith in
      let z : a + 1 + n ≡ a + suc n = omega arith in
      ap (λ (j : ℕ). map f (range_with_len a j)) e ∙ ap (λ (xs : List X). f a ∷ xs) (map_split f (a + 1) n k)
      ∙ ap (λ (j : ℕ). f a ∷ (map f (range_with_len (a + 1) n) ++ map f (range_with_len j k))) z

  pub map_range-alike : (f h : ℕ → X) (a n : ℕ) → ((i : ℕ) → a ≤ i → i < a + n → f i ≡ h i) → map f (range_with_len a n) ≡ map h (range_with_len a n)
  map_range-alike f h a zero same = refl
  map_range-alike f h a (suc n) same =
      let one : f a ≡ h a = same a (omega arith) (omega arith) in
      let rest : map f (range_with_len (a + 1) n) ≡ map h (range_with_len (a + 1) n) = map_range-alike f h (a + 1) n
      (λ i le lt. same i (omega arith) (omega arith)) in
      (λ i. one i ∷ rest i)

-- one of these items begins the slots
pub record NextItem (items : List LogItem) (slots : List (List ℕ)) : Type 0 where
  pub item : LogItem
  pub listed : Contains items item
  pub spelled : IsSpelled item
  pub rest : List (List ℕ)
  pub is : slots ≡ spelling item ++ rest

more_next : (y : LogItem) (ys : List LogItem) (slots : List (List ℕ)) → NextItem ys slots → NextItem (y ∷ ys) slots
more_next y ys slots n = record { item = n.item; listed = later y n.item ys n.listed; spelled = n.spelled; rest = n.rest; is = n.is }

-- where fewer items come first in the same slots, the next of the others comes next
pub parse_next : (xs ys : List LogItem) (t u : List (List ℕ)) → All IsSpelled xs → All IsSpelled ys → spelled xs ++ t ≡ spelled ys ++ u
    → length (spelled xs) < length (spelled ys) → NextItem ys t
parse_next xs [] t u ax ay e lt = absurd (omega arith)
parse_next [] (y ∷ ys) t u ax ay e lt =
    record {
      item = y;
      listed = here y ys;
      spelled = All-head IsSpelled y ys ay;
      rest = spelled ys ++ u;
      is = e ∙ append_assoc (spelling y)
          (spelled ys) u;
    }
parse_next (x ∷ xs) (y ∷ ys) t u ax ay e lt =
    let one = spelling_one x y (spelled xs ++ t) (spelled ys ++ u) (All-head IsSpelled x xs ax) (All-head IsSpelled y ys ay)
    (sym (append_assoc (spelling x) (spelled xs) t) ∙ e ∙ append_assoc (spelling y) (spelled ys) u) in
    let same : length (spelling x) ≡ length (spelling y) = ap (λ (i : LogItem). length (spelling i)) one.item in
    more_next y ys t (parse_next xs ys t u (All-tail IsSpelled x xs ax) (All-tail IsSpelled y ys ay) one.rest
    (omega (arith, lt, same, length-spelled-cons x xs, length-spelled-cons y ys)))
