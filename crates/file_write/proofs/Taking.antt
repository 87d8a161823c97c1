-- Pages are taken from a set of free pages, and given back.
use Rattle.std.proofs.Common.{◌≡◌, ◌⊎◌, inl, inr, ⊎_elim, ℕ, ◌+◌, ◌-◌, ◌<◌, Bool, true, false, List, [], ◌∷◌, ◌++◌, length, refl, sym, ◌∙◌, ap, subst, arith, length-append}
use Rattle.std.specs.Prelude.{Contains, slice_index, nat_lt, if◌then◌else◌}
use Rattle.std.specs.List.Sorted.{IsStrictlyIncreasing}
use Rattle.std.proofs.lemmas.Bool.{cases_lt}
use Rattle.std.proofs.lemmas.List.{get_or_append_left, get_or-append_right, get_or_default, append_assoc}
use Rattle.std.proofs.lemmas.Bool.Decides.{nat_tests}
use Rattle.std.proofs.lemmas.List.Elements.{All-contains, Contains-append_cases, Contains-append_left, Contains-append_right}
use Rattle.std.proofs.lemmas.List.Kept.{AllPairs-from_increasing}
use Rattle.page_alloc.specs.Free.{FreePages, IsInOrder, with_page, Takes, GivesBack}
use Rattle.page_alloc.proofs.FreeLaws.{Contains-here, Contains-cons_cases, IsStrictlyIncreasing-cons, IsStrictlyIncreasing-tail, below_rest}
use Rattle.file_write.specs.Take.{TakesFirst}

pub none_in : (q : ℕ) → Contains [] q → ⊥
none_in q c = omega (arith, c.1)

pub only_one : (page q : ℕ) → Contains (page ∷ []) q → page ≡ q
only_one page q c = ⊎_elim (λ (e : page ≡ q). e) (λ (rest : Contains [] q). absurd (none_in q rest)) (Contains-cons_cases page [] q c)

-- at different places of a rising list are different numbers
pub rising-apart : (xs : List ℕ) → IsStrictlyIncreasing xs → (i j : ℕ) → i < length xs → j < length xs → slice_index xs i ≡ slice_index xs j → i ≡ j
rising-apart xs rising i j il jl e = elim (cases_lt i j) [
  | inl lt ↦ let less = AllPairs-from_increasing xs rising i j 0 lt jl in absurd (omega (arith, less, e))
  | inr ge ↦ elim (cases_lt j i) [
    | inl lt ↦ let less = AllPairs-from_increasing xs rising j i 0 lt il in absurd (omega (arith, less, e))
    | inr le ↦ omega (arith, ge, le)
  ]
]

-- the place of a member
pub member : (xs : List ℕ) (p : ℕ) → Contains xs p → (k : ℕ) × (k < length xs) × (slice_index xs k ≡ p)
member xs p c = (c.0, c.1, get_or_default xs c.0 0 p c.1 ∙ c.2)

-- the two parts of a rising list
module _ (xs ys : List ℕ) (rising : IsStrictlyIncreasing (xs ++ ys)) where
  long : length (xs ++ ys) ≡ length xs + length ys
  long = length-append xs ys

  left : (i : ℕ) → i < length xs → slice_index (xs ++ ys) i ≡ slice_index xs i
  left i lt = get_or_append_left xs ys 0 i lt

  right : (j : ℕ) → slice_index (xs ++ ys) (length xs + j) ≡ slice_index ys j
  right j = get_or-append_right xs ys (length xs) (length xs + j) 0 refl (omega arith) ∙ ap (slice_index ys)
      (let z : length xs + j - length xs ≡ j = omega arith in z)

  pub left-apart : (i j : ℕ) → i < length xs → j < length xs → slice_index xs i ≡ slice_index xs j → i ≡ j
  left-apart i j il jl e = rising-apart (xs ++ ys) rising i j (omega (arith, il, long)) (omega (arith, jl, long)) (left i il ∙ e ∙ sym (left j jl))

  pub right-apart : (i j : ℕ) → i < length ys → j < length ys → slice_index ys i ≡ slice_index ys j → i ≡ j
  right-apart i j il jl e =
      let same = rising-apart (xs ++ ys) rising (length xs + i) (length xs + j) (omega (arith, il, long)) (omega (arith, jl, long))
      (right i ∙ e ∙ sym (right j)) in
      omega (arith, same)

  pub parts-apart : (p : ℕ) → Contains xs p → Contains ys p → ⊥
  parts-apart p a b =
      let i = member xs p a in
      let j = member ys p b in
      let same = rising-apart (xs ++ ys) rising i.0 (length xs + j.0) (omega (arith, i.1, long)) (omega (arith, j.1, long))
      (left i.0 i.1 ∙ i.2 ∙ sym (right j.0 ∙ j.2)) in
      omega (arith, same, i.1)

-- parts of a rising list
pub rising-behind : (xs ys : List ℕ) → IsStrictlyIncreasing (xs ++ ys) → IsStrictlyIncreasing ys
rising-behind [] ys rising = rising
rising-behind (x ∷ xs) ys rising = rising-behind xs ys (IsStrictlyIncreasing-tail x (xs ++ ys) rising)

pub rising-before : (xs ys : List ℕ) → IsStrictlyIncreasing (xs ++ ys) → IsStrictlyIncreasing xs
rising-before [] ys rising = λ i lt. absurd (omega (arith, lt))
rising-before (x ∷ xs) ys rising =
    IsStrictlyIncreasing-cons x xs (λ y there. below_rest x (xs ++ ys) y rising (Contains-append_left xs ys y there))
    (rising-before xs ys (IsStrictlyIncreasing-tail x (xs ++ ys) rising))

-- Pages were taken: fresh ones of a log, a spare one, and those of the bytes.
module _ (old new : FreePages) (fresh spare blocks : List ℕ) (in_order : IsInOrder old) (takes : TakesFirst old new (fresh ++ spare ++ blocks)) where
  abbrev taken : List ℕ
  taken = fresh ++ spare ++ blocks

  all_rising : IsStrictlyIncreasing (taken ++ new.free)
  all_rising = subst IsStrictlyIncreasing takes.split in_order.rising

  pub taken-rising : IsStrictlyIncreasing taken
  taken-rising = rising-before taken new.free all_rising

  log_rising : IsStrictlyIncreasing (fresh ++ spare)
  log_rising = rising-before (fresh ++ spare) blocks taken-rising

  in_old : (p : ℕ) → Contains (taken ++ new.free) p → Contains old.free p
  in_old p c = subst (λ xs. Contains xs p) (sym takes.split) c

  pub taken-free : (p : ℕ) → Contains taken p → Contains old.free p
  taken-free p c = in_old p (Contains-append_left taken new.free p c)

  pub left-free : (p : ℕ) → Contains new.free p → Contains old.free p
  left-free p c = in_old p (Contains-append_right taken new.free p c)

  pub taken-left : (p : ℕ) → Contains taken p → Contains new.free p → ⊥
  taken-left = parts-apart taken new.free all_rising

  pub taken-or_left : (p : ℕ) → Contains old.free p → Contains taken p ⊎ Contains new.free p
  taken-or_left p c = Contains-append_cases taken new.free p (subst (λ xs. Contains xs p) takes.split c)

  fresh-in : (p : ℕ) → Contains fresh p → Contains taken p
  fresh-in p c = Contains-append_left (fresh ++ spare) blocks p (Contains-append_left fresh spare p c)

  spare-in : (p : ℕ) → Contains spare p → Contains taken p
  spare-in p c = Contains-append_left (fresh ++ spare) blocks p (Contains-append_right fresh spare p c)

  blocks-in : (p : ℕ) → Contains blocks p → Contains taken p
  blocks-in p c = Contains-append_right (fresh ++ spare) blocks p c

  log-blocks : (p : ℕ) → Contains (fresh ++ spare) p → Contains blocks p → ⊥
  log-blocks = parts-apart (fresh ++ spare) blocks taken-rising

pub took-none : (set : FreePages) → TakesFirst set set []
took-none set = record { same = refl; split = refl }

pub took-one : (old mid new : FreePages) (pages : List ℕ) (page : ℕ) → TakesFirst old mid pages → Takes page mid new
    → TakesFirst old new (pages ++ page ∷ [])
took-one old mid new pages page so_far takes = record {
  same = takes.pages ∙ so_far.same;
  split = so_far.split ∙ ap (λ xs. pages ++ xs) takes.rest ∙ sym (append_assoc pages (page ∷ []) new.free);
}

pub took-length : (old new : FreePages) (pages : List ℕ) → TakesFirst old new pages → length old.free ≡ length pages + length new.free
took-length old new pages so_far = ap length so_far.split ∙ length-append pages new.free

-- a page below all of a list comes first
with_page-least : (page : ℕ) (xs : List ℕ) → IsStrictlyIncreasing (page ∷ xs) → with_page page xs ≡ page ∷ xs
with_page-least page [] rising = refl
with_page-least page (q ∷ qs) rising =
    let lt = below_rest page (q ∷ qs) q rising (Contains-here q qs) in
    let less : nat_lt page q ≡ true = grind (arith, nat_tests) in
    ap (λ (b : Bool). if b then page ∷ (q ∷ qs) else (q ∷ with_page page qs)) less

-- the last of the pages that were taken is put back
module _ (set now : FreePages) (left rest : List ℕ) (page : ℕ) (in_order : IsInOrder set) (takes : TakesFirst set now left)
    (is : left ≡ rest ++ page ∷ []) where
  split : set.free ≡ rest ++ (page ∷ now.free)
  split = takes.split ∙ ap (λ xs. xs ++ now.free) is ∙ append_assoc rest (page ∷ []) now.free

  last_rising : IsStrictlyIncreasing (page ∷ now.free)
  last_rising = rising-behind rest (page ∷ now.free) (subst IsStrictlyIncreasing split in_order.rising)

  pub last-below : page < now.pages
  last-below = subst (λ (n : ℕ). page < n) (sym takes.same)
      (All-contains (λ (p : ℕ). p < set.pages) set.free page in_order.below
      (subst (λ xs. Contains xs page) (sym split) (Contains-append_right rest (page ∷ now.free) page (Contains-here page now.free))))

  pub last-taken : Contains now.free page → ⊥
  last-taken there = let lt = below_rest page now.free page last_rising there in omega (arith, lt)

  pub untaken-one : (new : FreePages) → GivesBack page now new → TakesFirst set new rest
  untaken-one new gives = record {
    same = gives.pages ∙ takes.same;
    split = split ∙ ap (λ xs. rest ++ xs) (sym (gives.free ∙ with_page-least page now.free last_rising));
  }

-- all are put back
pub untaken-all : (set now : FreePages) (left : List ℕ) → TakesFirst set now left → left ≡ [] → now ≡ set
untaken-all set now left takes none = (λ i. record { pages = takes.same i; free = sym (takes.split ∙ ap (λ xs. xs ++ now.free) none) i })

pub none-left : (xs : List ℕ) → (0 < length xs → false ≡ true) → xs ≡ []
none-left [] none = refl
none-left (x ∷ xs) none = let never = none (omega arith) in absurd (cc)
