-- Lists of pages that are found and copied one by one.
use Rattle.std.proofs.Common.{
  ◌≡◌,
  ℕ,
  zero,
  suc,
  ◌+◌,
  ◌<◌,
  ◌≤◌,
  Bool,
  true,
  false,
  List,
  [],
  ◌∷◌,
  ◌++◌,
  length,
  map,
  refl,
  sym,
  ◌∙◌,
  ap,
  arith,
  zero-add,
  append-nil,
  append_assoc,
}
use Rattle.std.specs.Prelude.{slice_get, Result, Ok, Err, IfOk, Option, Some, None, take, flat_map, filter_map, if◌then◌else◌, ◌==◌, ◌||◌}
use Rattle.std.specs.List.{list_any, range_with_len, cons_option}
use Rattle.std.proofs.lemmas.Grind.{flat_map-append, same_number_lists}
use Rattle.std.proofs.lemmas.List.FromFn.{get_or-map-range_with_len, length-map-range_with_len}
use Rattle.std.proofs.lemmas.List.{map-append}
use Rattle.std.proofs.lemmas.List.Elements.{filter_map-append}
use Rattle.page_bytes.specs.Bytes.{page_byte, IsPageOf}
use Rattle.dn_volume.specs.Batches.{CopiedPage}
use Rattle.dedupe_daemon.specs.Ahead.{with_page, and_once, copy_of}

-- one number more
range_more : (a n : ℕ) → range_with_len a (n + 1) ≡ range_with_len a n ++ (a + n) ∷ []
range_more a n = ap (range_with_len a) (let e : n + 1 ≡ suc n = omega arith in e) ∙ by_suc a n
  where
    by_suc : (a n : ℕ) → range_with_len a (suc n) ≡ range_with_len a n ++ (a + n) ∷ []
    by_suc a zero = ap (λ (x : ℕ). x ∷ []) (let e : a ≡ a + 0 = omega arith in e)
    by_suc a (suc n) = ap (λ (xs : List ℕ). a ∷ xs) (by_suc (a + 1) n
        ∙ ap (λ (x : ℕ). range_with_len (a + 1) n ++ x ∷ []) (let e : a + 1 + n ≡ a + suc n = omega arith in e))

abbrev found_to : (ℕ → Option ℕ) → ℕ → ℕ → List ℕ
found_to h a n = filter_map h (range_with_len a n)

found_more : (h : ℕ → Option ℕ) (a n : ℕ) → found_to h a (n + 1) ≡ found_to h a n ++ cons_option (h (a + n)) []
found_more h a n = ap (filter_map h) (range_more a n) ∙ filter_map-append h (range_with_len a n) ((a + n) ∷ [])

-- a place is looked at
pub found_one : (h : ℕ → Option ℕ) (a n : ℕ) (front before now : List ℕ) → before ≡ front ++ filter_map h (range_with_len a n)
    → now ≡ before ++ cons_option (h (a + n)) [] → now ≡ front ++ filter_map h (range_with_len a (n + 1))
found_one h a n front before now is pushed = pushed ∙ ap (λ (xs : List ℕ). xs ++ cons_option (h (a + n)) []) is
    ∙ append_assoc front (found_to h a n) (cons_option (h (a + n)) [])
    ∙ ap (λ (xs : List ℕ). front ++ xs) (sym (found_more h a n))

-- the first n + 1 of a list
take_one : {X : Type 0} (xs : List X) (n : ℕ) (x : X) → slice_get xs n ≡ Some x → take (n + 1) xs ≡ take n xs ++ x ∷ []
take_one {X = X} xs n x is = ap (λ (k : ℕ). take k xs) (let e : n + 1 ≡ suc n = omega arith in e) ∙ by_suc xs n is
  where
    by_suc : (xs : List X) (n : ℕ) → slice_get xs n ≡ Some x → take (suc n) xs ≡ take n xs ++ x ∷ []
    by_suc [] n is = cc
    by_suc (y ∷ xs) zero is = ap (λ (z : X). z ∷ []) (let e : y ≡ x = cc in e)
    by_suc (y ∷ xs) (suc n) is = ap (λ (zs : List X). y ∷ zs) (by_suc xs n is)

-- there are no more
take_past : {X : Type 0} (xs : List X) (n most : ℕ) → slice_get xs n ≡ None → n ≤ most → take n xs ≡ take most xs
take_past [] zero zero none le = refl
take_past [] zero (suc most) none le = refl
take_past [] (suc n) zero none le = refl
take_past [] (suc n) (suc most) none le = refl
take_past (x ∷ xs) zero most none le = cc
take_past (x ∷ xs) (suc n) zero none le = absurd (omega (arith, le))
take_past (x ∷ xs) (suc n) (suc most) none le = ap (λ ys. x ∷ ys) (take_past xs n most none (omega (arith, le)))

pub work_past : {X : Type 0} (f : X → List ℕ) (xs : List X) (n most : ℕ) (front now : List ℕ) → now ≡ front ++ flat_map f (take n xs)
    → slice_get xs n ≡ None → n ≤ most → now ≡ front ++ flat_map f (take most xs)
work_past f xs n most front now is none le = is ∙ ap (λ ys. front ++ flat_map f ys) (take_past xs n most none le)

-- an item that waits is looked at
pub work_one : {X : Type 0} (f : X → List ℕ) (xs : List X) (n : ℕ) (x : X) (front before now : List ℕ) → before ≡ front ++ flat_map f (take n xs)
    → slice_get xs n ≡ Some x → now ≡ before ++ f x → now ≡ front ++ flat_map f (take (n + 1) xs)
work_one f xs n x front before now is at pushed = pushed ∙ ap (λ (ys : List ℕ). ys ++ f x) is ∙ append_assoc front (flat_map f (take n xs)) (f x)
    ∙ ap (λ (ys : List ℕ). front ++ ys) (sym (ap (flat_map f) (take_one xs n x at) ∙ flat_map-append f (take n xs) (x ∷ [])
    ∙ ap (λ (ys : List ℕ). flat_map f (take n xs) ++ ys) (append-nil (f x))))

-- a page is copied, unless it was
pub once_one : (pages done : List ℕ) (n page : ℕ) (front : List ℕ) → done ≡ and_once front (take n pages) → slice_get pages n ≡ Some page
    → with_page done page ≡ and_once front (take (n + 1) pages)
once_one pages done n page front is at = ap (λ (ps : List ℕ). with_page ps page) is
    ∙ sym (ap (and_once front) (take_one pages n page at) ∙ once_append front (take n pages))
  where
    once_append : (front ps : List ℕ) → and_once front (ps ++ page ∷ []) ≡ with_page (and_once front ps) page
    once_append front [] = refl
    once_append front (p ∷ ps) = once_append (with_page front p) ps

-- the copies of these pages, and one more unless its page is one of them
module _ (words : List ℕ) (page : ℕ) (before : List CopiedPage) (pages : List ℕ) (is : before ≡ map (copy_of words) pages) where
  among : list_any (λ (copy : CopiedPage). copy.page == page) before ≡ list_any (λ (p : ℕ). p == page) pages
  among = ap (list_any (λ (copy : CopiedPage). copy.page == page)) is ∙ any_map pages
    where
      any_map : (ps : List ℕ) → list_any (λ (copy : CopiedPage). copy.page == page) (map (copy_of words) ps) ≡ list_any (λ (p : ℕ). p == page) ps
      any_map [] = refl
      any_map (p ∷ ps) = ap (λ (t : Bool). (p == page) || t) (any_map ps)

  pub copied_before : (has : Bool) → has ≡ list_any (λ (copy : CopiedPage). copy.page == page) before → has ≡ true
      → before ≡ map (copy_of words) (with_page pages page)
  copied_before has test some = is ∙ ap (λ (t : Bool). map (copy_of words) (if t then pages else pages ++ page ∷ [])) (sym some ∙ test ∙ among)

  pub copied_now : (has : Bool) → has ≡ list_any (λ (copy : CopiedPage). copy.page == page) before → has ≡ false
      → (copy : CopiedPage) → copy ≡ copy_of words page → (after : List CopiedPage) → after ≡ before ++ copy ∷ []
      → after ≡ map (copy_of words) (with_page pages page)
  copied_now has test other copy made after pushed = pushed ∙ ap (λ (c : CopiedPage). before ++ c ∷ []) made
      ∙ ap (λ (cs : List CopiedPage). cs ++ copy_of words page ∷ []) is ∙ sym (map-append (copy_of words) pages (page ∷ []))
      ∙ ap (λ (t : Bool). map (copy_of words) (if t then pages else pages ++ page ∷ [])) (sym other ∙ test ∙ among)

-- the bytes of a page
pub page_image : (words : List ℕ) (page : ℕ) (bytes : List ℕ) → IsPageOf words page bytes → bytes ≡ map (page_byte words page) (range_with_len 0 4096)
page_image words page bytes is = same_number_lists bytes (map (page_byte words page) (range_with_len 0 4096))
    (is.whole ∙ sym (length-map-range_with_len (page_byte words page) 0 4096))
    (λ k lt. let small : k < 4096 = omega (arith, lt, is.whole) in
    is.each k small ∙ sym (get_or-map-range_with_len (page_byte words page) 0 4096 k k 0 small (zero-add k)))

abbrev copied : ℕ → List ℕ → CopiedPage
copied page bytes = record { page = page; bytes = bytes; print = None }

pub copy_is : (words : List ℕ) (page : ℕ) (bytes : List ℕ) (copy : CopiedPage) → IsPageOf words page bytes
    → copy ≡ record { page = page; bytes = bytes; print = None } → copy ≡ copy_of words page
copy_is words page bytes copy is made = made ∙ ap (copied page) (page_image words page bytes is)

-- what follows where there was memory
pub ok_then : {A E : Type 0} (r : Result A E) (P Q : A → Type 0) → ((a : A) → P a → Q a) → IfOk r P → IfOk r Q
ok_then (Ok a) P Q then_so is = then_so a is
ok_then (Err e) P Q then_so is = is
