-- Items that are spelled, placed one after another, and looked through for those that are due.
use Rattle.std.proofs.Common.{◌≡◌, ℕ, suc, ◌+◌, ◌<◌, ◌≤◌, Bool, true, false, List, [], ◌∷◌, ◌++◌, length, map, get_or, drop, take, refl, sym, ◌∙◌, ap, subst, arith, length-append}
use Rattle.std.specs.Prelude.{if◌then◌else◌, All}
use Rattle.std.proofs.Math.Seq.{drop-cons}
use Rattle.std.proofs.lemmas.List.{take_more, append-nil, append_assoc, drop_all, map-append}
use Rattle.std.proofs.lemmas.List.Concat.{flat_map-append}
use Rattle.std.proofs.lemmas.List.Elements.{All-nil, All-cons, All-head, All-tail}
use Rattle.log_entry.specs.Spelling.{spelling, spelled}
use Rattle.log_entry.specs.declared.item.LogItem.{LogItem}
use Rattle.dn_model.specs.Log.{Placed, placed_from, slot_name}
use Rattle.log_walk.specs.Items.{seen}
use Rattle.log_walk.specs.declared.items.Placed.{Placed as PlacedItem}
use Rattle.file_scan.specs.Index.{MayBeIndexed}
use Rattle.dn_volume.specs.Cleans.{is_due, due_slots}
use Rattle.log_clean.specs.Planning.{MayBeLaid}

-- one item more is spelled
pub spelled_next : (items : List LogItem) (i : ℕ) (item : LogItem) (mid new : List (List ℕ)) → i < length items → item ≡ get_or items i item
    → mid ≡ spelled (take i items) → new ≡ mid ++ spelling item → new ≡ spelled (take (i + 1) items)
spelled_next items i item mid new lt here so more =
    more
    ∙ ap (λ (xs : List (List ℕ)). xs ++ spelling item) so
    ∙ ap (λ (xs : List (List ℕ)). spelled (take i items) ++ xs) (sym (append-nil (spelling item)))
    ∙ sym (flat_map-append spelling (take i items) (item ∷ []))
    ∙ ap (λ (x : LogItem). spelled (take i items ++ x ∷ [])) here
    ∙ ap (λ (xs : List LogItem). spelled xs) (sym (take_more items i item lt))

pub laid_at : (items : List LogItem) (i : ℕ) (item : LogItem) → i < length items → item ≡ get_or items i item → All MayBeLaid items → MayBeLaid item
laid_at items i item lt here all = subst MayBeLaid (sym here) (all i item lt)

-- what is placed of a log's items may be indexed
abbrev rest : List Placed → List Placed
rest [] = []
rest (p ∷ ps) = ps

cons_not_nil : (p : Placed) (ps : List Placed) → p ∷ ps ≡ [] → ⊥
cons_not_nil p ps e = cc

pub placed_indexed : (pages : List ℕ) (k : ℕ) (xs : List LogItem) (ps : List PlacedItem) → All MayBeLaid xs → map seen ps ≡ placed_from pages k xs
    → All MayBeIndexed ps
placed_indexed pages k xs [] laid e = All-nil MayBeIndexed
placed_indexed pages k [] (p ∷ ps) laid e = absurd (cons_not_nil (seen p) (map seen ps) e)
placed_indexed pages k (x ∷ xs) (p ∷ ps) laid e =
    let same : x ≡ p.item = sym (ap (λ (qs : List Placed). (get_or qs 0 (seen p)).item) e) in
    All-cons MayBeIndexed p ps (subst MayBeLaid same (All-head MayBeLaid x xs laid))
    (placed_indexed pages (k + length (spelling x)) xs ps (All-tail MayBeLaid x xs laid) (ap rest e))

-- The first k items are placed, and take n slots.
pub record IsPlacedTo (pages : List ℕ) (items : List LogItem) (k n : ℕ) (all : List PlacedItem) : Type 0 where
  pub so_far : map seen all ++ placed_from pages n (drop k items) ≡ placed_from pages 0 items
  pub slots : n + length (spelled (drop k items)) ≡ length (spelled items)

pub none_placed : (pages : List ℕ) (items : List LogItem) → IsPlacedTo pages items 0 0 []
none_placed pages items = record { so_far = refl; slots = omega arith }

module _ (pages : List ℕ) (items : List LogItem) (k n : ℕ) (all : List PlacedItem) (item : LogItem) (lt : k < length items)
    (here : item ≡ get_or items k item) (to : IsPlacedTo pages items k n all) where
  one : suc k ≡ k + 1
  one = omega arith

  drops : drop k items ≡ item ∷ drop (k + 1) items
  drops = drop-cons items k item lt ∙ ap (λ (x : LogItem). x ∷ drop (suc k) items) (sym here) ∙ ap (λ (m : ℕ). item ∷ drop m items) one

  slots_left : length (spelled (drop k items)) ≡ length (spelling item) + length (spelled (drop (k + 1) items))
  slots_left = ap (λ (xs : List LogItem). length (spelled xs)) drops ∙ length-append (spelling item) (spelled (drop (k + 1) items))

  pub fits_next : n + length (spelling item) ≤ length (spelled items)
  fits_next = let all_slots = to.slots in omega (arith, all_slots, slots_left)

  pub placed_next : (p : PlacedItem) (new : List PlacedItem) (m : ℕ) → new ≡ all ++ p ∷ [] → seen p ≡ record { slot = slot_name pages n; item = item }
      → m ≡ n + length (spelling item) → IsPlacedTo pages items (k + 1) m new
  placed_next p new m is at next = record {
    so_far =
        ap (λ (xs : List PlacedItem). map seen xs ++ placed_from pages m (drop (k + 1) items)) is
        ∙ ap (λ (xs : List Placed). xs ++ placed_from pages m (drop (k + 1) items)) (map-append seen all (p ∷ []))
        ∙ append_assoc (map seen all) (seen p ∷ []) (placed_from pages m (drop (k + 1) items))
        ∙ ap (λ (q : Placed). map seen all ++ (q ∷ placed_from pages m (drop (k + 1) items))) at
        ∙ ap (λ (j : ℕ). map seen all ++ (record { slot = slot_name pages n; item = item } ∷ placed_from pages j (drop (k + 1) items))) next
        ∙ ap (λ (xs : List LogItem). map seen all ++ placed_from pages n xs) (sym drops)
        ∙ to.so_far;
    slots = (let all_slots = to.slots in omega (arith, all_slots, slots_left, next));
  }

pub all_placed : (pages : List ℕ) (items : List LogItem) (k n : ℕ) (all : List PlacedItem) → length items ≤ k → IsPlacedTo pages items k n all
    → map seen all ≡ placed_from pages 0 items
all_placed pages items k n all past to =
    sym (append-nil (map seen all))
    ∙ ap (λ (xs : List LogItem). map seen all ++ placed_from pages n xs) (sym (drop_all k items past))
    ∙ to.so_far

-- one item more is looked at
due_first : (b : Bool) (slot : ℕ) (ps : List Placed) → (if b then slot ∷ due_slots [] else due_slots []) ++ due_slots ps
    ≡ (if b then slot ∷ due_slots ps else due_slots ps)
due_first true slot ps = refl
due_first false slot ps = refl

pub due_next : (items : List PlacedItem) (i : ℕ) (p : PlacedItem) (mid new : List ℕ) → i < length items → p ≡ get_or items i p
    → mid ++ due_slots (map seen (drop i items)) ≡ due_slots (map seen items) → new ≡ mid ++ due_slots (seen p ∷ [])
    → new ++ due_slots (map seen (drop (i + 1) items)) ≡ due_slots (map seen items)
due_next items i p mid new lt here so more =
    ap (λ (xs : List ℕ). xs ++ due_slots (map seen (drop (i + 1) items))) more
    ∙ append_assoc mid (due_slots (seen p ∷ [])) (due_slots (map seen (drop (i + 1) items)))
    ∙ ap (λ (xs : List ℕ). mid ++ xs) (due_first (is_due p.item) p.slot (map seen (drop (i + 1) items)))
    ∙ ap (λ (ps : List PlacedItem). mid ++ due_slots (map seen ps)) (sym drops)
    ∙ so
  where
    one : suc i ≡ i + 1
    one = omega arith

    drops : drop i items ≡ p ∷ drop (i + 1) items
    drops = drop-cons items i p lt ∙ ap (λ (q : PlacedItem). q ∷ drop (suc i) items) (sym here) ∙ ap (λ (n : ℕ). p ∷ drop n items) one

pub all_due : (items : List PlacedItem) (i : ℕ) (mid : List ℕ) → length items ≤ i
    → mid ++ due_slots (map seen (drop i items)) ≡ due_slots (map seen items) → due_slots (map seen items) ≡ mid
all_due items i mid past so =
    sym so ∙ ap (λ (ps : List PlacedItem). mid ++ due_slots (map seen ps)) (drop_all i items past) ∙ append-nil mid
