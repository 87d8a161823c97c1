-- Items fill the slots that they begin with, one after the other.
use Rattle.std.proofs.Common.{
  ◌≡◌,
  ℕ,
  ◌+◌,
  ◌-◌,
  ◌≤◌,
  List,
  [],
  ◌∷◌,
  ◌++◌,
  length,
  map,
  drop,
  refl,
  sym,
  ◌∙◌,
  ap,
  subst,
  arith,
  length-append,
  append_assoc,
  append-nil,
  add-zero,
  zero-add,
}
use Rattle.std.proofs.lemmas.List.{length-drop, drop-drop, drop_at, map-append}
use Rattle.std.proofs.lemmas.List.Concat.{flat_map-append}
use Rattle.std.proofs.lemmas.List.Elements.{All-push}
use Rattle.pm_layout.specs.declared.Geometry.{Geometry}
use Rattle.log_entry.specs.Spelling.{spelling, spelled, IsSpelled}
use Rattle.log_entry.specs.Fronts.{BeginsWith}
use Rattle.log_entry.specs.declared.item.LogItem.{LogItem}
use Rattle.log_entry.proofs.Spelled.{length-spelled-cons, spelling_some}
use Rattle.dn_model.specs.Log.{Placed, slot_name, placed_from}
use Rattle.dn_model.specs.Valid.{MayStand}
use Rattle.log_walk.specs.Items.{item_of, seen, Fill, AreFront}
use Rattle.log_walk.specs.declared.items.Placed.{Placed as PlacedItem}

-- the places of items after others
placed_from-append : (pages : List ℕ) (k : ℕ) (xs ys : List LogItem) → placed_from pages k (xs ++ ys) ≡ placed_from pages k xs ++ placed_from pages
    (k + length (spelled xs)) ys
placed_from-append pages k [] ys = ap (λ (n : ℕ). placed_from pages n ys) (sym (add-zero k))
placed_from-append pages k (x ∷ xs) ys =
    let e : k + length (spelling x) + length (spelled xs) ≡ k + length (spelled (x ∷ xs)) = omega (arith, length-spelled-cons x xs) in
    ap (λ (ps : List Placed). record { slot = slot_name pages k; item = x } ∷ ps)
    (placed_from-append pages (k + length (spelling x)) xs ys ∙ ap (λ (n : ℕ). placed_from pages (k + length (spelling x)) xs ++ placed_from pages n
    ys) e)

pub none_fill : (g : Geometry) (ino : ℕ) (pages : List ℕ) (slots : List (List ℕ)) → AreFront g ino pages slots [] 0
none_fill g ino pages slots = record {
  fill = record { are_spelled = λ k d lt. absurd (omega arith); standing = λ k d lt. absurd (omega arith); front = refl; long = refl };
  places = refl;
}

-- an item has slots, and no more than there are
pub front_within : (item : LogItem) (slots : List (List ℕ)) (n : ℕ) → BeginsWith item (drop n slots)
    → (1 ≤ length (spelling item)) × (length (spelling item) ≤ length slots - n)
front_within item slots n begins =
    (spelling_some item, omega (arith, ap length begins.is, length-append (spelling item) begins.rest, length-drop n slots))

module _ (g : Geometry) (ino : ℕ) (pages : List ℕ) (slots : List (List ℕ)) (items : List PlacedItem) (n : ℕ)
    (front : AreFront g ino pages slots items n)
    (p : PlacedItem) (begins : BeginsWith p.item (drop n slots)) (stands : MayStand g ino p.item) (place : p.slot ≡ slot_name pages n) where
  abbrev its : List LogItem
  its = map item_of items

  more_items : map item_of (items ++ p ∷ []) ≡ its ++ p.item ∷ []
  more_items = map-append item_of items (p ∷ [])

  rest_is : drop (n + length (spelling p.item)) slots ≡ begins.rest
  rest_is = sym (drop-drop (length (spelling p.item)) n slots) ∙ ap (drop (length (spelling p.item))) begins.is ∙ drop_at (spelling p.item)
      begins.rest (length (spelling p.item)) refl

  spelled_more : spelled (its ++ p.item ∷ []) ≡ spelled its ++ spelling p.item
  spelled_more = flat_map-append spelling its (p.item ∷ []) ∙ ap (λ (ss : List (List ℕ)). spelled its ++ ss) (append-nil (spelling p.item))

  fill_more : Fill g ino slots (its ++ p.item ∷ []) (n + length (spelling p.item))
  fill_more = record {
    are_spelled = All-push IsSpelled its p.item front.fill.are_spelled begins.spelled;
    standing = All-push (MayStand g ino) its p.item front.fill.standing stands;
    front = front.fill.front ∙ ap (λ (ss : List (List ℕ)). spelled its ++ ss) (begins.is ∙ ap (λ (ss : List (List ℕ)). spelling p.item ++ ss)
        (sym rest_is))
        ∙ sym (append_assoc (spelled its) (spelling p.item) (drop (n + length (spelling p.item)) slots))
        ∙ ap (λ (ss : List (List ℕ)). ss ++ drop (n + length (spelling p.item)) slots) (sym spelled_more);
    long = omega (arith, front.fill.long, ap length spelled_more, length-append (spelled its) (spelling p.item));
  }

  slot_is : slot_name pages (0 + length (spelled its)) ≡ p.slot
  slot_is = ap (slot_name pages) (zero-add (length (spelled its)) ∙ sym front.fill.long) ∙ sym place

  pub fronts_more : AreFront g ino pages slots (items ++ p ∷ []) (n + length (spelling p.item))
  fronts_more = record {
    fill = subst (λ (xs : List LogItem). Fill g ino slots xs (n + length (spelling p.item))) (sym more_items) fill_more;
    places = map-append seen items (p ∷ [])
        ∙ ap (λ (ps : List Placed). ps ++ seen p ∷ []) front.places
        ∙ ap (λ (s : ℕ). placed_from pages 0 its ++ record { slot = s; item = p.item } ∷ []) (sym slot_is)
        ∙ sym (placed_from-append pages 0 its (p.item ∷ []))
        ∙ ap (placed_from pages 0) (sym more_items);
  }
