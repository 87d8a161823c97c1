-- The items of a log, by their slots and by the places that they map.
use Rattle.std.proofs.Common.{
  ◌≡◌,
  ◌⊎◌,
  inl,
  inr,
  ⊎_elim,
  ℕ,
  suc,
  ◌+◌,
  ◌-◌,
  ◌<◌,
  ◌≤◌,
  Bool,
  true,
  false,
  List,
  [],
  ◌∷◌,
  ◌++◌,
  length,
  get_or,
  refl,
  sym,
  ◌∙◌,
  ap,
  subst,
  arith,
  add-zero,
  length-append,
}
use Rattle.std.specs.Prelude.{slice_index, Contains, Option, Some, None, ◌&&◌, nat_le, nat_lt, if◌then◌else◌}
use Rattle.std.proofs.lemmas.Bool.Decides.{nat_tests}
use Rattle.std.proofs.lemmas.List.{get_or_at}
use Rattle.std.proofs.lemmas.List.Concat.{flat_map-append}
use Rattle.pm_layout.specs.declared.Geometry.{Geometry}
use Rattle.log_entry.specs.Spelling.{spelling, spelled, pages_of, flag_number}
use Rattle.log_entry.specs.declared.item.Flag.{Flag}
use Rattle.log_entry.specs.declared.item.LogItem.{LogItem}
use Rattle.log_entry.specs.declared.item.LogItem.TheVariants.{Write, Size, Add, Forget}
use Rattle.log_entry.proofs.Spelled.{length-spelled-cons, spelling_some}
use Rattle.dn_model.specs.Log.{Log, IsPaged, Placed, placed, placed_from, slot_name, count, spelled_word}
use Rattle.dn_model.specs.Maps.{Mapping, mapping, remapped, mapped_after}
use Rattle.law_write.proofs.Mapped.{placed_from-append}
use Rattle.law_table.proofs.Rows.{listed_cases}
use Rattle.law_flags.proofs.Retagged.{one_slot}

-- the item that stands at a slot, with those before and after it
pub record StandsAt (pages : List ℕ) (k : ℕ) (items : List LogItem) (p : Placed) : Type 0 where
  pub front : List LogItem
  pub rest : List LogItem
  pub items_are : items ≡ front ++ p.item ∷ rest
  pub slot_is : p.slot ≡ slot_name pages (k + length (spelled front))

pub stands_at : (pages : List ℕ) (k : ℕ) (items : List LogItem) (p : Placed) → Contains (placed_from pages k items) p → StandsAt pages k items p
stands_at pages k [] p has = absurd (omega (arith, has.1))
stands_at pages k (x ∷ xs) p has = ⊎_elim
    (λ (here : record { slot = slot_name pages k; item = x } ≡ p). record {
      front = [];
      rest = xs;
      items_are = ap (λ (q : Placed). q.item ∷ xs) here;
      slot_is = ap (λ (q : Placed). q.slot) (sym here) ∙ ap (slot_name pages) (sym (add-zero k));
    })
    (λ (later : Contains (placed_from pages (k + length (spelling x)) xs) p).
    let is = stands_at pages (k + length (spelling x)) xs p later in
    let moved : k + length (spelling x) + length (spelled is.front) ≡ k + length (spelled (x ∷ is.front)) =
    omega (arith, length-spelled-cons x is.front) in
    record {
      front = x ∷ is.front;
      rest = is.rest;
      items_are = ap (λ (ys : List LogItem). x ∷ ys) is.items_are;
      slot_is = is.slot_is ∙ ap (slot_name pages) moved;
    }) (listed_cases (record { slot = slot_name pages k; item = x }) (placed_from pages (k + length (spelling x)) xs) p has)

-- items at one place of a list are one
split_same : (front front' : List LogItem) (x y : LogItem) (rest rest' : List LogItem) → front ++ x ∷ rest ≡ front' ++ y ∷ rest'
    → length (spelled front) ≡ length (spelled front') → x ≡ y
split_same [] [] x y rest rest' e long = cc
split_same [] (w ∷ ws) x y rest rest' e long = absurd (omega (arith, long, length-spelled-cons w ws, spelling_some w))
split_same (z ∷ zs) [] x y rest rest' e long = absurd (omega (arith, long, length-spelled-cons z zs, spelling_some z))
split_same (z ∷ zs) (w ∷ ws) x y rest rest' e long =
    let first : z ≡ w = cc in
    let others : zs ++ x ∷ rest ≡ ws ++ y ∷ rest' = cc in
    let same : length (spelling z) ≡ length (spelling w) = ap (λ (i : LogItem). length (spelling i)) first in
    split_same zs ws x y rest rest' others (omega (arith, long, length-spelled-cons z zs, length-spelled-cons w ws, same))

long_front : (front : List LogItem) (x : LogItem) (rest : List LogItem) → length (spelled front) < length (spelled (front ++ x ∷ rest))
long_front front x rest =
    let split = ap length (flat_map-append spelling front (x ∷ rest)) ∙ length-append (spelled front) (spelled (x ∷ rest)) in
    omega (arith, split, length-spelled-cons x rest, spelling_some x)

pub front_within : (log : Log) (p : Placed) (is : StandsAt log.pages 0 log.items p) → length (spelled is.front) < count log
unfolding count
front_within log p is = subst (λ (xs : List LogItem). length (spelled is.front) < length (spelled xs)) (sym is.items_are)
    (long_front is.front p.item is.rest)

pub item_slot : (log : Log) (p : Placed) (is : StandsAt log.pages 0 log.items p) → p.slot ≡ slot_name log.pages (length (spelled is.front))
item_slot log p is =
    let none : 0 + length (spelled is.front) ≡ length (spelled is.front) = omega arith in
    is.slot_is ∙ ap (slot_name log.pages) none

-- items at one slot are one
pub same_item : (g : Geometry) (log : Log) → IsPaged g log → (p q : Placed) → Contains (placed log) p → Contains (placed log) q → p.slot ≡ q.slot
    → p.item ≡ q.item
same_item g log paged p q there here same =
    let is = stands_at log.pages 0 log.items p there in
    let at = stands_at log.pages 0 log.items q here in
    split_same is.front at.front p.item q.item is.rest at.rest (sym is.items_are ∙ at.items_are)
    (one_slot g log paged (length (spelled is.front)) (length (spelled at.front)) (front_within log p is) (front_within log q at)
    (sym (item_slot log p is) ∙ same ∙ item_slot log q at))

-- the words of an item that takes one slot
pub item_word : (log : Log) (p : Placed) (is : StandsAt log.pages 0 log.items p) (words : List ℕ) → spelling p.item ≡ words ∷ [] → (j : ℕ)
    → spelled_word log (length (spelled is.front)) j ≡ slice_index words j
unfolding spelled_word
item_word log p is words one j =
    ap (λ (ss : List (List ℕ)). slice_index (get_or ss (length (spelled is.front)) []) j)
    (ap spelled is.items_are ∙ flat_map-append spelling is.front (p.item ∷ is.rest) ∙ ap
    (λ (ss : List (List ℕ)). spelled is.front ++ (ss ++ spelled is.rest)) one)
    ∙ ap (λ (ws : List ℕ). slice_index ws j) (get_or_at (spelled is.front) words (spelled is.rest) [] (length (spelled is.front)) refl)

pub write_words : (first n block size : ℕ) (flag : Flag) (mask : ℕ) → spelling (Write first n block size flag mask)
    ≡ (1 ∷ first ∷ n ∷ block ∷ size ∷ flag_number flag ∷ mask ∷ 0 ∷ []) ∷ []
unfolding spelling
write_words first n block size flag mask = refl

-- the item that maps a place
pub record IsMappedBy (ps : List Placed) (idx : ℕ) (m : Mapping) : Type 0 where
  pub first : ℕ
  pub count : ℕ
  pub block : ℕ
  pub size : ℕ
  pub listed : Contains ps (record { slot = m.slot; item = Write first count block size m.flag m.mask })
  pub low : first ≤ idx
  pub high : idx < first + count
  pub bit_is : m.bit ≡ idx - first

later : (p : Placed) (ps : List Placed) (idx : ℕ) (m : Mapping) → IsMappedBy ps idx m → IsMappedBy (p ∷ ps) idx m
later p ps idx m is = record {
  first = is.first;
  count = is.count;
  block = is.block;
  size = is.size;
  listed = (suc is.listed.0, omega (arith, is.listed.1), is.listed.2);
  low = is.low;
  high = is.high;
  bit_is = is.bit_is;
}

cut_keeps : (b : Bool) (m : Option Mapping) (x : Mapping) → (if b then m else None) ≡ Some x → m ≡ Some x
cut_keeps true m x e = e
cut_keeps false m x e = cc

module _ (idx first n block size mask slot : ℕ) (flag : Flag) (ps : List Placed) (m : Option Mapping) (x : Mapping) where
  abbrev here : Mapping
  here = record { block = block + (idx - first); slot = slot; bit = idx - first; flag = flag; mask = mask }

  abbrev item : Placed
  item = record { slot = slot; item = Write first n block size flag mask }

  by_range : (b : Bool) → (nat_le first idx && nat_lt idx (first + n)) ≡ b → (if b then Some here else m) ≡ Some x
      → IsMappedBy (item ∷ ps) idx x ⊎ (m ≡ Some x)
  by_range true t e =
      let same : here ≡ x = cc in
      inl (record {
        first = first;
        count = n;
        block = block;
        size = size;
        listed = (0, omega arith, ap (λ (y : Mapping). record { slot = y.slot; item = Write first n block size y.flag y.mask }) same);
        low = grind (arith, nat_tests);
        high = grind (arith, nat_tests);
        bit_is = sym (ap (λ (y : Mapping). y.bit) same);
      })
  by_range false t e = inr e

  set_or_kept : remapped idx m item ≡ Some x → IsMappedBy (item ∷ ps) idx x ⊎ (m ≡ Some x)
  set_or_kept e = by_range (nat_le first idx && nat_lt idx (first + n)) refl (cut_keeps (nat_lt idx (pages_of size)) _ x e)

-- a mapped place was mapped by an item, or before them all
by_items : (idx : ℕ) (pages : List ℕ) (k : ℕ) (m : Option Mapping) (items : List LogItem) (x : Mapping)
    → mapped_after idx m (placed_from pages k items) ≡ Some x → IsMappedBy (placed_from pages k items) idx x ⊎ (m ≡ Some x)
by_items idx pages k m [] x e = inr e
by_items idx pages k m (Write first n block size flag mask ∷ items) x e =
    let rest : List Placed = placed_from pages (k + length (spelling (Write first n block size flag mask))) items in
    let one : Placed = record { slot = slot_name pages k; item = Write first n block size flag mask } in
    ⊎_elim (λ (is : IsMappedBy rest idx x). inl (later one rest idx x is)) (set_or_kept idx first n block size mask (slot_name pages k) flag rest m x)
    (by_items idx pages (k + length (spelling (Write first n block size flag mask))) (remapped idx m one) items x e)
by_items idx pages k m (Size size ∷ items) x e =
    let rest : List Placed = placed_from pages (k + length (spelling (Size size))) items in
    let one : Placed = record { slot = slot_name pages k; item = Size size } in
    ⊎_elim (λ (is : IsMappedBy rest idx x). inl (later one rest idx x is)) (λ kept. inr (cut_keeps (nat_lt idx (pages_of size)) m x kept))
    (by_items idx pages (k + length (spelling (Size size))) (remapped idx m one) items x e)
by_items idx pages k m (Add ino name ∷ items) x e =
    let rest : List Placed = placed_from pages (k + length (spelling (Add ino name))) items in
    ⊎_elim (λ (is : IsMappedBy rest idx x). inl (later (record { slot = slot_name pages k; item = Add ino name }) rest idx x is)) (λ kept. inr kept)
    (by_items idx pages (k + length (spelling (Add ino name))) m items x e)
by_items idx pages k m (Forget name ∷ items) x e =
    let rest : List Placed = placed_from pages (k + length (spelling (Forget name))) items in
    ⊎_elim (λ (is : IsMappedBy rest idx x). inl (later (record { slot = slot_name pages k; item = Forget name }) rest idx x is)) (λ kept. inr kept)
    (by_items idx pages (k + length (spelling (Forget name))) m items x e)

pub mapped_by_item : (log : Log) (idx : ℕ) (m : Mapping) → mapping log idx ≡ Some m → IsMappedBy (placed log) idx m
unfolding mapping
mapped_by_item log idx m e = ⊎_elim (λ (is : IsMappedBy (placed log) idx m). is) (λ (none : None ≡ Some m). cc)
    (by_items idx log.pages 0 None log.items m e)

-- an item in the middle of a list is in it
any_middle : {X : Type 0} (xs : List X) (x : X) (ys : List X) → Contains (xs ++ x ∷ ys) x
any_middle [] x ys = (0, omega arith, refl)
any_middle (z ∷ zs) x ys = let is = any_middle zs x ys in (suc is.0, omega (arith, is.1), is.2)

pub in_middle : (xs : List LogItem) (x : LogItem) (ys : List LogItem) → Contains (xs ++ x ∷ ys) x
in_middle xs x ys = any_middle xs x ys

-- and is placed at the slot after those before it
pub placed_middle : (pages : List ℕ) (front : List LogItem) (x : LogItem) (rest : List LogItem) → Contains (placed_from pages 0 (front ++ x ∷ rest))
    (record { slot = slot_name pages (length (spelled front)); item = x })
placed_middle pages front x rest =
    let after : 0 + length (spelled front) ≡ length (spelled front) = omega arith in
    let one : Placed = record { slot = slot_name pages (length (spelled front)); item = x } in
    subst (λ (ps : List Placed). Contains ps one)
    (sym (placed_from-append pages 0 front (x ∷ rest) ∙ ap (λ (k : ℕ). placed_from pages 0 front ++ placed_from pages k (x ∷ rest)) after))
    (any_middle (placed_from pages 0 front) one (placed_from pages (length (spelled front) + length (spelling x)) rest))
