-- The items of the root's log, from the last to the first.
use Rattle.std.proofs.Common.{◌≡◌, ◌≢◌, ℕ, suc, ◌+◌, ◌-◌, ◌<◌, ◌≤◌, Bool, true, false, List, [], ◌∷◌, ◌++◌, length, map, get_or, reverse, refl, sym, ◌∙◌, ap, subst, arith}
use Rattle.std.specs.Prelude.{◌||◌, is_some, if◌then◌else◌, drop}
use Rattle.std.specs.List.{list_any}
use Rattle.std.specs.FinMap.{get, empty, get-empty}
use Rattle.std.specs.Ordering.{nat_cmp}
use Rattle.std.specs.Cmp.Lexicographic.{slice_cmp}
use Rattle.std.proofs.Math.Seq.{drop-cons}
use Rattle.std.proofs.lemmas.List.{drop_all, reverse-append}
use Rattle.log_entry.specs.Name.{same_name}
use Rattle.log_entry.proofs.SameName.{same_name-true, same_name-same}
use Rattle.log_entry.specs.declared.item.LogItem.{LogItem}
use Rattle.log_entry.specs.declared.item.LogItem.TheVariants.{Write, Size, Add, Forget}
use Rattle.file_index.specs.Index.{Index, Puts}
use Rattle.log_walk.specs.Items.{item_of}
use Rattle.log_walk.specs.declared.items.Placed.{Placed as PlacedItem}
use Rattle.law_clean.specs.Cleaned.{is_of_name, last_adds}
use Rattle.clean_items.specs.NamesLoop.{NameSet, is_met, Meets, last_add, GoesBack, IsBackBy}

abbrev NameIndex : Type 0
NameIndex = Index (slice_cmp nat_cmp) ℕ

-- a name is put
pub meets-put : (name : List ℕ) (n : ℕ) (old : NameSet) (mid after : NameIndex) → mid.map ≡ old → Puts name n mid after → Meets name old after.map
meets-put name n old mid after same puts q = by_test (same_name name q) refl
  where
    other : same_name name q ≡ false → q ≢ name
    other test e = let clash : true ≡ false = sym (same_name-same name) ∙ ap (same_name name) (sym e) ∙ test in cc

    by_test : (t : Bool) → same_name name q ≡ t → is_met after.map q ≡ (t || is_met old q)
    by_test true test = ap is_some (ap (get after.map) (sym (same_name-true name q test)) ∙ puts.there)
    by_test false test = ap is_some (puts.others q (other test) ∙ ap (λ (m : NameSet). get m q) same)

-- before any item
pub back-none : (items : List PlacedItem) (adds : List LogItem) (met : NameSet) → adds ≡ [] → met ≡ empty → IsBackBy items 0 adds met
back-none items adds met no_adds none = record {
  last = ap reverse no_adds ∙ ap (λ (ps : List PlacedItem). last_adds (map item_of ps)) (sym past);
  names = λ name. ap (λ (m : NameSet). is_some (get m name)) none ∙ ap is_some (get-empty (slice_cmp nat_cmp) name)
      ∙ ap (λ (ps : List PlacedItem). list_any (is_of_name name) (map item_of ps)) (sym past);
}
  where
    past : drop (length items - 0) items ≡ []
    past = drop_all (length items - 0) items (omega arith)

-- an item is put before those that stay
turned : (met : NameSet) (item : LogItem) (items : List LogItem) (adds : List LogItem) → reverse adds ≡ last_adds items
    → ((name : List ℕ) → is_met met name ≡ list_any (is_of_name name) items) → reverse (adds ++ last_add met item) ≡ last_adds (item ∷ items)
turned met (Write first n block size flag mask) items adds last names = ap reverse (append_none adds) ∙ last
  where
    append_none : (xs : List LogItem) → xs ++ [] ≡ xs
    append_none [] = refl
    append_none (x ∷ xs) = ap (λ (rest : List LogItem). x ∷ rest) (append_none xs)
turned met (Size size) items adds last names = ap reverse (append_none adds) ∙ last
  where
    append_none : (xs : List LogItem) → xs ++ [] ≡ xs
    append_none [] = refl
    append_none (x ∷ xs) = ap (λ (rest : List LogItem). x ∷ rest) (append_none xs)
turned met (Forget old) items adds last names = ap reverse (append_none adds) ∙ last
  where
    append_none : (xs : List LogItem) → xs ++ [] ≡ xs
    append_none [] = refl
    append_none (x ∷ xs) = ap (λ (rest : List LogItem). x ∷ rest) (append_none xs)
turned met (Add ino new) items adds last names =
    reverse-append adds (if is_met met new then [] else (Add ino new ∷ []))
    ∙ ap (λ (b : Bool). reverse (if b then [] else (Add ino new ∷ [])) ++ reverse adds) (names new)
    ∙ by_test (list_any (is_of_name new) items)
  where
    by_test : (b : Bool) → reverse (if b then [] else (Add ino new ∷ [])) ++ reverse adds
        ≡ (if b then last_adds items else (Add ino new ∷ last_adds items))
    by_test true = last
    by_test false = ap (λ (rest : List LogItem). Add ino new ∷ rest) last

pub back-next : (items : List PlacedItem) (k at : ℕ) (p : PlacedItem) (adds adds' : List LogItem) (met met' : NameSet) → k < length items
    → at ≡ length items - 1 - k → p ≡ get_or items at p
    → IsBackBy items k adds met → GoesBack (get_or items at p).item adds adds' met met' → IsBackBy items (k + 1) adds' met'
back-next items k at p adds adds' met met' lt here item_is so found = record {
  last = ap reverse back.adds ∙ turned met p.item (map item_of (drop (length items - k) items)) adds so.last so.names
      ∙ ap (λ (ps : List PlacedItem). last_adds (map item_of ps)) (sym drops);
  names = λ name. back.met name ∙ ap (λ (b : Bool). is_of_name name p.item || b) (so.names name)
      ∙ ap (λ (ps : List PlacedItem). list_any (is_of_name name) (map item_of ps)) (sym drops);
}
  where
    back : GoesBack p.item adds adds' met met'
    back = subst (λ (q : PlacedItem). GoesBack q.item adds adds' met met') (sym item_is) found

    one : suc at ≡ length items - k
    one = omega arith

    place : length items - (k + 1) ≡ at
    place = omega arith

    drops : drop (length items - (k + 1)) items ≡ p ∷ drop (length items - k) items
    drops =
        ap (λ (n : ℕ). drop n items) place ∙ drop-cons items at p (omega arith) ∙ ap (λ (q : PlacedItem). q ∷ drop (suc at) items) (sym item_is)
        ∙ ap (λ (n : ℕ). p ∷ drop n items) one

pub back-all : (items : List PlacedItem) (k : ℕ) (adds : List LogItem) (met : NameSet) → length items ≤ k → IsBackBy items k adds met
    → reverse adds ≡ last_adds (map item_of items)
back-all items k adds met all so = so.last ∙ ap (λ (n : ℕ). last_adds (map item_of (drop n items))) none
  where
    none : length items - k ≡ 0
    none = omega arith
