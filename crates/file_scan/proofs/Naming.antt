-- The names of a directory, item by item.
use Rattle.std.proofs.Common.{◌≡◌, ◌≢◌, ℕ, suc, ◌+◌, ◌<◌, ◌≤◌, Bool, true, false, List, [], ◌∷◌, length, map, get_or, refl, sym, ◌∙◌, ap, arith}
use Rattle.std.specs.Prelude.{if◌then◌else◌, drop, Option, Some, None}
use Rattle.std.specs.FinMap.{get, empty, get-empty}
use Rattle.std.specs.Ordering.{nat_cmp}
use Rattle.std.specs.Cmp.Lexicographic.{slice_cmp}
use Rattle.std.proofs.Math.Seq.{drop-cons}
use Rattle.std.proofs.lemmas.List.{drop_all}
use Rattle.log_entry.specs.Name.{same_name}
use Rattle.log_entry.proofs.SameName.{same_name-true, same_name-same}
use Rattle.log_entry.specs.declared.item.LogItem.{LogItem}
use Rattle.log_entry.specs.declared.item.LogItem.TheVariants.{Write, Size, Add, Forget}
use Rattle.file_index.specs.Index.{Index, Puts, Drops}
use Rattle.dn_model.specs.Log.{Log, placed}
use Rattle.dn_model.specs.Files.{named_after}
use Rattle.log_walk.specs.Items.{seen, item_of}
use Rattle.log_walk.specs.declared.items.Placed.{Placed as PlacedItem}
use Rattle.file_scan.specs.Names.{NamesMap, Renames, IsNamedTo, IsNamesOf}
use Rattle.file_scan.proofs.Indexing.{items_of}

abbrev NameIndex : Type 0
NameIndex = Index (slice_cmp nat_cmp) ℕ

-- a test of names settles whether a name is the other
module _ (new name : List ℕ) where
  other_name : same_name new name ≡ false → name ≢ new
  other_name test e = true_false (sym (same_name-same new) ∙ ap (same_name new) (sym e) ∙ test)
    where
      true_false : true ≡ false → ⊥
      true_false e = cc

pub renames-put : (ino : ℕ) (new : List ℕ) (old : NamesMap) (mid after : NameIndex) → mid.map ≡ old → Puts new ino mid after
    → Renames (Add ino new) old after.map
renames-put ino new old mid after same puts name = by_test (same_name new name) refl
  where
    by_test : (t : Bool) → same_name new name ≡ t → get after.map name ≡ (if t then Some ino else get old name)
    by_test true test = ap (get after.map) (sym (same_name-true new name test)) ∙ puts.there
    by_test false test = puts.others name (other_name new name test) ∙ ap (λ (m : NamesMap). get m name) same

pub renames-drop : (gone : List ℕ) (old after : NameIndex) → Drops gone old after → Renames (Forget gone) old.map after.map
renames-drop gone old after drops name = by_test (same_name gone name) refl
  where
    by_test : (t : Bool) → same_name gone name ≡ t → get after.map name ≡ (if t then None else get old.map name)
    by_test true test = ap (get after.map) (sym (same_name-true gone name test)) ∙ drops.gone
    by_test false test = drops.others name (other_name gone name test)

-- names, item by item
name_first : (name : List ℕ) (found : Option ℕ) (item : LogItem) (items : List LogItem) → named_after name (named_after name found (item ∷ []))
    items ≡ named_after name found (item ∷ items)
name_first name found (Write first count block size flag mask) items = refl
name_first name found (Size size) items = refl
name_first name found (Add ino new) items = refl
name_first name found (Forget old) items = refl

pub named-none : (items : List PlacedItem) (names : NamesMap) → names ≡ empty → IsNamedTo items 0 names
named-none items names is name = ap (λ (o : Option ℕ). named_after name o (map item_of items)) (ap (λ (m : NamesMap). get m name) is ∙ get-empty
    (slice_cmp nat_cmp) name)

pub named-next : (items : List PlacedItem) (i : ℕ) (p : PlacedItem) (old new : NamesMap) → i < length items → p ≡ get_or items i p
    → IsNamedTo items i old → Renames p.item old new → IsNamedTo items (i + 1) new
named-next items i p old new lt here so_far renames name =
    ap (λ (o : Option ℕ). named_after name o (map item_of (drop (i + 1) items))) (renames name)
    ∙ name_first name (get old name) p.item (map item_of (drop (i + 1) items))
    ∙ ap (λ (ps : List PlacedItem). named_after name (get old name) (map item_of ps)) (sym drops)
    ∙ so_far name
  where
    one : suc i ≡ i + 1
    one = omega arith

    drops : drop i items ≡ p ∷ drop (i + 1) items
    drops = drop-cons items i p lt ∙ ap (λ (q : PlacedItem). q ∷ drop (suc i) items) (sym here) ∙ ap (λ (n : ℕ). p ∷ drop n items) one

pub named-all : (items : List PlacedItem) (i : ℕ) (names : NamesMap) → length items ≤ i → IsNamedTo items i names → (log : Log)
    → map seen items ≡ placed log → IsNamesOf log names
named-all items i names all so_far log is name =
    ap (λ (ps : List PlacedItem). named_after name (get names name) (map item_of ps)) (sym (drop_all i items all))
    ∙ so_far name
    ∙ ap (named_after name None) (items_of items log is)
