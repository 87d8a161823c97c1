-- The parts of Writes, place by place and item by item.
use Rattle.std.proofs.Common.{◌≡◌, ℕ, zero, suc, ◌+◌, ◌-◌, ◌<◌, ◌≤◌, Bool, true, false, cond, List, [], ◌∷◌, ◌++◌, map, refl, sym, ◌∙◌, ap, arith, add-zero}
use Rattle.std.specs.Prelude.{if◌then◌else◌, filter, Option, Some, None, Result, Ok, Err, IfOk, Vec}
use Rattle.std.specs.declared.alloc.Global.{Global}
use Rattle.std.specs.Option.{option_map}
use Rattle.std.specs.List.{range_with_len, flat_map}
use Rattle.std.proofs.lemmas.List.{map-append}
use Rattle.std.proofs.lemmas.List.Elements.{filter-append}
use Rattle.log_entry.specs.declared.item.Flag.{Flag}
use Rattle.log_entry.specs.declared.item.LogItem.{LogItem}
use Rattle.dn_model.specs.Log.{Log, Placed, placed}
use Rattle.dn_model.specs.Maps.{Mapping, mapping, size_of}
use Rattle.log_walk.specs.Items.{seen, item_of}
use Rattle.log_walk.specs.declared.items.Placed.{Placed as PlacedItem}
use Rattle.file_content.specs.Content.{kept}
use Rattle.file_scan.proofs.Indexing.{items_of}
use Rattle.law_clean.specs.Cleaned.{is_by, begins_run, run_len, part_of, parts_of, still_mapped, or_size, last_adds, cleaned_items}
use Rattle.clean_items.specs.Cleaning.{PlacesMap, is_kept_by, maps_still, part_at, parts_to, parts_by, IsKeptOf}

-- one more place
range_more : (a n : ℕ) → range_with_len a (suc n) ≡ range_with_len a n ++ (a + n) ∷ []
range_more a zero = ap (λ (x : ℕ). x ∷ []) (sym (add-zero a))
range_more a (suc n) =
    let e : a + 1 + n ≡ a + suc n = omega arith in
    ap (λ (xs : List ℕ). a ∷ xs) (range_more (a + 1) n ∙ ap (λ (x : ℕ). range_with_len (a + 1) n ++ x ∷ []) e)

module _ (test : ℕ → Bool) (size first count block : ℕ) (flag : Flag) (mask : ℕ) where
  abbrev part : ℕ → LogItem
  part from = part_of size first block flag mask from (run_len test from (first + count - from))

  mapped_filter : (x : ℕ) (b : Bool) → begins_run test first x ≡ b
      → map part (filter (begins_run test first) (x ∷ [])) ≡ (if b then (part x ∷ []) else [])
  mapped_filter x b e = ap (λ (t : Bool). map part (cond t (x ∷ []) [])) e ∙ by_test b
    where
      by_test : (b : Bool) → map part (cond b (x ∷ []) []) ≡ (if b then (part x ∷ []) else [])
      by_test true = refl
      by_test false = refl

  to_more : (n : ℕ) → parts_to test size first count block flag mask (suc n) ≡ parts_to test size first count block flag mask n ++ part_at test size
      first count block flag mask (first + n)
  to_more n =
      ap (λ (xs : List ℕ). map part (filter (begins_run test first) xs)) (range_more first n)
      ∙ ap (map part) (filter-append (begins_run test first) (range_with_len first n) ((first + n) ∷ []))
      ∙ map-append part (filter (begins_run test first) (range_with_len first n)) (filter (begins_run test first) ((first + n) ∷ []))
      ∙ ap (λ (xs : List LogItem). parts_to test size first count block flag mask n ++ xs)
      (mapped_filter (first + n) (begins_run test first (first + n)) refl)

  pub parts_to-more : (from : ℕ) (old mid new : List LogItem) → first ≤ from
      → mid ≡ old ++ parts_to test size first count block flag mask (from - first)
      → new ≡ mid ++ part_at test size first count block flag mask from
      → new ≡ old ++ parts_to test size first count block flag mask (from + 1 - first)
  parts_to-more from old mid new low so more =
      let here : first + (from - first) ≡ from = omega arith in
      let next : suc (from - first) ≡ from + 1 - first = omega arith in
      more
      ∙ ap (λ (xs : List LogItem). xs ++ part_at test size first count block flag mask from) so
      ∙ grouped old (parts_to test size first count block flag mask (from - first)) (part_at test size first count block flag mask from)
      ∙ ap (λ (xs : List LogItem). old ++ xs) (
      ap (λ (k : ℕ). parts_to test size first count block flag mask (from - first) ++ part_at test size first count block flag mask k) (sym here)
      ∙ sym (to_more (from - first))
      ∙ ap (parts_to test size first count block flag mask) next
      )
    where
      grouped : (xs ys zs : List LogItem) → (xs ++ ys) ++ zs ≡ xs ++ (ys ++ zs)
      grouped [] ys zs = refl
      grouped (x ∷ xs) ys zs = ap (λ (rest : List LogItem). x ∷ rest) (grouped xs ys zs)

-- how far a run goes, place by place
pub run_len-next : (test : ℕ → Bool) (idx k n total : ℕ) → k < n → test (idx + k) ≡ true → total ≡ k + run_len test (idx + k) (n - k)
    → total ≡ k + 1 + run_len test (idx + (k + 1)) (n - (k + 1))
run_len-next test idx k n total lt t so =
    let left : n - k ≡ suc (n - (k + 1)) = omega arith in
    let place : idx + k + 1 ≡ idx + (k + 1) = omega arith in
    so
    ∙ ap (λ (m : ℕ). k + run_len test (idx + k) m) left
    ∙ ap (λ (b : Bool). k + (if b then suc (run_len test (idx + k + 1) (n - (k + 1))) else 0)) t
    ∙ one_more k (run_len test (idx + k + 1) (n - (k + 1)))
    ∙ ap (λ (i : ℕ). k + 1 + run_len test i (n - (k + 1))) place
  where
    one_more : (a b : ℕ) → a + suc b ≡ a + 1 + b
    one_more a b = omega arith

-- the places that are kept are those of the log
same_test : (slot : ℕ) (o : Option Mapping) → is_kept_by slot (option_map kept o) ≡ is_by slot o
same_test slot None = refl
same_test slot (Some m) = refl

module _ (log : Log) (size : ℕ) (places : PlacesMap) (is : IsKeptOf log size places) where
  tests : (slot : ℕ) → maps_still places slot ≡ (λ (idx : ℕ). is_by slot (mapping log idx))
  tests slot = λ i. λ idx. (ap (is_kept_by slot) (is.each idx) ∙ same_test slot (mapping log idx)) i

  abbrev parts : Placed → List LogItem
  parts p = parts_of (λ idx. is_by p.slot (mapping log idx)) (size_of log) p.item

  same_parts : (items : List PlacedItem) → parts_by places size items ≡ flat_map parts (map seen items)
  same_parts [] = refl
  same_parts (p ∷ ps) =
      ap (λ (xs : List LogItem). xs ++ parts_by places size ps)
      (ap (λ (t : ℕ → Bool). parts_of t size p.item) (tests p.slot) ∙ ap (λ (s : ℕ). parts_of (λ idx. is_by p.slot (mapping log idx)) s p.item)
      (sym is.size_is))
      ∙ ap (λ (xs : List LogItem). parts (seen p) ++ xs) (same_parts ps)

  still : (items : List PlacedItem) → map seen items ≡ placed log → parts_by places size items ≡ still_mapped log
  unfolding still_mapped
  still items all = same_parts items ∙ ap (flat_map parts) all

  pub file_cleaned : (k : ℕ) (items : List PlacedItem) → map seen items ≡ placed log → or_size size (parts_by places size items) ≡ cleaned_items
      (suc k) log
  unfolding cleaned_items
  file_cleaned k items all = ap (λ (s : ℕ). or_size s (parts_by places size items)) (sym is.size_is) ∙ ap (or_size (size_of log)) (still items all)

pub names_cleaned : (log : Log) (items : List PlacedItem) → map seen items ≡ placed log → last_adds (map item_of items) ≡ cleaned_items 0 log
unfolding cleaned_items
names_cleaned log items all = ap last_adds (items_of items log all)

-- by the inode
pub cleaned_by : (ino : ℕ) (log : Log) (size : ℕ) (places : PlacesMap) (items : List PlacedItem) (found : List LogItem) → (ino ≡ 0 → ⊥)
    → found ≡ or_size size (parts_by places size items) → map seen items ≡ placed log → IsKeptOf log size places → found ≡ cleaned_items ino log
cleaned_by zero log size places items found file is all kept = absurd (file refl)
cleaned_by (suc k) log size places items found file is all kept = is ∙ file_cleaned log size places kept k items all

-- what was answered
pub names_answer : {E : Type 0} (ino size : ℕ) (places : PlacesMap) (items : List PlacedItem) (r : Result (Vec LogItem Global) E) → ino ≡ 0
    → IfOk r (λ v. v.items ≡ last_adds (map item_of items))
    → IfOk r (λ v. (log : Log) → map seen items ≡ placed log → IsKeptOf log size places → v.items ≡ cleaned_items ino log)
names_answer ino size places items (Ok v) root is = λ log all kept. is ∙ names_cleaned log items all ∙ ap (λ (n : ℕ). cleaned_items n log) (sym root)
names_answer ino size places items (Err e) root is = tt

pub file_answer : {E : Type 0} (ino size : ℕ) (places : PlacesMap) (items : List PlacedItem) (r : Result (Vec LogItem Global) E) → (ino ≡ 0 → ⊥)
    → IfOk r (λ v. v.items ≡ or_size size (parts_by places size items))
    → IfOk r (λ v. (log : Log) → map seen items ≡ placed log → IsKeptOf log size places → v.items ≡ cleaned_items ino log)
file_answer ino size places items (Ok v) file is = λ log all kept. cleaned_by ino log size places items v.items file is all kept
file_answer ino size places items (Err e) file is = tt
