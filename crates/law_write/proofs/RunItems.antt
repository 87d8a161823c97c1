-- What the items of runs map.
use Rattle.std.proofs.Common.{
  ◌≡◌,
  ◌⊎◌,
  inl,
  inr,
  ⊎_elim,
  ℕ,
  suc,
  ◌+◌,
  ◌-◌,
  ◌<◌,
  ◌≤◌,
  Bool,
  true,
  false,
  List,
  [],
  ◌∷◌,
  ◌++◌,
  length,
  refl,
  sym,
  ◌∙◌,
  ap,
  subst,
  arith,
}
use Rattle.std.specs.Prelude.{if◌then◌else◌, nat_le, nat_lt, ◌&&◌, Option, Some, None, All}
use Rattle.std.proofs.lemmas.Bool.{cases_lt}
use Rattle.std.proofs.lemmas.Bool.Decides.{nat_tests}
use Rattle.std.proofs.lemmas.Nat.{pow_pos}
use Rattle.std.proofs.lemmas.List.Elements.{All-nil, All-cons}
use Rattle.pm_layout.specs.declared.Geometry.{Geometry}
use Rattle.pm_layout.specs.Geometry.{InData}
use Rattle.log_entry.specs.Spelling.{IsSpelled, spelling, spelled, pages_of}
use Rattle.log_entry.specs.declared.item.LogItem.{LogItem}
use Rattle.log_entry.specs.declared.item.LogItem.TheVariants.{Write, Size, Add, Forget}
use Rattle.log_entry.specs.declared.item.Flag.TheVariants.{Needed}
use Rattle.log_entry.proofs.Spelled.{length-spelled-cons}
use Rattle.dn_model.specs.Log.{Log, slot_name, Placed, placed_from}
use Rattle.dn_model.specs.Maps.{Mapping, mapped_after, remapped, cut_to, size_of, size_after}
use Rattle.dn_model.specs.Growth.{IsGrown}
use Rattle.dn_model.specs.Valid.{MayStand}
use Rattle.law_write.specs.Writing.{IsNewMapping}
use Rattle.law_write.specs.Runs.{Run, run_item, run_items, places_in, block_at, IsChained}
use Rattle.law_write.proofs.MappedPlaces.{uncut}

-- a place outside a range of places, and one inside
abbrev pub IsOutside : ℕ → ℕ → ℕ → Type 0
IsOutside first n idx = (idx < first) ⊎ (first + n ≤ idx)

cut_twice : (size idx : ℕ) (m : Option Mapping) → cut_to size idx (cut_to size idx m) ≡ cut_to size idx m
cut_twice size idx m = elim (nat_lt idx (pages_of size)) as (λ b. (if b then (if b then m else None) else None) ≡ (if b then m else None))
    [ true ↦ refl | false ↦ refl ]

not_in_range : (first n idx : ℕ) → IsOutside first n idx → (nat_le first idx && nat_lt idx (first + n)) ≡ false
not_in_range first n idx out = ⊎_elim (λ (low : idx < first). below low) (λ (high : first + n ≤ idx). past high) out
  where
    below : idx < first → (nat_le first idx && nat_lt idx (first + n)) ≡ false
    below low = grind (arith, nat_tests)

    past : first + n ≤ idx → (nat_le first idx && nat_lt idx (first + n)) ≡ false
    past high = grind (arith, nat_tests)

is_in_range : (first n idx : ℕ) → first ≤ idx → idx < first + n → (nat_le first idx && nat_lt idx (first + n)) ≡ true
is_in_range first n idx low high = grind (arith, nat_tests)

-- one item
module _ (size slot : ℕ) (run : Run) where
  abbrev here : Placed
  here = record { slot = slot; item = run_item size run }

  abbrev set_here : ℕ → Mapping
  set_here idx = record { block = run.block + (idx - run.first); slot = slot; bit = idx - run.first; flag = Needed; mask = 0 }

  skipped : (idx : ℕ) (m : Option Mapping) → IsOutside run.first run.count idx → remapped idx m here ≡ cut_to size idx m
  skipped idx m out = ap (λ (b : Bool). cut_to size idx (if b then Some (set_here idx) else m)) (not_in_range run.first run.count idx out)

  set_in_range : (idx : ℕ) (m : Option Mapping) → run.first ≤ idx → idx < run.first + run.count → remapped idx m here ≡ cut_to size idx
      (Some (set_here idx))
  set_in_range idx m low high = ap (λ (b : Bool). cut_to size idx (if b then Some (set_here idx) else m))
      (is_in_range run.first run.count idx low high)

-- the page of a place, by its run
pub block_at-here : (run : Run) (runs : List Run) (i : ℕ) → i < run.count → block_at (run ∷ runs) i ≡ run.block + i
block_at-here run runs i lt = ap (λ (b : Bool). if b then run.block + i else block_at runs (i - run.count)) (test i run.count lt)
  where
    test : (a b : ℕ) → a < b → nat_lt a b ≡ true
    test a b lt = grind (arith, nat_tests)

pub block_at-later : (run : Run) (runs : List Run) (i : ℕ) → block_at (run ∷ runs) (run.count + i) ≡ block_at runs i
block_at-later run runs i = ap (λ (b : Bool). if b then run.block + (run.count + i) else block_at runs (run.count + i - run.count)) (test run.count i)
    ∙ ap (block_at runs) (back run.count i)
  where
    test : (a b : ℕ) → nat_lt (a + b) a ≡ false
    test a b = grind (arith, nat_tests)

    back : (a b : ℕ) → a + b - a ≡ b
    back a b = omega arith

-- items one after another, from slot k of these pages on
module _ (size : ℕ) (pages : List ℕ) where
  abbrev after : ℕ → ℕ → Option Mapping → List Run → Option Mapping
  after k idx m runs = mapped_after idx m (placed_from pages k (run_items runs size))

  abbrev next : ℕ → Run → ℕ
  next k run = k + length (spelling (run_item size run))

  stays : (k idx : ℕ) (m : Option Mapping) (runs : List Run) (first : ℕ) → IsChained first runs → IsOutside first (places_in runs) idx
      → after k idx (cut_to size idx m) runs ≡ cut_to size idx m
  stays k idx m [] first chained out = refl
  stays k idx m (run ∷ runs) first chained out =
      ap (λ (x : Option Mapping). after (next k run) idx x runs) (skipped size (slot_name pages k) run idx (cut_to size idx m) (outside_first out) ∙
      cut_twice size idx m)
      ∙ stays (next k run) idx m runs (first + run.count) chained.3 (outside_rest out)
    where
      outside_first : IsOutside first (run.count + places_in runs) idx → IsOutside run.first run.count idx
      outside_first (inl low) = inl (omega (arith, chained.0))
      outside_first (inr high) = inr (omega (arith, chained.0))

      outside_rest : IsOutside first (run.count + places_in runs) idx → IsOutside (first + run.count) (places_in runs) idx
      outside_rest (inl low) = inl (omega arith)
      outside_rest (inr high) = inr (omega arith)

  -- the places around the runs are cut to the size, and are what they were
  pub runs-other : (k idx : ℕ) (m : Option Mapping) (run : Run) (runs : List Run) (first : ℕ) → IsChained first (run ∷ runs)
      → IsOutside first (places_in (run ∷ runs)) idx → after k idx m (run ∷ runs) ≡ cut_to size idx m
  runs-other k idx m run runs first chained out =
      ap (λ (x : Option Mapping). after (next k run) idx x runs) (skipped size (slot_name pages k) run idx m (outside_first out))
      ∙ stays (next k run) idx m runs (first + run.count) chained.3 (outside_rest out)
    where
      outside_first : IsOutside first (run.count + places_in runs) idx → IsOutside run.first run.count idx
      outside_first (inl low) = inl (omega (arith, chained.0))
      outside_first (inr high) = inr (omega (arith, chained.0))

      outside_rest : IsOutside first (run.count + places_in runs) idx → IsOutside (first + run.count) (places_in runs) idx
      outside_rest (inl low) = inl (omega arith)
      outside_rest (inr high) = inr (omega arith)

  -- a place of the first run
  own_first : (k i : ℕ) (m : Option Mapping) (run : Run) (runs : List Run) (first : ℕ) → IsChained first (run ∷ runs) → i < run.count
      → first + i < pages_of size
      → IsNewMapping (after k (first + i) m (run ∷ runs)) (run.block + i)
  own_first k i m run runs first chained small inside = record {
    by = set_here size (slot_name pages k) run (first + i);
    is =
        ap (λ (x : Option Mapping). after (next k run) (first + i) x runs) (set_in_range size (slot_name pages k) run (first + i) m
        (omega (arith, chained.0)) (omega (arith, chained.0)))
        ∙ stays (next k run) (first + i) (Some (set_here size (slot_name pages k) run (first + i))) runs (first + run.count) chained.3
        (inl (omega arith))
        ∙ uncut size (first + i) (Some (set_here size (slot_name pages k) run (first + i))) inside;
    page = place;
    flag = refl;
    mask = refl;
  }
    where
      place : run.block + (first + i - run.first) ≡ run.block + i
      place = omega (arith, chained.0)

  -- each place of the runs is mapped to its page
  pub runs-own : (k i : ℕ) (m : Option Mapping) (runs : List Run) (first : ℕ) → IsChained first runs → i < places_in runs
      → first + places_in runs ≤ pages_of size
      → IsNewMapping (after k (first + i) m runs) (block_at runs i)
  runs-own k i m [] first chained small inside = absurd (omega arith)
  runs-own k i m (run ∷ runs) first chained small inside = by_run (cases_lt i run.count)
      (λ past. runs-own (next k run) (i - run.count) (remapped (first + i) m (here size (slot_name pages k) run)) runs (first + run.count) chained.3
      (omega arith) (omega arith))
    where
      block_later : run.count ≤ i → block_at (run ∷ runs) i ≡ block_at runs (i - run.count)
      block_later le = let whole : i ≡ run.count + (i - run.count) = omega arith in ap (block_at (run ∷ runs)) whole ∙ block_at-later run runs
          (i - run.count)

      by_run : (i < run.count) ⊎ (run.count ≤ i)
          → (run.count ≤ i → IsNewMapping (after (next k run) (first + run.count + (i - run.count))
          (remapped (first + i) m (here size (slot_name pages k) run)) runs) (block_at runs (i - run.count)))
          → IsNewMapping (after k (first + i) m (run ∷ runs)) (block_at (run ∷ runs) i)
      by_run (inl lt) later = subst (IsNewMapping (after k (first + i) m (run ∷ runs))) (sym (block_at-here run runs i lt))
          (own_first k i m run runs first chained lt (omega arith))
      by_run (inr le) later =
          let same : first + run.count + (i - run.count) ≡ first + i = omega arith in
          subst (IsNewMapping (after k (first + i) m (run ∷ runs))) (sym (block_later le))
          (subst (λ (idx : ℕ). IsNewMapping (after (next k run) idx (remapped (first + i) m (here size (slot_name pages k) run)) runs)
          (block_at runs (i - run.count))) same (later le))

-- the size that the items tell
pub size_after-runs : (n size : ℕ) (run : Run) (runs : List Run) → size_after n (run_items (run ∷ runs) size) ≡ size
size_after-runs n size run [] = refl
size_after-runs n size run (next ∷ runs) = size_after-runs size size next runs

-- each item is one slot
pub length-spelled-runs : (size : ℕ) (runs : List Run) → length (spelled (run_items runs size)) ≡ length runs
unfolding spelling
length-spelled-runs size [] = refl
length-spelled-runs size (run ∷ runs) =
    omega (arith, length-spelled-cons (run_item size run) (run_items runs size), length-spelled-runs size runs)

-- the items are within the ranges of their spelling
pub runs-spelled : (size : ℕ) (runs : List Run) (first : ℕ) → IsChained first runs → first + places_in runs ≤ pages_of size → size ≤ 16777216
    → All IsSpelled (run_items runs size)
runs-spelled size [] first chained inside small = All-nil IsSpelled
runs-spelled size (run ∷ runs) first chained inside small =
    All-cons IsSpelled (run_item size run) (run_items runs size) (chained.1, chained.2, in_size chained.0, small, pow_pos run.count)
    (runs-spelled size runs (first + run.count) chained.3 (omega arith) small)
  where
    in_size : run.first ≡ first → run.first + run.count ≤ pages_of size
    in_size e = omega arith

-- they may stand in the log of a file, if their pages lie in the data area
pub runs-standing : (g : Geometry) (ino size : ℕ) (runs : List Run) (first : ℕ) → IsChained first runs
    → ((i : ℕ) → i < places_in runs → InData g (block_at runs i)) → All (MayStand g (suc ino)) (run_items runs size)
runs-standing g ino size [] first chained in_data = All-nil (MayStand g (suc ino))
runs-standing g ino size (run ∷ runs) first chained in_data =
    All-cons (MayStand g (suc ino)) (run_item size run) (run_items runs size) (
      at_place 0 run.block (omega (arith, chained.1)) (omega arith),
      at_place (run.count - 1) (run.block + run.count - 1) (omega (arith, chained.1))
          (omega (arith, chained.1)),
    )
    (runs-standing g ino size runs (first + run.count) chained.3 (λ i lt. subst (InData g) (block_at-later run runs i)
    (in_data (run.count + i) (omega arith))))
  where
    at_place : (i page : ℕ) → i < run.count → run.block + i ≡ page → InData g page
    at_place i page lt e = subst (InData g) (block_at-here run runs i lt ∙ e) (in_data i (omega arith))

-- the size of a log that grows
pub size_after-append : (n : ℕ) (xs ys : List LogItem) → size_after n (xs ++ ys) ≡ size_after (size_after n xs) ys
size_after-append n [] ys = refl
size_after-append n (Write first c block size flag mask ∷ xs) ys = size_after-append size xs ys
size_after-append n (Size size ∷ xs) ys = size_after-append size xs ys
size_after-append n (Add ino name ∷ xs) ys = size_after-append n xs ys
size_after-append n (Forget name ∷ xs) ys = size_after-append n xs ys

pub size-grown : (old new : Log) (grown : IsGrown old new) → size_of new ≡ size_after (size_of old) grown.more
unfolding size_of
size-grown old new grown = ap (size_after 0) grown.items ∙ size_after-append 0 old.items grown.more
