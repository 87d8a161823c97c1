-- The mappings and the size of a file, item by item.
use Rattle.std.proofs.Common.{
  ◌≡◌,
  ◌≢◌,
  inl,
  inr,
  ℕ,
  suc,
  ◌+◌,
  ◌-◌,
  ◌<◌,
  ◌≤◌,
  Bool,
  true,
  false,
  List,
  [],
  ◌∷◌,
  length,
  map,
  get_or,
  refl,
  sym,
  ◌∙◌,
  ap,
  arith,
}
use Rattle.std.specs.Prelude.{◌&&◌, nat_le, nat_lt, if◌then◌else◌, drop, Option, Some, None}
use Rattle.std.specs.Option.{option_map}
use Rattle.std.specs.Ordering.{nat_cmp}
use Rattle.std.specs.FinMap.{get, empty, get-empty}
use Rattle.std.proofs.Math.Seq.{drop-cons}
use Rattle.std.proofs.lemmas.List.{drop_all}
use Rattle.std.proofs.lemmas.Bool.{cases_eq, cases_lt}
use Rattle.std.proofs.lemmas.Bool.Decides.{nat_tests}
use Rattle.log_entry.specs.Spelling.{pages_of, spelling}
use Rattle.log_entry.specs.declared.item.Flag.{Flag}
use Rattle.log_entry.specs.declared.item.LogItem.{LogItem}
use Rattle.log_entry.specs.declared.item.LogItem.TheVariants.{Write, Size, Add, Forget}
use Rattle.file_index.specs.declared.page_map.Mapping.{Mapping}
use Rattle.file_index.specs.Index.{Index, Puts, CutsOff}
use Rattle.dn_model.specs.Log.{Log, Placed, placed, placed_from}
use Rattle.dn_model.specs.Maps.{Mapping as DiskMapping, mapping, mapped_after, remapped, cut_to, size_of, size_after}
use Rattle.log_walk.specs.Items.{seen, item_of}
use Rattle.log_walk.specs.declared.items.Placed.{Placed as PlacedItem}
use Rattle.file_content.specs.Content.{kept}
use Rattle.file_scan.specs.Index.{SetsPlaces, set_mapping, Remaps, IsIndexOf}
use Rattle.file_scan.specs.IndexLoop.{SetsTo, IsIndexedTo}
use Rattle.file_scan.specs.declared.index.FileIndex.{FileIndex}

lt_true : (a b : ℕ) → a < b → nat_lt a b ≡ true
lt_true a b lt = grind (arith, nat_tests)

lt_false : (a b : ℕ) → b ≤ a → nat_lt a b ≡ false
lt_false a b le = grind (arith, nat_tests)

in_run : (first n idx : ℕ) → first ≤ idx → idx < first + n → (nat_le first idx && nat_lt idx (first + n)) ≡ true
in_run first n idx low high = grind (arith, nat_tests)

before_run : (first n idx : ℕ) → idx < first → (nat_le first idx && nat_lt idx (first + n)) ≡ false
before_run first n idx lt = grind (arith, nat_tests)

past_run : (first n idx : ℕ) → first + n ≤ idx → (nat_le first idx && nat_lt idx (first + n)) ≡ false
past_run first n idx le = grind (arith, nat_tests)

module _ (slot first block : ℕ) where
  set_inside : (n idx : ℕ) (m : Option Mapping) → first ≤ idx → idx < first + n → set_mapping slot first n block idx m ≡ Some
      (record { block = block + (idx - first); slot = slot; bit = idx - first })
  set_inside n idx m low high = ap (λ (b : Bool). if b then Some (record { block = block + (idx - first); slot = slot; bit = idx - first }) else m)
      (in_run first n idx low high)

  set_before : (n idx : ℕ) (m : Option Mapping) → idx < first → set_mapping slot first n block idx m ≡ m
  set_before n idx m lt = ap (λ (b : Bool). if b then Some (record { block = block + (idx - first); slot = slot; bit = idx - first }) else m)
      (before_run first n idx lt)

  set_past : (n idx : ℕ) (m : Option Mapping) → first + n ≤ idx → set_mapping slot first n block idx m ≡ m
  set_past n idx m le = ap (λ (b : Bool). if b then Some (record { block = block + (idx - first); slot = slot; bit = idx - first }) else m)
      (past_run first n idx le)

  -- one place more
  set_more : (k idx : ℕ) (m : Option Mapping) → idx ≢ first + k → set_mapping slot first k block idx m ≡ set_mapping slot first (k + 1) block idx m
  set_more k idx m ne = elim (cases_lt idx first) [
    | inl before ↦ set_before k idx m before ∙ sym (set_before (k + 1) idx m before)
    | inr from ↦ elim (cases_lt idx (first + k)) [
      | inl inside ↦ set_inside k idx m from inside ∙ sym (set_inside (k + 1) idx m from (omega arith))
      | inr past ↦ set_past k idx m past ∙ sym (set_past (k + 1) idx m (omega arith))
    ]
  ]

  pub sets-none : (count : ℕ) (old : Index nat_cmp Mapping) → count ≤ old.room → SetsTo slot first count block 0 old old
  sets-none count old room = record {
    so_far = λ idx. sym (none idx (get old.map idx));
    room = omega arith;
  }
    where
      none : (idx : ℕ) (m : Option Mapping) → set_mapping slot first 0 block idx m ≡ m
      none idx m = elim (cases_lt idx first) [
        | inl before ↦ set_before 0 idx m before
        | inr from ↦ set_past 0 idx m (omega arith)
      ]

  pub sets-next : (count k : ℕ) (old mid new : Index nat_cmp Mapping) → SetsTo slot first count block k old mid
      → Puts (first + k) (record { block = block + k; slot = slot; bit = k }) mid new → SetsTo slot first count block (k + 1) old new
  sets-next count k old mid new so_far puts = record {
    so_far = λ idx. elim (cases_eq idx (first + k)) [
      | inl e ↦
          let n : idx - first ≡ k = omega arith in
          ap (get new.map) e ∙ puts.there ∙ sym (ap (λ (i : ℕ). Some (record { block = block + i; slot = slot; bit = i })) n) ∙ sym
          (set_inside (k + 1) idx (get old.map idx) (omega arith) (omega arith))
      | inr ne ↦ puts.others idx ne ∙ so_far.so_far idx ∙ set_more k idx (get old.map idx) ne
    ];
    room = omega (arith, so_far.room, puts.room);
  }

-- a mapping that is cut
cut_gone : (size idx : ℕ) (m : Option DiskMapping) → pages_of size ≤ idx → cut_to size idx m ≡ None
cut_gone size idx m le = ap (λ (b : Bool). if b then m else None) (lt_false idx (pages_of size) le)

cut_stays : (size idx : ℕ) (m : Option DiskMapping) → idx < pages_of size → cut_to size idx m ≡ m
cut_stays size idx m lt = ap (λ (b : Bool). if b then m else None) (lt_true idx (pages_of size) lt)

-- cutting what is kept
cut_kept : (size idx : ℕ) (m : Option DiskMapping) (old new : Index nat_cmp Mapping) → CutsOff (pages_of size) old new → get old.map idx ≡ option_map
    kept m
    → get new.map idx ≡ option_map kept (cut_to size idx m)
cut_kept size idx m old new cuts is = elim (cases_lt idx (pages_of size)) [
  | inl below ↦ cuts.below idx below ∙ is ∙ sym (ap (option_map kept) (cut_stays size idx m below))
  | inr past ↦ cuts.gone idx past ∙ sym (ap (option_map kept) (cut_gone size idx m past))
]

-- mapping what is kept
set_kept : (slot first count block idx : ℕ) (flag : Flag) (mask : ℕ) (m : Option DiskMapping)
    → set_mapping slot first count block idx (option_map kept m)
    ≡ option_map kept (if nat_le first idx && nat_lt idx (first + count) then Some
    (record { block = block + (idx - first); slot = slot; bit = idx - first; flag = flag; mask = mask }) else m)
set_kept slot first count block idx flag mask m = by_test (nat_le first idx && nat_lt idx (first + count))
  where
    by_test : (b : Bool) → (if b then Some (record { block = block + (idx - first); slot = slot; bit = idx - first }) else option_map kept m)
        ≡ option_map kept (if b then Some (record { block = block + (idx - first); slot = slot; bit = idx - first; flag = flag; mask = mask }) else m)
    by_test true = refl
    by_test false = refl

pub remaps-write : (slot first count block size : ℕ) (flag : Flag) (mask : ℕ) (old new : FileIndex) (mid mid' : Index nat_cmp Mapping)
    → ((idx : ℕ) → get mid.map idx ≡ get old.map.map idx)
    → SetsPlaces slot first count block mid mid' → CutsOff (pages_of size) mid' new.map → new.size ≡ size
    → Remaps (record { slot = slot; item = Write first count block size flag mask }) old new
remaps-write slot first count block size flag mask old new mid mid' reserved sets cuts is = record {
  size = is;
  places = λ idx m kept_old. cut_kept size idx _ mid' new.map cuts (sets idx ∙ ap (set_mapping slot first count block idx) (reserved idx ∙ kept_old) ∙
      set_kept slot first count block idx flag mask m);
}

pub remaps-size : (slot size : ℕ) (old new : FileIndex) → CutsOff (pages_of size) old.map new.map → new.size ≡ size
    → Remaps (record { slot = slot; item = Size size }) old new
remaps-size slot size old new cuts is = record {
  size = is;
  places = λ idx m kept_old. cut_kept size idx m old.map new.map cuts kept_old;
}

-- sizes, item by item
size_first : (n : ℕ) (item : LogItem) (items : List LogItem) → size_after (size_after n (item ∷ [])) items ≡ size_after n (item ∷ items)
size_first n (Write first count block size flag mask) items = refl
size_first n (Size size) items = refl
size_first n (Add ino name) items = refl
size_first n (Forget name) items = refl

pub indexed-none : (items : List PlacedItem) (index : FileIndex) → index.size ≡ 0 → index.map.map ≡ empty → IsIndexedTo items 0 index
indexed-none items index none is = record {
  size = ap (λ (n : ℕ). size_after n (map item_of items)) none;
  places = λ idx. record { by = None; is = ap (λ m. get m idx) is ∙ get-empty nat_cmp idx; rest = refl };
}

pub indexed-next : (items : List PlacedItem) (i : ℕ) (p : PlacedItem) (old new : FileIndex) → i < length items → p ≡ get_or items i p
    → IsIndexedTo items i old → Remaps (seen p) old new → IsIndexedTo items (i + 1) new
indexed-next items i p old new lt here so_far remaps = record {
  size = ap (λ (n : ℕ). size_after n (map item_of (drop (i + 1) items))) remaps.size
      ∙ size_first old.size p.item (map item_of (drop (i + 1) items))
      ∙ ap (λ (ps : List PlacedItem). size_after old.size (map item_of ps)) (sym drops)
      ∙ so_far.size;
  places = λ idx. let before = so_far.places idx in record {
    by = remapped idx before.by (seen p);
    is = remaps.places idx before.by before.is;
    rest = ap (λ (ps : List PlacedItem). mapped_after idx before.by (map seen ps)) (sym drops) ∙ before.rest;
  };
}
  where
    one : suc i ≡ i + 1
    one = omega arith

    drops : drop i items ≡ p ∷ drop (i + 1) items
    drops = drop-cons items i p lt ∙ ap (λ (q : PlacedItem). q ∷ drop (suc i) items) (sym here) ∙ ap (λ (n : ℕ). p ∷ drop n items) one

-- the items of placed items
placed-items : (pages : List ℕ) (k : ℕ) (items : List LogItem) → map (λ (p : Placed). p.item) (placed_from pages k items) ≡ items
placed-items pages k [] = refl
placed-items pages k (item ∷ items) = ap (λ (xs : List LogItem). item ∷ xs) (placed-items pages (k + length (spelling item)) items)

seen-items : (items : List PlacedItem) → map (λ (p : Placed). p.item) (map seen items) ≡ map item_of items
seen-items [] = refl
seen-items (p ∷ ps) = ap (λ (xs : List LogItem). p.item ∷ xs) (seen-items ps)

pub items_of : (items : List PlacedItem) (log : Log) → map seen items ≡ placed log → map item_of items ≡ log.items
items_of items log is = sym (seen-items items) ∙ ap (map (λ (p : Placed). p.item)) is ∙ placed-items log.pages 0 log.items

pub indexed-all : (items : List PlacedItem) (i : ℕ) (index : FileIndex) → length items ≤ i → IsIndexedTo items i index → (log : Log)
    → map seen items ≡ placed log → IsIndexOf log index
unfolding mapping size_of
indexed-all items i index all so_far log is = record {
  size_is = ap (size_after 0) (sym (items_of items log is)) ∙ sym so_far.size ∙ ap (λ (ps : List PlacedItem). size_after index.size (map item_of ps))
      (drop_all i items all);
  places = λ idx. let here = so_far.places idx in
      here.is ∙ ap (option_map kept) (ap (λ (ps : List PlacedItem). mapped_after idx here.by (map seen ps)) (sym (drop_all i items all)) ∙ here.rest ∙
      ap (mapped_after idx None) is);
}
