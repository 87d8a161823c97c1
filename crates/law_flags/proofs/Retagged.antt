-- A Write of a log has another flag or mask: the places that it maps have it too, and nothing else differs.
use Rattle.std.proofs.Common.{
  ◌≡◌,
  ◌≢◌,
  ℕ,
  ◌+◌,
  ◌-◌,
  ◌/◌,
  ◌%◌,
  ◌<◌,
  ◌≤◌,
  Bool,
  true,
  false,
  List,
  [],
  ◌∷◌,
  ◌++◌,
  length,
  refl,
  sym,
  ◌∙◌,
  ap,
  arith,
  zero-add,
  length-append,
}
use Rattle.std.specs.Prelude.{if◌then◌else◌, nat_le, nat_lt, ◌&&◌, slice_index, Option, Some, None, option_map}
use Rattle.std.proofs.lemmas.List.Concat.{flat_map-append}
use Rattle.pm_layout.specs.declared.Geometry.{Geometry}
use Rattle.log_entry.specs.Name.{same_name}
use Rattle.log_entry.specs.Spelling.{spelling, spelled, pages_of}
use Rattle.log_entry.specs.declared.item.Flag.{Flag}
use Rattle.log_entry.specs.declared.item.LogItem.{LogItem}
use Rattle.log_entry.specs.declared.item.LogItem.TheVariants.{Write, Size, Add, Forget}
use Rattle.log_entry.proofs.Spelled.{length-spelled-cons, spelling_some}
use Rattle.dn_model.specs.Log.{Log, IsPaged, count, slot_name, placed_from}
use Rattle.dn_model.specs.Maps.{Mapping, mapping, mapped_after, remapped, cut_to, size_of, size_after}
use Rattle.dn_model.specs.Files.{named_after}
use Rattle.dn_model.proofs.Append.{same_index}
use Rattle.inode_log.specs.Reflags.{IsWrite, Reflags}
use Rattle.law_write.proofs.Mapped.{mapped_after-append, placed_from-append}
use Rattle.law_log_swap.specs.Relogged.{block_of, KeepsPlaces}

-- slots of one log with one name are one slot
pub one_slot : (g : Geometry) (log : Log) → IsPaged g log → (k l : ℕ) → k < count log → l < count log → slot_name log.pages k ≡ slot_name log.pages l
    → k ≡ l
one_slot g log paged k l kl ll e =
    let page : slice_index log.pages (k / 63) ≡ slice_index log.pages (l / 63) = omega (arith, e) in
    let place : k % 63 ≡ l % 63 = omega (arith, e) in
    same_index k l (paged.apart (k / 63) (l / 63) (omega (arith, paged.fits)) (omega (arith, paged.fits)) page) place

length-spelled-append : (xs ys : List LogItem) → length (spelled (xs ++ ys)) ≡ length (spelled xs) + length (spelled ys)
length-spelled-append xs ys = ap length (flat_map-append spelling xs ys) ∙ length-append (spelled xs) (spelled ys)

-- a change of the flag and mask of Writes, and what it makes of a mapping by the item at this slot
pub record IsRetag (change : LogItem → LogItem) (slot : ℕ) (r : Mapping → Mapping) : Type 0 where
  pub new_flag : Flag → Flag
  pub new_mask : ℕ → ℕ
  pub of_write : (first n block size : ℕ) (flag : Flag) (mask : ℕ) → change (Write first n block size flag mask) ≡ Write first n block size
      (new_flag flag) (new_mask mask)
  pub other : (m : Mapping) → m.slot ≢ slot → r m ≡ m
  pub here : (block bit : ℕ) (flag : Flag) (mask : ℕ) → r (record { block = block; slot = slot; bit = bit; flag = flag; mask = mask }) ≡ record
      { block = block; slot = slot; bit = bit; flag = new_flag flag; mask = new_mask mask }
  pub block : (m : Mapping) → (r m).block ≡ m.block

module _ (r : Mapping → Mapping) where
  cut_map : (size idx : ℕ) (m : Option Mapping) → cut_to size idx (option_map r m) ≡ option_map r (cut_to size idx m)
  cut_map size idx m = elim (nat_lt idx (pages_of size)) as (λ b. (if b then option_map r m else None) ≡ option_map r (if b then m else None))
      [ true ↦ refl | false ↦ refl ]

  chosen : (b : Bool) (x y : Mapping) (m : Option Mapping) → r x ≡ y → (if b then Some y else option_map r m) ≡ option_map r (if b then Some x else m)
  chosen true x y m e = ap Some (sym e)
  chosen false x y m e = refl

  -- an item whose mapping becomes that of another item
  write_map : (idx slot first n block size : ℕ) (flag flag' : Flag) (mask mask' : ℕ) (m : Option Mapping)
      → r (record { block = block + (idx - first); slot = slot; bit = idx - first; flag = flag; mask = mask }) ≡ record
      { block = block + (idx - first); slot = slot; bit = idx - first; flag = flag'; mask = mask' }
      → remapped idx (option_map r m) (record { slot = slot; item = Write first n block size flag' mask' }) ≡ option_map r
      (remapped idx m (record { slot = slot; item = Write first n block size flag mask }))
  write_map idx slot first n block size flag flag' mask mask' m e =
      ap (cut_to size idx) (chosen (nat_le first idx && nat_lt idx (first + n))
      (record { block = block + (idx - first); slot = slot; bit = idx - first; flag = flag; mask = mask })
      (record { block = block + (idx - first); slot = slot; bit = idx - first; flag = flag'; mask = mask' }) m e)
      ∙ cut_map size idx (if nat_le first idx && nat_lt idx (first + n) then Some
      (record { block = block + (idx - first); slot = slot; bit = idx - first; flag = flag; mask = mask }) else m)

module _ (change : LogItem → LogItem) (slot : ℕ) (r : Mapping → Mapping) (is : IsRetag change slot r) where
  -- another item
  other_item : (idx : ℕ) (m : Option Mapping) (at : ℕ) (item : LogItem) → at ≢ slot → remapped idx (option_map r m)
      (record { slot = at; item = item }) ≡ option_map r (remapped idx m (record { slot = at; item = item }))
  other_item idx m at (Write first n block size flag mask) ne = write_map r idx at first n block size flag flag mask mask m (is.other _ ne)
  other_item idx m at (Size size) ne = cut_map r size idx m
  other_item idx m at (Add ino name) ne = refl
  other_item idx m at (Forget name) ne = refl

  this_item : (idx : ℕ) (m : Option Mapping) (item : LogItem) → IsWrite item → remapped idx (option_map r m)
      (record { slot = slot; item = change item }) ≡ option_map r (remapped idx m (record { slot = slot; item = item }))
  this_item idx m (Write first n block size flag mask) write =
      ap (λ (x : LogItem). remapped idx (option_map r m) (record { slot = slot; item = x })) (is.of_write first n block size flag mask)
      ∙ write_map r idx slot first n block size flag (is.new_flag flag) mask (is.new_mask mask) m (is.here (block + (idx - first)) (idx - first) flag
      mask)
  this_item idx m (Size size) write = absurd write
  this_item idx m (Add ino name) write = absurd write
  this_item idx m (Forget name) write = absurd write

  -- items at other slots
  other_items : (pages : List ℕ) (idx k : ℕ) (xs : List LogItem) (m : Option Mapping) → ((j : ℕ) → k ≤ j → j < k + length (spelled xs)
      → slot_name pages j ≢ slot)
      → mapped_after idx (option_map r m) (placed_from pages k xs) ≡ option_map r (mapped_after idx m (placed_from pages k xs))
  other_items pages idx k [] m far = refl
  other_items pages idx k (x ∷ xs) m far =
      let long = length-spelled-cons x xs in
      let some = spelling_some x in
      ap (λ (o : Option Mapping). mapped_after idx o (placed_from pages (k + length (spelling x)) xs))
      (other_item idx m (slot_name pages k) x (far k (omega arith) (omega (arith, long, some))))
      ∙ other_items pages idx (k + length (spelling x)) xs (remapped idx m (record { slot = slot_name pages k; item = x }))
      (λ j low high. far j (omega arith) (omega (arith, long)))

  one_slot_each : (item : LogItem) → IsWrite item → (length (spelling item) ≡ 1) × (length (spelling (change item)) ≡ 1)
  unfolding spelling
  one_slot_each (Write first n block size flag mask) write = (
    refl,
    ap (λ (x : LogItem). length (spelling x))
        (is.of_write first n block size flag mask),
  )
  one_slot_each (Size size) write = absurd write
  one_slot_each (Add ino name) write = absurd write
  one_slot_each (Forget name) write = absurd write

  size_same_item : (item : LogItem) (s : ℕ) (rest : List LogItem) → IsWrite item → size_after s (change item ∷ rest) ≡ size_after s (item ∷ rest)
  size_same_item (Write first n block size flag mask) s rest write = ap (λ (x : LogItem). size_after s (x ∷ rest))
      (is.of_write first n block size flag mask)
  size_same_item (Size size) s rest write = absurd write
  size_same_item (Add ino name) s rest write = absurd write
  size_same_item (Forget name) s rest write = absurd write

  size_same : (s : ℕ) (front : List LogItem) (item : LogItem) (rest : List LogItem) → IsWrite item → size_after s (front ++ change item ∷ rest) ≡
      size_after s (front ++ item ∷ rest)
  size_same s [] item rest write = size_same_item item s rest write
  size_same s (Write first n block size flag mask ∷ front) item rest write = size_same size front item rest write
  size_same s (Size size ∷ front) item rest write = size_same size front item rest write
  size_same s (Add ino name ∷ front) item rest write = size_same s front item rest write
  size_same s (Forget name ∷ front) item rest write = size_same s front item rest write

  names_same_item : (name : List ℕ) (found : Option ℕ) (item : LogItem) (rest : List LogItem) → IsWrite item
      → named_after name found (change item ∷ rest) ≡ named_after name found (item ∷ rest)
  names_same_item name found (Write first n block size flag mask) rest write = ap (λ (x : LogItem). named_after name found (x ∷ rest))
      (is.of_write first n block size flag mask)
  names_same_item name found (Size size) rest write = absurd write
  names_same_item name found (Add ino new) rest write = absurd write
  names_same_item name found (Forget old) rest write = absurd write

  names_same : (name : List ℕ) (found : Option ℕ) (front : List LogItem) (item : LogItem) (rest : List LogItem) → IsWrite item
      → named_after name found (front ++ change item ∷ rest) ≡ named_after name found (front ++ item ∷ rest)
  names_same name found [] item rest write = names_same_item name found item rest write
  names_same name found (Write first n block size flag mask ∷ front) item rest write = names_same name found front item rest write
  names_same name found (Size size ∷ front) item rest write = names_same name found front item rest write
  names_same name found (Add ino new ∷ front) item rest write = names_same name (if same_name new name then Some ino else found) front item rest write
  names_same name found (Forget old ∷ front) item rest write = names_same name (if same_name old name then None else found) front item rest write

  -- the log
  module _ (g : Geometry) (old new : Log) (paged : IsPaged g old) (reflags : Reflags change slot old new) where
    abbrev front : List LogItem
    front = reflags.front

    abbrev rest : List LogItem
    rest = reflags.rest

    abbrev place : ℕ
    place = length (spelled front)

    count_old : count old ≡ place + length (spelled (reflags.item ∷ rest))
    unfolding count
    count_old = ap (λ (xs : List LogItem). length (spelled xs)) reflags.items ∙ length-spelled-append front (reflags.item ∷ rest)

    one : (length (spelling reflags.item) ≡ 1) × (length (spelling (change reflags.item)) ≡ 1)
    one = one_slot_each reflags.item reflags.is_write

    long : length (spelled (reflags.item ∷ rest)) ≡ 1 + length (spelled rest)
    long = omega (arith, length-spelled-cons reflags.item rest, one.0)

    far : (j : ℕ) → j < count old → j ≢ place → slot_name old.pages j ≢ slot
    far j lt ne e = ne (one_slot g old paged j place lt (omega (arith, count_old, long)) (e ∙ reflags.slot_is))

    -- the mapping before the item
    abbrev before : ℕ → Option Mapping
    before idx = mapped_after idx None (placed_from old.pages 0 front)

    split : (idx : ℕ) (pages : List ℕ) (item : LogItem) → mapped_after idx None (placed_from pages 0 (front ++ item ∷ rest))
        ≡ mapped_after idx (remapped idx (mapped_after idx None (placed_from pages 0 front)) (record { slot = slot_name pages place; item = item }))
        (placed_from pages (place + length (spelling item)) rest)
    split idx pages item =
        ap (mapped_after idx None) (placed_from-append pages 0 front (item ∷ rest))
        ∙ mapped_after-append idx None (placed_from pages 0 front) (placed_from pages (0 + place) (item ∷ rest))
        ∙ ap (λ (k : ℕ). mapped_after idx (mapped_after idx None (placed_from pages 0 front)) (placed_from pages k (item ∷ rest))) (zero-add place)

    same_before : (idx : ℕ) → before idx ≡ option_map r (before idx)
    same_before idx = other_items old.pages idx 0 front None (λ j low high. far j (omega (arith, high, count_old, long)) (omega (arith, high)))

    pub retagged : (idx : ℕ) → mapping new idx ≡ option_map r (mapping old idx)
    unfolding mapping
    retagged idx =
        ap (λ (ps : List ℕ). mapped_after idx None (placed_from ps 0 new.items)) reflags.pages
        ∙ ap (λ (xs : List LogItem). mapped_after idx None (placed_from old.pages 0 xs)) reflags.items'
        ∙ split idx old.pages (change reflags.item)
        ∙ ap (λ (n : ℕ). mapped_after idx (remapped idx (before idx) (record { slot = slot_name old.pages place; item = change reflags.item }))
        (placed_from old.pages (place + n) rest)) one.1
        ∙ ap (λ (s : ℕ). mapped_after idx (remapped idx (before idx) (record { slot = s; item = change reflags.item }))
        (placed_from old.pages (place + 1) rest)) (sym reflags.slot_is)
        ∙ ap (λ (m : Option Mapping). mapped_after idx (remapped idx m (record { slot = slot; item = change reflags.item }))
        (placed_from old.pages (place + 1) rest)) (same_before idx)
        ∙ ap (λ (m : Option Mapping). mapped_after idx m (placed_from old.pages (place + 1) rest))
        (this_item idx (before idx) reflags.item reflags.is_write)
        ∙ other_items old.pages idx (place + 1) rest (remapped idx (before idx) (record { slot = slot; item = reflags.item }))
        (λ j low high. far j (omega (arith, high, count_old, long)) (omega (arith, low)))
        ∙ ap (λ (s : ℕ). option_map r (mapped_after idx (remapped idx (before idx) (record { slot = s; item = reflags.item }))
        (placed_from old.pages (place + 1) rest))) reflags.slot_is
        ∙ ap (λ (n : ℕ). option_map r (mapped_after idx (remapped idx (before idx) (record { slot = slot_name old.pages place; item = reflags.item }))
        (placed_from old.pages (place + n) rest))) (sym one.0)
        ∙ ap (option_map r) (sym (split idx old.pages reflags.item))
        ∙ ap (λ (xs : List LogItem). option_map r (mapped_after idx None (placed_from old.pages 0 xs))) (sym reflags.items)

    blocks_same : (m : Option Mapping) → block_of (option_map r m) ≡ block_of m
    blocks_same None = refl
    blocks_same (Some m) = ap Some (is.block m)

    pub keeps_places : (ino : ℕ) → KeepsPlaces ino old new
    unfolding size_of
    keeps_places ino = record {
      size = ap (size_after 0) reflags.items' ∙ size_same 0 front reflags.item rest reflags.is_write ∙ ap (size_after 0) (sym reflags.items);
      blocks = λ idx. ap block_of (retagged idx) ∙ blocks_same (mapping old idx);
      names = λ e name. ap (named_after name None) reflags.items' ∙ names_same name None front reflags.item rest reflags.is_write ∙ ap
          (named_after name None) (sym reflags.items);
    }
