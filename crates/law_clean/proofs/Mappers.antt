-- The items of a log that map its places.
use Rattle.std.proofs.Common.{◌≡◌, ◌≢◌, ◌⊎◌, inl, inr, ⊎_elim, ℕ, ◌+◌, ◌-◌, ◌/◌, ◌%◌, ◌<◌, ◌≤◌, Bool, true, false, List, [], ◌∷◌, length, refl, sym, ◌∙◌, ap, subst, arith}
use Rattle.std.specs.Prelude.{Option, Some, None, ◌&&◌, nat_le, nat_lt, if◌then◌else◌, slice_index}
use Rattle.std.proofs.lemmas.Bool.Decides.{nat_tests}
use Rattle.pm_layout.specs.declared.Geometry.{Geometry}
use Rattle.log_entry.specs.Spelling.{spelling, spelled}
use Rattle.log_entry.specs.declared.item.Flag.{Flag}
use Rattle.log_entry.specs.declared.item.LogItem.{LogItem}
use Rattle.log_entry.specs.declared.item.LogItem.TheVariants.{Write, Size, Add, Forget}
use Rattle.log_entry.proofs.Spelled.{length-spelled-cons, spelling_some}
use Rattle.dn_model.specs.Log.{Log, IsPaged, Placed, placed, placed_from, slot_name, count}
use Rattle.dn_model.specs.Maps.{Mapping, mapping, remapped, mapped_after}
use Rattle.dn_model.proofs.Append.{same_index}
use Rattle.law_write.proofs.MappedPlaces.{cut_some}
use Rattle.law_clean.proofs.Among.{Among}

-- this Write maps the place so
pub record Maps (p : Placed) (idx : ℕ) (m : Mapping) : Type 0 where
  pub first : ℕ
  pub count : ℕ
  pub block : ℕ
  pub size : ℕ
  pub item_is : p.item ≡ Write first count block size m.flag m.mask
  pub low : first ≤ idx
  pub high : idx < first + count
  pub block_is : m.block ≡ block + (idx - first)
  pub bit_is : m.bit ≡ idx - first
  pub slot_is : m.slot ≡ p.slot

-- one of these items does
pub record IsMapped (ps : List Placed) (idx : ℕ) (m : Mapping) : Type 0 where
  pub by : Placed
  pub among : Among by ps
  pub maps : Maps by idx m

later : (p : Placed) (ps : List Placed) (idx : ℕ) (m : Mapping) → IsMapped ps idx m → IsMapped (p ∷ ps) idx m
later p ps idx m is = record { by = is.by; among = inr is.among; maps = is.maps }

module _ (idx first n block size mask slot : ℕ) (flag : Flag) (ps : List Placed) (m : Option Mapping) (x : Mapping) where
  abbrev here : Mapping
  here = record { block = block + (idx - first); slot = slot; bit = idx - first; flag = flag; mask = mask }

  abbrev item : Placed
  item = record { slot = slot; item = Write first n block size flag mask }

  by_range : (b : Bool) → (nat_le first idx && nat_lt idx (first + n)) ≡ b → (if b then Some here else m) ≡ Some x
      → IsMapped (item ∷ ps) idx x ⊎ (m ≡ Some x)
  by_range true t e =
      let same : here ≡ x = cc in
      inl (record {
        by = item;
        among = inl refl;
        maps = record {
          first = first;
          count = n;
          block = block;
          size = size;
          item_is = ap (λ (y : Mapping). Write first n block size y.flag y.mask) same;
          low = grind (arith, nat_tests);
          high = grind (arith, nat_tests);
          block_is = sym (ap (λ (y : Mapping). y.block) same);
          bit_is = sym (ap (λ (y : Mapping). y.bit) same);
          slot_is = sym (ap (λ (y : Mapping). y.slot) same);
        };
      })
  by_range false t e = inr e

  set_or_kept : remapped idx m item ≡ Some x → IsMapped (item ∷ ps) idx x ⊎ (m ≡ Some x)
  set_or_kept e = by_range (nat_le first idx && nat_lt idx (first + n)) refl (cut_some size idx _ x e)

-- a mapped place was mapped by an item, or before them all
by_items : (idx : ℕ) (pages : List ℕ) (k : ℕ) (m : Option Mapping) (items : List LogItem) (x : Mapping)
    → mapped_after idx m (placed_from pages k items) ≡ Some x → IsMapped (placed_from pages k items) idx x ⊎ (m ≡ Some x)
by_items idx pages k m [] x e = inr e
by_items idx pages k m (Write first n block size flag mask ∷ items) x e =
    let rest : List Placed = placed_from pages (k + length (spelling (Write first n block size flag mask))) items in
    let one : Placed = record { slot = slot_name pages k; item = Write first n block size flag mask } in
    ⊎_elim (λ (is : IsMapped rest idx x). inl (later one rest idx x is)) (set_or_kept idx first n block size mask (slot_name pages k) flag rest m x)
    (by_items idx pages (k + length (spelling (Write first n block size flag mask))) (remapped idx m one) items x e)
by_items idx pages k m (Size size ∷ items) x e =
    let rest : List Placed = placed_from pages (k + length (spelling (Size size))) items in
    let one : Placed = record { slot = slot_name pages k; item = Size size } in
    ⊎_elim (λ (is : IsMapped rest idx x). inl (later one rest idx x is)) (λ kept. inr (cut_some size idx m x kept))
    (by_items idx pages (k + length (spelling (Size size))) (remapped idx m one) items x e)
by_items idx pages k m (Add ino name ∷ items) x e =
    let rest : List Placed = placed_from pages (k + length (spelling (Add ino name))) items in
    ⊎_elim (λ (is : IsMapped rest idx x). inl (later (record { slot = slot_name pages k; item = Add ino name }) rest idx x is)) (λ kept. inr kept)
    (by_items idx pages (k + length (spelling (Add ino name))) m items x e)
by_items idx pages k m (Forget name ∷ items) x e =
    let rest : List Placed = placed_from pages (k + length (spelling (Forget name))) items in
    ⊎_elim (λ (is : IsMapped rest idx x). inl (later (record { slot = slot_name pages k; item = Forget name }) rest idx x is)) (λ kept. inr kept)
    (by_items idx pages (k + length (spelling (Forget name))) m items x e)

pub mapped_by : (log : Log) (idx : ℕ) (m : Mapping) → mapping log idx ≡ Some m → IsMapped (placed log) idx m
unfolding mapping
mapped_by log idx m e = ⊎_elim (λ (is : IsMapped (placed log) idx m). is) (λ (none : None ≡ Some m). cc)
    (by_items idx log.pages 0 None log.items m e)

-- items of one slot are one item
module _ (g : Geometry) (log : Log) (paged : IsPaged g log) where
  one_slot : (k l : ℕ) → k < count log → l < count log → slot_name log.pages k ≡ slot_name log.pages l → k ≡ l
  one_slot k l kl ll e =
      let page : slice_index log.pages (k / 63) ≡ slice_index log.pages (l / 63) = omega (arith, e) in
      let place : k % 63 ≡ l % 63 = omega (arith, e) in
      same_index k l (paged.apart (k / 63) (l / 63) (omega (arith, paged.fits)) (omega (arith, paged.fits)) page) place

  -- the place of an item's first slot
  record Offset (k end : ℕ) (p : Placed) : Type 0 where
    at : ℕ
    low : k ≤ at
    high : at < end
    slot_is : p.slot ≡ slot_name log.pages at

  offset : (k : ℕ) (items : List LogItem) (p : Placed) → Among p (placed_from log.pages k items)
      → Offset k (k + length (spelled items)) p
  offset k [] p in' = absurd in'
  offset k (item ∷ items) p (inl e) =
      let long = length-spelled-cons item items in
      let some = spelling_some item in
      record { at = k; low = omega arith; high = omega (arith, long, some); slot_is = sym (ap (λ (q : Placed). q.slot) e) }
  offset k (item ∷ items) p (inr in') =
      let long = length-spelled-cons item items in
      let rest = offset (k + length (spelling item)) items p in' in
      record { at = rest.at; low = omega (arith, rest.low); high = omega (arith, rest.high, long); slot_is = rest.slot_is }

  -- the first slot is no slot of the items after it
  pub first_apart : (k : ℕ) (item : LogItem) (items : List LogItem) (q : Placed) → k + length (spelled (item ∷ items)) ≤ count log
      → Among q (placed_from log.pages (k + length (spelling item)) items) → slot_name log.pages k ≢ q.slot
  first_apart k item items q fits in' e =
      let long = length-spelled-cons item items in
      let some = spelling_some item in
      let at = offset (k + length (spelling item)) items q in' in
      let same : k ≡ at.at = one_slot k at.at (omega (arith, long, some)) (omega (arith, at.high, long)) (e ∙ at.slot_is) in
      omega (arith, same, at.low, some)

  one_item : (k : ℕ) (items : List LogItem) (p q : Placed) → k + length (spelled items) ≤ count log → Among p (placed_from log.pages k items)
      → Among q (placed_from log.pages k items) → p.slot ≡ q.slot → p ≡ q
  one_item k [] p q fits in' also e = absurd in'
  one_item k (item ∷ items) p q fits (inl f) (inl h) e = sym f ∙ h
  one_item k (item ∷ items) p q fits (inl f) (inr also) e = absurd (first_apart k item items q fits also (ap (λ (r : Placed). r.slot) f ∙ e))
  one_item k (item ∷ items) p q fits (inr in') (inl h) e =
      absurd (first_apart k item items p fits in' (ap (λ (r : Placed). r.slot) h ∙ sym e))
  one_item k (item ∷ items) p q fits (inr in') (inr also) e =
      one_item (k + length (spelling item)) items p q (omega (arith, fits, length-spelled-cons item items)) in' also e

  -- the item at the slot of a place's mapping maps it
  pub maps_by : (p : Placed) (idx : ℕ) (m : Mapping) → Among p (placed log) → mapping log idx ≡ Some m → m.slot ≡ p.slot → Maps p idx m
  unfolding count
  maps_by p idx m in' e slot =
      let is = mapped_by log idx m e in
      let same : is.by ≡ p = one_item 0 log.items is.by p (omega arith) is.among in' (sym is.maps.slot_is ∙ slot) in
      subst (λ (q : Placed). Maps q idx m) same is.maps
