-- The item that maps a place of a log.
use Rattle.std.proofs.Common.{◌≡◌, ◌⊎◌, inl, inr, ⊎_elim, ℕ, suc, ◌+◌, ◌-◌, ◌<◌, ◌≤◌, Bool, true, false, List, [], ◌∷◌, length, refl, sym, ap, arith}
use Rattle.std.specs.Prelude.{Contains, Option, Some, None, ◌&&◌, nat_le, nat_lt, if◌then◌else◌}
use Rattle.std.proofs.lemmas.Bool.Decides.{nat_tests}
use Rattle.log_entry.specs.Spelling.{spelling, pages_of}
use Rattle.log_entry.specs.declared.item.Flag.{Flag}
use Rattle.log_entry.specs.declared.item.LogItem.{LogItem}
use Rattle.log_entry.specs.declared.item.LogItem.TheVariants.{Write, Size, Add, Forget}
use Rattle.dn_model.specs.Log.{Log, Placed, placed, placed_from, slot_name}
use Rattle.dn_model.specs.Maps.{Mapping, mapping, remapped, mapped_after}
use Rattle.image_keep.specs.Needed.{IsMappedBy}

record IsBy (ps : List Placed) (idx : ℕ) (m : Mapping) : Type 0 where
  first : ℕ
  count : ℕ
  block : ℕ
  size : ℕ
  listed : Contains ps (record { slot = m.slot; item = Write first count block size m.flag m.mask })
  low : first ≤ idx
  high : idx < first + count
  bit_is : m.bit ≡ idx - first

later : (p : Placed) (ps : List Placed) (idx : ℕ) (m : Mapping) → IsBy ps idx m → IsBy (p ∷ ps) idx m
later p ps idx m is = record {
  first = is.first;
  count = is.count;
  block = is.block;
  size = is.size;
  listed = (suc is.listed.0, omega (arith, is.listed.1), is.listed.2);
  low = is.low;
  high = is.high;
  bit_is = is.bit_is;
}

cut_keeps : (b : Bool) (m : Option Mapping) (x : Mapping) → (if b then m else None) ≡ Some x → m ≡ Some x
cut_keeps true m x e = e
cut_keeps false m x e = cc

module _ (idx first n block size mask slot : ℕ) (flag : Flag) (ps : List Placed) (m : Option Mapping) (x : Mapping) where
  abbrev here : Mapping
  here = record { block = block + (idx - first); slot = slot; bit = idx - first; flag = flag; mask = mask }

  abbrev item : Placed
  item = record { slot = slot; item = Write first n block size flag mask }

  by_range : (b : Bool) → (nat_le first idx && nat_lt idx (first + n)) ≡ b → (if b then Some here else m) ≡ Some x
      → IsBy (item ∷ ps) idx x ⊎ (m ≡ Some x)
  by_range true t e =
      let same : here ≡ x = cc in
      inl (record {
        first = first;
        count = n;
        block = block;
        size = size;
        listed = (0, omega arith, ap (λ (y : Mapping). record { slot = y.slot; item = Write first n block size y.flag y.mask }) same);
        low = grind (arith, nat_tests);
        high = grind (arith, nat_tests);
        bit_is = sym (ap (λ (y : Mapping). y.bit) same);
      })
  by_range false t e = inr e

  set_or_kept : remapped idx m item ≡ Some x → IsBy (item ∷ ps) idx x ⊎ (m ≡ Some x)
  set_or_kept e = by_range (nat_le first idx && nat_lt idx (first + n)) refl (cut_keeps (nat_lt idx (pages_of size)) _ x e)

-- a mapped place was mapped by an item, or before them all
by_items : (idx : ℕ) (pages : List ℕ) (k : ℕ) (m : Option Mapping) (items : List LogItem) (x : Mapping)
    → mapped_after idx m (placed_from pages k items) ≡ Some x → IsBy (placed_from pages k items) idx x ⊎ (m ≡ Some x)
by_items idx pages k m [] x e = inr e
by_items idx pages k m (Write first n block size flag mask ∷ items) x e =
    let rest : List Placed = placed_from pages (k + length (spelling (Write first n block size flag mask))) items in
    let one : Placed = record { slot = slot_name pages k; item = Write first n block size flag mask } in
    ⊎_elim (λ (is : IsBy rest idx x). inl (later one rest idx x is)) (set_or_kept idx first n block size mask (slot_name pages k) flag rest m x)
    (by_items idx pages (k + length (spelling (Write first n block size flag mask))) (remapped idx m one) items x e)
by_items idx pages k m (Size size ∷ items) x e =
    let rest : List Placed = placed_from pages (k + length (spelling (Size size))) items in
    let one : Placed = record { slot = slot_name pages k; item = Size size } in
    ⊎_elim (λ (is : IsBy rest idx x). inl (later one rest idx x is)) (λ kept. inr (cut_keeps (nat_lt idx (pages_of size)) m x kept))
    (by_items idx pages (k + length (spelling (Size size))) (remapped idx m one) items x e)
by_items idx pages k m (Add ino name ∷ items) x e =
    let rest : List Placed = placed_from pages (k + length (spelling (Add ino name))) items in
    ⊎_elim (λ (is : IsBy rest idx x). inl (later (record { slot = slot_name pages k; item = Add ino name }) rest idx x is)) (λ kept. inr kept)
    (by_items idx pages (k + length (spelling (Add ino name))) m items x e)
by_items idx pages k m (Forget name ∷ items) x e =
    let rest : List Placed = placed_from pages (k + length (spelling (Forget name))) items in
    ⊎_elim (λ (is : IsBy rest idx x). inl (later (record { slot = slot_name pages k; item = Forget name }) rest idx x is)) (λ kept. inr kept)
    (by_items idx pages (k + length (spelling (Forget name))) m items x e)

pub mapped_by_item : (log : Log) (idx : ℕ) (m : Mapping) → mapping log idx ≡ Some m → IsMappedBy log idx m
unfolding mapping
mapped_by_item log idx m e = ⊎_elim
    (λ (is : IsBy (placed log) idx m). record {
      first = is.first;
      count = is.count;
      block = is.block;
      size = is.size;
      listed = is.listed;
      low = is.low;
      high = is.high;
      bit_is = is.bit_is;
    })
    (λ (none : None ≡ Some m). cc) (by_items idx log.pages 0 None log.items m e)
