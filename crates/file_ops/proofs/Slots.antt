-- The slots of the items by which a write maps places.
use Rattle.std.proofs.Common.{◌≡◌, ◌⊎◌, inl, inr, ⊎_elim, ℕ, suc, ◌+◌, ◌-◌, ◌<◌, Bool, true, false, List, [], ◌∷◌, length, sym, ◌∙◌, ap, subst, arith}
use Rattle.std.specs.Prelude.{if◌then◌else◌, nat_le, nat_lt, ◌&&◌, Option, Some, None, Contains}
use Rattle.log_entry.specs.Spelling.{spelling}
use Rattle.log_entry.specs.declared.item.LogItem.{LogItem}
use Rattle.log_entry.specs.declared.item.LogItem.TheVariants.{Write, Size, Add, Forget}
use Rattle.dn_model.specs.Log.{Placed, placed_from, slot_name, count}
use Rattle.dn_model.specs.Maps.{Mapping, mapped_after, remapped}
use Rattle.dn_model.specs.Disk.{Disk, maps}
use Rattle.law_write.specs.Runs.{Run, run_item, run_items}
use Rattle.law_write.specs.Writing.{Writes, WritesWell}
use Rattle.law_write.proofs.Mapped.{mapping-grown}
use Rattle.law_write.proofs.MappedPlaces.{cut_some, maps-in_file}
use Rattle.law_write.proofs.WriteCounts.{maps_old, maps_new}
use Rattle.law_write.proofs.WriteValid.{not_mapped}
use Rattle.law_cut.specs.Cutting.{last_page, refill_runs, cut_items}
use Rattle.law_table.proofs.Rows.{listed_here, listed_later, listed_cases}

-- a Write
abbrev pub IsWriteItem : LogItem → Type 0
IsWriteItem (Write first n block size flag mask) = Unit {0}
IsWriteItem (Size size) = ⊥
IsWriteItem (Add ino name) = ⊥
IsWriteItem (Forget name) = ⊥

-- one item maps a place, or leaves its mapping
item_cases : (idx : ℕ) (m : Option Mapping) (p : Placed) (item : LogItem) (x : Mapping) → remapped idx m (record { slot = p.slot; item = item }) ≡
    Some x → (m ≡ Some x) ⊎ (IsWriteItem item × (p.slot ≡ x.slot))
item_cases idx m p (Write first n block size flag mask) x is = ⊎_elim (λ old. inl old) (λ here. inr (tt, here))
    (by_test (nat_le first idx && nat_lt idx (first + n)) (cut_some size idx _ x is))
  where
    by_test : (t : Bool) → (if t then Some (record { block = block + (idx - first); slot = p.slot; bit = idx - first; flag = flag; mask = mask }) else
        m) ≡ Some x → (m ≡ Some x) ⊎ (p.slot ≡ x.slot)
    by_test true e = let same : record { block = block + (idx - first); slot = p.slot; bit = idx - first; flag = flag; mask = mask } ≡ x = cc in
        inr (ap (λ (y : Mapping). y.slot) same)
    by_test false e = inl e
item_cases idx m p (Size size) x is = inl (cut_some size idx m x is)
item_cases idx m p (Add ino name) x is = inl is
item_cases idx m p (Forget name) x is = inl is

-- a mapping after items is the old one, or has the slot of one of them
pub slot_cases : (idx : ℕ) (ps : List Placed) (m : Option Mapping) (x : Mapping) → mapped_after idx m ps ≡ Some x
    → (m ≡ Some x) ⊎ ((p : Placed) × Contains ps p × IsWriteItem p.item × (p.slot ≡ x.slot))
slot_cases idx [] m x is = inl is
slot_cases idx (p ∷ ps) m x is = ⊎_elim
    (λ (before : remapped idx m p ≡ Some x). ⊎_elim (λ old. inl old) (λ here. inr (p, listed_here p ps, here.0, here.1))
    (item_cases idx m p p.item x before))
    (λ later. inr (later.0, listed_later p ps later.0 later.1, later.2, later.3)) (slot_cases idx ps (remapped idx m p) x is)

-- the items of runs stand one slot after another
pub run_slots : (pages : List ℕ) (size k : ℕ) (runs : List Run) (p : Placed) → Contains (placed_from pages k (run_items runs size)) p
    → (j : ℕ) × (j < length runs) × (p.slot ≡ slot_name pages (k + j))
unfolding spelling
run_slots pages size k [] p has = absurd (omega (arith, has.1))
run_slots pages size k (run ∷ runs) p has = ⊎_elim
    (λ (here : record { slot = slot_name pages k; item = run_item size run } ≡ p). (
      0,
      omega arith,
      ap (λ (q : Placed). q.slot) (sym here) ∙ ap
          (slot_name pages) (zero_more k),
    ))
    (λ later. let found = run_slots pages size (k + 1) runs p later in (
      suc found.0,
      omega (arith, found.1),
      found.2 ∙ ap (slot_name pages)
          (one_more k found.0),
    ))
    (listed_cases (record { slot = slot_name pages k; item = run_item size run }) (placed_from pages (k + 1) (run_items runs size)) p has)
  where
    zero_more : (k : ℕ) → k ≡ k + 0
    zero_more k = omega arith

    one_more : (k j : ℕ) → k + 1 + j ≡ k + suc j
    one_more k j = omega arith

-- so do those of a cut, of which the last is no Write
pub cut_slots : (pages : List ℕ) (size k : ℕ) (refill : Option ℕ) (p : Placed) → IsWriteItem p.item
    → Contains (placed_from pages k (cut_items size refill)) p
    → (j : ℕ) × (j < length (refill_runs size refill)) × (p.slot ≡ slot_name pages (k + j))
cut_slots pages size k None p write has = ⊎_elim (λ (here : record { slot = slot_name pages k; item = Size size } ≡ p). absurd
    (subst (λ (q : Placed). IsWriteItem q.item) (sym here) write)) (λ later. absurd (omega (arith, later.1)))
    (listed_cases (record { slot = slot_name pages k; item = Size size }) [] p has)
cut_slots pages size k (Some page) p write has = ⊎_elim
    (λ (here : record { slot = slot_name pages k; item = run_item size (record { first = last_page size; count = 1; block = page }) } ≡ p).
    (0, omega arith, ap (λ (q : Placed). q.slot) (sym here) ∙ ap (slot_name pages) (zero_more k)))
    (λ later. absurd (⊎_elim
    (λ (size_item : record {
      slot =
          slot_name pages (k + length (spelling (run_item size (record { first = last_page size; count = 1; block = page }))));
      item = Size size;
    } ≡ p).
    subst (λ (q : Placed). IsWriteItem q.item) (sym size_item) write) (λ none. omega (arith, none.1))
    (listed_cases (record {
      slot = slot_name pages
          (k + length (spelling (run_item size (record { first = last_page size; count = 1; block = page }))));
      item = Size size;
    }) [] p later)))
    (listed_cases (record { slot = slot_name pages k; item = run_item size (record { first = last_page size; count = 1; block = page }) })
    (record {
      slot = slot_name pages (k + length (spelling (run_item size (record { first = last_page size; count = 1; block = page }))));
      item = Size size;
    } ∷ []) p has)
  where
    zero_more : (k : ℕ) → k ≡ k + 0
    zero_more k = omega arith

module _ (ino : ℕ) (old new : Disk) (w : Writes ino old new) (ok : WritesWell ino old new w) where
  -- a place that is on a page of the event is mapped by one of its Writes
  pub mapped_item : (idx : ℕ) (m : Mapping) → maps new ino idx ≡ Some m → (i : ℕ) → i < w.n → m.block ≡ w.blocks i
      → (p : Placed) × Contains (placed_from (new.inode ino).log.pages (count (old.inode ino).log) w.grown.more) p × IsWriteItem
      p.item × (p.slot ≡ m.slot)
  mapped_item idx m is i lt block =
      let by_items : mapped_after idx (maps old ino idx) (placed_from (new.inode ino).log.pages (count (old.inode ino).log) w.grown.more) ≡ Some m =
      ap (λ (o : Option Mapping). mapped_after idx o (placed_from (new.inode ino).log.pages (count (old.inode ino).log) w.grown.more))
      (maps_old ino old new w idx)
      ∙ sym (mapping-grown old.geometry (old.inode ino).log (new.inode ino).log w.grown w.paged idx) ∙ sym (maps_new ino old new w idx) ∙ is in
      ⊎_elim
      (λ (was : maps old ino idx ≡ Some m). absurd (not_mapped old (w.blocks i) (ok.blocks i lt)
      (record {
        ino = ino;
        idx = idx;
        maps_to = record {
          in_table = w.in_table;
          in_file = maps-in_file old ok.valid ino idx m w.in_table was;
          by = m;
          is = was;
          block = block;
        };
      })))
      (λ by. by)
      (slot_cases idx (placed_from (new.inode ino).log.pages (count (old.inode ino).log) w.grown.more) (maps old ino idx) m by_items)

  pub mapped_slot : (size : ℕ) (runs : List Run) → w.grown.more ≡ run_items runs size → (idx : ℕ) (m : Mapping) → maps new ino idx ≡ Some m → (i : ℕ)
      → i < w.n → m.block ≡ w.blocks i
      → (j : ℕ) × (j < length runs) × (m.slot ≡ slot_name (new.inode ino).log.pages (count (old.inode ino).log + j))
  mapped_slot size runs more idx m is i lt block =
      let by = mapped_item idx m is i lt block in
      let place = run_slots (new.inode ino).log.pages size (count (old.inode ino).log) runs by.0
      (subst (λ (xs : List LogItem). Contains (placed_from (new.inode ino).log.pages (count (old.inode ino).log) xs) by.0) more by.1) in
      (place.0, place.1, sym by.3 ∙ place.2)

  pub cut_slot : (size : ℕ) (refill : Option ℕ) → w.grown.more ≡ cut_items size refill → (idx : ℕ) (m : Mapping) → maps new ino idx ≡ Some m → (i : ℕ)
      → i < w.n → m.block ≡ w.blocks i
      → (j : ℕ) × (j < length (refill_runs size refill)) × (m.slot ≡ slot_name (new.inode ino).log.pages (count (old.inode ino).log + j))
  cut_slot size refill more idx m is i lt block =
      let by = mapped_item idx m is i lt block in
      let place = cut_slots (new.inode ino).log.pages size (count (old.inode ino).log) refill by.0 by.2
      (subst (λ (xs : List LogItem). Contains (placed_from (new.inode ino).log.pages (count (old.inode ino).log) xs) by.0) more by.1) in
      (place.0, place.1, sym by.3 ∙ place.2)
