-- How the mappings of pages fall with a change of a file's data.
use Rattle.std.proofs.Common.{◌≡◌, ◌≢◌, ◌⊎◌, inl, inr, ⊎_elim, ℕ, zero, suc, ◌+◌, ◌-◌, ◌<◌, ◌≤◌, refl, sym, ◌∙◌, ap, arith}
use Rattle.std.specs.Prelude.{Option, Some, None, true, false, nat_lt, if◌then◌else◌}
use Rattle.log_entry.specs.Spelling.{pages_of}
use Rattle.dn_model.specs.Maps.{Mapping, cut_to, size_of}
use Rattle.dn_model.specs.Disk.{Disk, maps}
use Rattle.dn_model.specs.Counts.{total, hit, mappings}
use Rattle.law_write.specs.Writing.{Writes}
use Rattle.law_write.proofs.Counting.{total-same, total-zero}
use Rattle.law_write.proofs.MappedPlaces.{mapping-below, uncut}
use Rattle.law_write.proofs.WriteCounts.{hit_other, own_or_other, maps_old, mappings-written}
use Rattle.law_cut.specs.DropLaws.{Drops, dropped_from, WritesDrop, WritesDropMappings}

pub total-add : (f : ℕ → ℕ) (a b : ℕ) → total (a + b) f ≡ total a f + total b (λ i. f (a + i))
unfolding total
total-add f a zero = let e : a + 0 ≡ a = omega arith in rw e (omega arith)
total-add f a (suc b) = let e : a + suc b ≡ suc (a + b) = omega arith in rw e (omega (arith, total-add f a b))

total-parts : (f : ℕ → ℕ) (from n rest : ℕ) → total (from + n + rest) f ≡ total from f + total n (λ i. f (from + i)) + total rest
    (λ i. f (from + n + i))
total-parts f from n rest = let a = total-add f (from + n) rest in let b = total-add f from n in omega (arith, a, b)

-- two sums that differ in n terms from one on, of which the second has none
pub total-window : (f g : ℕ → ℕ) (from n bound : ℕ) → from + n ≤ bound → ((j : ℕ) → (j < from) ⊎ (from + n ≤ j) → g j ≡ f j)
    → ((i : ℕ) → i < n → g (from + i) ≡ 0)
    → total bound f ≡ total bound g + total n (λ i. f (from + i))
total-window f g from n bound le same none =
    let split : bound ≡ from + n + (bound - (from + n)) = omega (arith, le) in
    let of_f = ap (λ (m : ℕ). total m f) split ∙ total-parts f from n (bound - (from + n)) in
    let of_g = ap (λ (m : ℕ). total m g) split ∙ total-parts g from n (bound - (from + n)) in
    joined _ _ _ _ _ _ _ _ of_f of_g (total-same f g from (λ j lt. same j (inl lt)))
    (total-zero (λ i. g (from + i)) n none) (total-same (λ i. f (from + n + i)) (λ i. g (from + n + i)) (bound - (from + n))
    (λ i lt. same (from + n + i) (inr (omega arith))))
  where
    joined : (tf tg a b c x y z : ℕ) → tf ≡ a + b + c → tg ≡ x + y + z → x ≡ a → y ≡ 0 → z ≡ c → tf ≡ tg + b
    joined tf tg a b c x y z e1 e2 e3 e4 e5 = omega arith

cut_none : (size idx : ℕ) → cut_to size idx None ≡ None
cut_none size idx = let none : Option Mapping = None in elim (nat_lt idx (pages_of size)) as (λ b. (if b then none else none) ≡ none)
    [ true ↦ refl | false ↦ refl ]

module _ (ino : ℕ) (old new : Disk) (w : Writes ino old new) where
  hit-anew : (page : ℕ) → ((i : ℕ) → i < w.n → w.blocks i ≢ page) → (m : Option Mapping)
      → ((x : Mapping) → m ≡ Some x → (i : ℕ) × (i < w.n) × (x.block ≡ w.blocks i)) → hit page m ≡ 0
  hit-anew page out None is = refl
  hit-anew page out (Some x) is = let by = is x refl in hit_other page x (λ e. out by.0 by.1 (sym by.2 ∙ e))

  pub drop_mappings : (from n : ℕ) → Drops ino old new w from n → (page : ℕ) → ((i : ℕ) → i < w.n → w.blocks i ≢ page)
      → mappings new page + dropped_from old ino from n page ≡ mappings old page
  drop_mappings from n drops page out =
      let moved = mappings-written ino old new w page in
      let fell = total-window (λ idx. hit page (maps old ino idx)) (λ idx. hit page (maps new ino idx)) from n 4096 drops.in_file
      (λ j at. ap (hit page) (drops.kept j at))
      (λ i lt. hit-anew page out (maps new ino (from + i)) (λ x is. drops.anew (from + i) x (omega arith) (omega (arith, lt)) is)) in
      joined _ _ _ _ _ moved fell
    where
      joined : (a b c e f : ℕ) → a + b ≡ c + e → b ≡ e + f → a + f ≡ c
      joined a b c e f one two = omega arith

  pub drop_written : size_of (old.inode ino).log ≤ w.size → w.first + w.n ≤ 4096 → Drops ino old new w w.first w.n
  drop_written grows inside = record {
    in_file = inside;
    kept = λ idx out. by_old idx out (maps old ino idx) refl;
    anew = λ idx m low high is. ⊎_elim
        (λ (own : (i : ℕ) × (i < w.n) × (idx ≡ w.first + i)).
        let here = w.own own.0 own.1 in (own.0, own.1, same_block (maps new ino idx) m here.by is (ap (maps new ino) own.2 ∙ here.is) ∙ here.page))
        (λ (out : (idx < w.first) ⊎ (w.first + w.n ≤ idx)). absurd (⊎_elim (λ lt. omega (arith, lt, low)) (λ le. omega (arith, le, high)) out))
        (own_or_other w.first w.n idx);
  }
    where
      same_block : (o : Option Mapping) (m x : Mapping) → o ≡ Some m → o ≡ Some x → m.block ≡ x.block
      same_block o m x a b = let e : m ≡ x = cc in ap (λ (y : Mapping). y.block) e

      below : (i less more : ℕ) → i < pages_of less → less ≤ more → i < pages_of more
      below i less more lt le = omega arith

      by_old : (idx : ℕ) → (idx < w.first) ⊎ (w.first + w.n ≤ idx) → (m : Option Mapping) → maps old ino idx ≡ m → maps new ino idx ≡ maps old ino idx
      by_old idx out None was = w.other idx out ∙ ap (cut_to w.size idx) was ∙ cut_none w.size idx ∙ sym was
      by_old idx out (Some x) was = w.other idx out ∙ uncut w.size idx (maps old ino idx)
          (below idx _ _ (mapping-below (old.inode ino).log idx x (sym (maps_old ino old new w idx) ∙ was)) grows)

pub writes_drop : WritesDrop
writes_drop ino old new w grows inside = drop_written ino old new w grows inside

pub writes_drop_mappings : WritesDropMappings
writes_drop_mappings ino old new w from n drops page out = drop_mappings ino old new w from n drops page out
