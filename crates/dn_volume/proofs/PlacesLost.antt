-- The mappings that rows' pages lose where the places of one inode go: as often as their slots stand among those of the
-- places' rows.
use Rattle.std.proofs.Common.{◌≡◌, inl, inr, ℕ, zero, suc, ◌+◌, ◌-◌, ◌<◌, ◌≤◌, Bool, List, [], ◌∷◌, refl, sym, ◌∙◌, ap, subst, arith}
use Rattle.std.specs.Prelude.{Option, Some, None, IsNone, Contains, if◌then◌else◌, ◌==◌}
use Rattle.std.proofs.lemmas.Bool.{cases_eq}
use Rattle.dn_model.specs.Maps.{Mapping}
use Rattle.dn_model.specs.Table.{Row, row_of}
use Rattle.dn_model.specs.Disk.{Disk, maps, rows}
use Rattle.dn_model.specs.Counts.{total, hit, mappings}
use Rattle.dn_model.specs.Valid.{IsValid}
use Rattle.law_write.proofs.Counting.{total-same}
use Rattle.law_table.proofs.Rows.{same_test, other_test, distinct_same, row_found, none_or_some}
use Rattle.law_table_on_disk.specs.MappingLaws.{RemapsInode, places}
use Rattle.law_table_on_disk.proofs.Mappings.{inode_moves}
use Rattle.dn_volume.specs.Planned.{slot_of, slot_of_row, row_slots}
use Rattle.dn_volume.specs.Balance.{times}
use Rattle.dn_volume.proofs.Raises.{times-append}
use Rattle.dn_volume.proofs.RowSlots.{found_in}

-- the sum of n terms from this one on
abbrev sum_from : (ℕ → ℕ) → ℕ → ℕ → ℕ
sum_from f from zero = 0
sum_from f from (suc n) = f from + sum_from f (from + 1) n

total_next : (f : ℕ → ℕ) (n : ℕ) → total (n + 1) f ≡ total n f + f n
unfolding total
total_next f n = ap (λ (k : ℕ). total k f) (next n)
  where
    next : (k : ℕ) → k + 1 ≡ suc k
    next k = omega arith

total_split : (f : ℕ → ℕ) (from n : ℕ) → total (from + n) f ≡ total from f + sum_from f from n
total_split f from zero = let same : total (from + 0) f ≡ total from f = ap (λ (k : ℕ). total k f) (omega arith) in omega (arith, same)
total_split f from (suc n) =
    let shift : total (from + suc n) f ≡ total (from + 1 + n) f = ap (λ (k : ℕ). total k f) (omega arith) in
    let later = total_split f (from + 1) n in
    let next = total_next f from in
    omega (arith, shift, later, next)

sum_same : (f g : ℕ → ℕ) (from n : ℕ) → ((j : ℕ) → from ≤ j → j < from + n → g j ≡ f j) → sum_from g from n ≡ sum_from f from n
sum_same f g from zero same = refl
sum_same f g from (suc n) same =
    let here = same from (omega arith) (omega arith) in
    let later = sum_same f g (from + 1) n (λ j low high. same j (omega (arith, low)) (omega (arith, high))) in
    omega (arith, here, later)

sum_zero : (g : ℕ → ℕ) (from n : ℕ) → ((j : ℕ) → from ≤ j → j < from + n → g j ≡ 0) → sum_from g from n ≡ 0
sum_zero g from zero none = refl
sum_zero g from (suc n) none =
    let here = none from (omega arith) (omega arith) in
    let later = sum_zero g (from + 1) n (λ j low high. none j (omega (arith, low)) (omega (arith, high))) in
    omega (arith, here, later)

-- terms of a run become 0, and no other differs
run_lost : (f g : ℕ → ℕ) (first n rest : ℕ) → ((j : ℕ) → j < first → g j ≡ f j) → ((j : ℕ) → first ≤ j → j < first + n → g j ≡ 0)
    → ((j : ℕ) → first + n ≤ j → g j ≡ f j)
    → total (first + n + rest) f ≡ total (first + n + rest) g + sum_from f first n
run_lost f g first n rest before inside behind =
    let f_all = total_split f (first + n) rest in
    let f_run = total_split f first n in
    let g_all = total_split g (first + n) rest in
    let g_run = total_split g first n in
    let front = total-same f g first before in
    let none = sum_zero g first n inside in
    let back = sum_same f g (first + n) rest (λ j low high. behind j low) in
    omega (arith, f_all, f_run, g_all, g_run, front, none, back)

page_in : (rs : List Row) (page : ℕ) (row : Row) → row_of rs page ≡ Some row → row.page ≡ page
page_in [] page row is = cc
page_in (r ∷ rs) page row is = elim (cases_eq r.page page) [
  | inl here ↦ sym (ap (λ (x : Row). x.page)
      (some_same r row (sym (ap (λ (t : Bool). if t then Some r else row_of rs page) (same_test r.page page here)) ∙ is))) ∙ here
  | inr there ↦ page_in rs page row (sym (ap (λ (t : Bool). if t then Some r else row_of rs page) (other_test r.page page there)) ∙ is)
]
  where
    some_same : (x y : Row) → Some x ≡ Some y → x ≡ y
    some_same x y e = cc

none_is : (x : Option Row) → x ≡ None → IsNone x
none_is None e = refl
none_is (Some r) e = cc

module _ (d : Disk) (valid : IsValid d) (row : Row) (has : Contains (rows d) row) where
  -- a row's slot is that of a place exactly if the place is on its page
  pub slot_hits : (m : Option Mapping) → times row.slot (slot_of d m) ≡ hit row.page m
  slot_hits None = refl
  slot_hits (Some m) = by_row (row_of (rows d) m.block) refl
    where
      by_row : (r : Option Row) → row_of (rows d) m.block ≡ r → times row.slot (slot_of_row r) ≡ (if m.block == row.page then 1 else 0)
      by_row None none = elim (cases_eq m.block row.page) [
        | inl here ↦ absurd (none_or_some (row_of (rows d) row.page) (subst (λ (p : ℕ). IsNone (row_of (rows d) p)) here
            (none_is (row_of (rows d) m.block) none)) (row_found (rows d) row has))
        | inr there ↦ sym (ap (λ (t : Bool). if t then 1 else 0) (other_test m.block row.page there))
      ]
      by_row (Some r) is = elim (cases_eq m.block row.page) [
        | inl here ↦
            let same : r ≡ row = distinct_same (λ (x : Row). x.page) (rows d) valid.rows_apart.page r row (found_in (rows d) m.block r is) has
            (page_in (rows d) m.block r is ∙ here) in
            ap (λ (t : Bool). (if t then 1 else 0) + 0) (same_test r.slot row.slot (ap (λ (x : Row). x.slot) same)) ∙ sym
            (ap (λ (t : Bool). if t then 1 else 0) (same_test m.block row.page here))
        | inr there ↦
            ap (λ (t : Bool). (if t then 1 else 0) + 0) (other_test r.slot row.slot (λ e. there (sym (page_in (rows d) m.block r is)
            ∙ ap (λ (x : Row). x.page) (distinct_same (λ (x : Row). x.slot) (rows d) valid.rows_apart.slot r row (found_in (rows d) m.block r is) has
            e))))
            ∙ sym (ap (λ (t : Bool). if t then 1 else 0) (other_test m.block row.page there))
      ]

  slots_hit : (ino from n : ℕ) → times row.slot (row_slots d ino from n) ≡ sum_from (λ idx. hit row.page (maps d ino idx)) from n
  unfolding row_slots
  slots_hit ino from zero = refl
  slots_hit ino from (suc n) =
      let both = times-append row.slot (slot_of d (maps d ino from)) (row_slots d ino (from + 1) n) in
      omega (arith, both, slot_hits (maps d ino from), slots_hit ino (from + 1) n)

  -- what the row's page loses where a run of places of an inode goes from the pages that they were on
  pub places_lost : (e : Disk) (ino first n : ℕ) → RemapsInode ino d e → first + n ≤ 4096 → ((j : ℕ) → j < first → maps e ino j ≡ maps d ino j)
      → ((j : ℕ) → first + n ≤ j → maps e ino j ≡ maps d ino j)
      → ((j : ℕ) → first ≤ j → j < first + n → hit row.page (maps e ino j) ≡ 0) → mappings e row.page + times row.slot (row_slots d ino first n) ≡
      mappings d row.page
  places_lost e ino first n remaps fits before behind inside =
      let moved = inode_moves ino d e remaps row.page in
      let split : first + n + (4096 - (first + n)) ≡ 4096 = omega (arith, fits) in
      let lost : places d row.page ino ≡ places e row.page ino + sum_from (λ idx. hit row.page (maps d ino idx)) first n =
      subst (λ (k : ℕ). total k (λ idx. hit row.page (maps d ino idx)) ≡ total k (λ idx. hit row.page (maps e ino idx)) + sum_from
      (λ idx. hit row.page (maps d ino idx)) first n) split
      (run_lost (λ idx. hit row.page (maps d ino idx)) (λ idx. hit row.page (maps e ino idx)) first n (4096 - (first + n))
      (λ j lt. ap (hit row.page) (before j lt)) inside (λ j le. ap (hit row.page) (behind j le))) in
      omega (arith, moved, lost, slots_hit ino first n)
