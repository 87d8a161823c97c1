-- Rows in the order of their slots.
use Rattle.std.proofs.Common.{◌≡◌, inl, inr, ℕ, ◌<◌, ◌≤◌, Bool, true, false, List, [], length, map, get_or, refl, sym, ◌∙◌, subst, arith}
use Rattle.std.specs.Prelude.{◌==◌, AllPairs, Contains, slice_get, Some}
use Rattle.std.specs.List.{IsDistinct}
use Rattle.std.specs.List.Sorted.{IsPermutation, IsNonDecreasingBy}
use Rattle.std.proofs.lemmas.Bool.{cases_eq}
use Rattle.std.proofs.lemmas.List.{length-map, get_or-map, get_or_default}
use Rattle.std.proofs.lemmas.List.Sorted.{IsPermutation-map, IsPermutation-sym, Contains-permutation}
use Rattle.std.proofs.lemmas.Map.Keys.{IsDistinct-from_apart, IsDistinct-IsPermutation, apart_from_distinct}
use Rattle.std.proofs.lemmas.Option.{slice_get_read}
use Rattle.dn_model.specs.Table.{Row as TableRow}
use Rattle.dn_model.specs.Disk.{Disk, rows}
use Rattle.dn_model.specs.Valid.{AreApart}
use Rattle.law_table.proofs.Rows.{same_test, other_test}
use Rattle.fact_scan.specs.declared.row.Row.{Row}
use Rattle.fact_scan.specs.Seen.{as_row}
use Rattle.dn_model.specs.Numbers.{AreRowsOf}

-- two rows have one slot
abbrev same_slot : TableRow → TableRow → Bool
same_slot r s = r.slot == s.slot

test_flips : (m n : ℕ) → (m == n) ≡ (n == m)
test_flips m n = elim (cases_eq m n) [
  | inl e ↦ same_test m n e ∙ sym (same_test n m (sym e))
  | inr ne ↦ other_test m n ne ∙ sym (other_test n m (λ e. ne (sym e)))
]

found_at : (rs : List TableRow) (k : ℕ) (d : TableRow) → k < length rs → slice_get rs k ≡ Some (get_or rs k d)
found_at rs k d lt = slice_get_read rs (length rs) k (get_or rs k d) refl lt (get_or_default rs k d (get_or rs k d) lt)

distinct_slots : (rs : List TableRow) → AreApart rs → IsDistinct same_slot rs
distinct_slots rs apart = IsDistinct-from_apart same_slot rs (λ i j d lt jl.
    let r = get_or rs i d in let s = get_or rs j d in
    other_test r.slot s.slot (λ e.
    let one = apart.slot i j r s (found_at rs i d (omega (arith, lt, jl))) (found_at rs j d jl) e in omega (arith, lt, one)))

no_row : Row
no_row = record { slot = 0; print = []; page = 0; count = record { rfc = 0; uc = 0 } }

module _ (found sorted : List Row) (same : IsPermutation found sorted) (order : IsNonDecreasingBy (λ (row : Row). row.slot) sorted) where
  same_rows : IsPermutation (map as_row found) (map as_row sorted)
  same_rows = IsPermutation-map as_row found sorted same

  rising : AreApart (map as_row found) → AllPairs (λ (r s : TableRow). r.slot < s.slot) (map as_row sorted)
  rising apart i j d lt jl =
      let long = length-map sorted as_row in
      let at_i : get_or (map as_row sorted) i d ≡ as_row (get_or sorted i no_row) = get_or-map as_row sorted i no_row d (omega (arith, lt, jl, long))
      in
      let at_j : get_or (map as_row sorted) j d ≡ as_row (get_or sorted j no_row) = get_or-map as_row sorted j no_row d (omega (arith, jl, long)) in
      let up : (get_or sorted i no_row).slot ≤ (get_or sorted j no_row).slot = order i j no_row (omega (arith, lt)) (omega (arith, jl, long)) in
      let distinct = IsDistinct-IsPermutation same_slot (λ r s. test_flips r.slot s.slot) (map as_row found) (map as_row sorted) same_rows
      (distinct_slots (map as_row found) apart) in
      let other = apart_from_distinct same_slot (map as_row sorted) i j d distinct lt jl in
      below (get_or (map as_row sorted) i d).slot (get_or (map as_row sorted) j d).slot
      (subst (λ (r : TableRow). r.slot ≤ (get_or (map as_row sorted) j d).slot) (sym at_i)
      (subst (λ (s : TableRow). (get_or sorted i no_row).slot ≤ s.slot) (sym at_j) up)) other
    where
      below : (m n : ℕ) → m ≤ n → (m == n) ≡ false → m < n
      below m n le test = elim (cases_eq m n) [
        | inl e ↦ let both : true ≡ false = sym (same_test m n e) ∙ test in cc
        | inr ne ↦ omega (arith, le, ne)
      ]

  pub rows_sorted : (d : Disk) → map as_row found ≡ rows d → AreApart (rows d) → AreRowsOf d (map as_row sorted)
  rows_sorted d are apart = record {
    sorted = rising (subst AreApart (sym are) apart);
    of_disk = λ row there. subst (λ (rs : List TableRow). Contains rs row) are (Contains-permutation (map as_row sorted) (map as_row found) row
        (IsPermutation-sym (map as_row found) (map as_row sorted) same_rows) there);
    all = λ row there. Contains-permutation (map as_row found) (map as_row sorted) row same_rows (subst (λ (rs : List TableRow). Contains rs row)
        (sym are) there);
  }
