-- The first row of which something isn't so.
use Rattle.std.proofs.Common.{◌≡◌, ℕ, suc, ◌<◌, List, ◌∷◌, ◌++◌, length, take, drop, get_or, refl, sym, ◌∙◌, ap, subst, arith}
use Rattle.std.proofs.lemmas.List.{get_or-take, take-append-drop, length-take}
use Rattle.std.proofs.Math.Seq.{drop-cons}
use Rattle.fact_scan.specs.declared.row.Row.{Row}
use Rattle.dn_check.specs.RowCounts.{IsNearBy, IsFirstFar}

split_at : (rs : List Row) (k : ℕ) (d : Row) → k < length rs → rs ≡ take k rs ++ get_or rs k d ∷ drop (suc k) rs
split_at rs k d lt = sym (take-append-drop k rs) ∙ ap (λ (rest : List Row). take k rs ++ rest) (drop-cons rs k d lt)

pub first_far : (mapped : List ℕ) (rs : List Row) (k : ℕ) (d : Row) → k < length rs → ((j : ℕ) (e : Row) → j < k → IsNearBy mapped (get_or rs j e))
    → (IsNearBy mapped (get_or rs k d) → ⊥)
    → IsFirstFar mapped rs (get_or rs k d).slot
first_far mapped rs k d lt near far = record {
  front = take k rs;
  row = get_or rs k d;
  rest = drop (suc k) rs;
  split = split_at rs k d lt;
  near = λ j e low. let small : j < k = omega (arith, low, length-take k rs) in subst (IsNearBy mapped) (sym (get_or-take k rs j e small))
      (near j e small);
  far = far;
  slot_is = refl;
}
