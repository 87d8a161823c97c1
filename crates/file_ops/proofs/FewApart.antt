-- Different numbers below a bound are no more than it.
use Rattle.std.proofs.Common.{◌≡◌, ◌≢◌, inl, inr, ℕ, ◌<◌, ◌≤◌, true, false, eqb, get_or, List, length, sym, ◌∙◌, arith}
use Rattle.std.specs.Prelude.{slice_index}
use Rattle.std.specs.List.{list_any}
use Rattle.std.proofs.lemmas.Bool.{cases_lt, false≢true}
use Rattle.std.proofs.lemmas.Bool.Decides.{nat_tests}
use Rattle.std.proofs.lemmas.List.{get_or_default}
use Rattle.std.proofs.lemmas.List.Folds.{list_any_none}
use Rattle.std.proofs.lemmas.Map.Keys.{IsDistinct-from_apart}
use Rattle.std.proofs.lemmas.Map.Steps.{length-le_from_distinct_below}
use Rattle.file_content.specs.Pages.{AreApart}

pub few_apart : (xs : List ℕ) (n : ℕ) → AreApart xs → ((k : ℕ) → k < length xs → slice_index xs k < n) → length xs ≤ n
few_apart xs n apart low = length-le_from_distinct_below xs n (IsDistinct-from_apart eqb xs differ) within
  where
    value : (k : ℕ) (d : ℕ) → k < length xs → get_or xs k d ≡ slice_index xs k
    value k d lt = get_or_default xs k d 0 lt

    unequal : (a b : ℕ) → a ≢ b → eqb a b ≡ false
    unequal a b ne = grind (arith, nat_tests)

    differ : (i j d : ℕ) → i < j → j < length xs → eqb (get_or xs i d) (get_or xs j d) ≡ false
    differ i j d lt jl = unequal _ _ (λ e. let same : i ≡ j = apart i j (omega (arith, lt, jl)) jl (sym (value i d (omega (arith, lt, jl))) ∙ e ∙ value j d jl) in
        omega (arith, same, lt))

    within : (q : ℕ) → list_any (eqb q) xs ≡ true → q < n
    within q any = elim (cases_lt q n) [
      | inl small ↦ small
      | inr high ↦ absurd (false≢true
          (sym (list_any_none (eqb q) xs (λ k d lt. unequal q _ (λ e. omega (arith, high, e, value k d lt, low k lt)))) ∙ any))
    ]
