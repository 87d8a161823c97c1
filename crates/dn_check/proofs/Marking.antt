-- Numbers other than 0 are marked one by one.
use Rattle.std.proofs.Common.{◌≡◌, inl, inr, ℕ, ◌+◌, ◌<◌, Bool, false, List, length, sym, ◌∙◌, ap, arith}
use Rattle.std.specs.Prelude.{slice_index, slice_index_or, slice_set, not, ◌==◌}
use Rattle.std.proofs.lemmas.Bool.{cases_eq}
use Rattle.std.proofs.lemmas.List.{get_or-set_same, get_or-set_other, length-set}
use Rattle.dn_check.specs.Passing.{Marks}

-- the first n of them are
pub record HasMarked (wanted : List ℕ) (n : ℕ) (marks : List Bool) : Type 0 where
  pub long : length marks ≡ length wanted
  pub marked : (k : ℕ) → k < n → slice_index_or marks k false ≡ not (slice_index wanted k == 0)

pub none_marked : (wanted : List ℕ) (marks : List Bool) → length marks ≡ length wanted → HasMarked wanted 0 marks
none_marked wanted marks long = record { long = long; marked = λ k lt. absurd (omega (arith, lt)) }

pub one_more : (wanted : List ℕ) (n : ℕ) (marks : List Bool) (b : Bool) → HasMarked wanted n marks → n < length wanted
    → b ≡ not (slice_index wanted n == 0) → HasMarked wanted (n + 1) (slice_set marks n b)
one_more wanted n marks b has lt is = record {
  long = length-set marks n b ∙ has.long;
  marked = λ k low. elim (cases_eq k n) [
    | inl e ↦ ap (λ (j : ℕ). slice_index_or (slice_set marks n b) j false) e ∙ get_or-set_same marks n b false (omega (arith, lt, has.long)) ∙ is ∙ ap
        (λ (j : ℕ). not (slice_index wanted j == 0)) (sym e)
    | inr ne ↦ get_or-set_other marks n k b false ne ∙ has.marked k (omega (arith, low, ne))
  ];
}

pub all_marked : (wanted : List ℕ) (n : ℕ) (marks : List Bool) → HasMarked wanted n marks → n ≡ length wanted → Marks wanted marks
all_marked wanted n marks has all = record { long = has.long; marked = λ k lt. has.marked k (omega (arith, lt, all)) }
