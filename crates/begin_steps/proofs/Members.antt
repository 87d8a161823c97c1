-- What is left of free pages.
use Rattle.std.proofs.Common.{ℕ, ◌<◌, List, [], ◌∷◌, ◌++◌, sym, subst}
use Rattle.std.specs.Prelude.{All}
use Rattle.std.specs.List.Sorted.{IsStrictlyIncreasing}
use Rattle.std.proofs.lemmas.List.Elements.{All-tail}
use Rattle.page_alloc.specs.Free.{FreePages, IsInOrder}
use Rattle.file_write.specs.Take.{TakesFirst}
use Rattle.file_write.proofs.Taking.{rising-behind}

all_behind : (P : ℕ → Type 0) (xs ys : List ℕ) → All P (xs ++ ys) → All P ys
all_behind P [] ys all = all
all_behind P (x ∷ xs) ys all = all_behind P xs ys (All-tail P x (xs ++ ys) all)

-- what is left of free pages stands in order
pub left_in_order : (old new : FreePages) (pages : List ℕ) → TakesFirst old new pages → IsInOrder old → IsInOrder new
left_in_order old new pages takes is = record {
  rising = rising-behind pages new.free (subst IsStrictlyIncreasing takes.split is.rising);
  below = subst (λ (n : ℕ). All (λ page. page < n) new.free) (sym takes.same)
      (all_behind (λ page. page < old.pages) pages new.free (subst (All (λ page. page < old.pages)) takes.split is.below));
}
