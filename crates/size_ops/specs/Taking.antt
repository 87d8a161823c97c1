-- What a cut takes and will store.
use Rattle.std.specs.Prelude.{◌≡◌, ℕ, ◌/◌, ◌%◌, ◌≤◌, List, [], ◌∷◌, ◌++◌, length}
use Rattle.page_alloc.specs.Free.{FreePages}
use Rattle.log_entry.specs.Spelling.{spelled}
use Rattle.log_entry.specs.declared.item.LogItem.TheVariants.{Size as SizeItem}
use Rattle.law_write.specs.Runs.{Run, run_items}
use Rattle.file_content.specs.Runs.{all_seen}
use Rattle.file_write.specs.Take.{TakesFirst}
use Rattle.file_write.specs.declared.plan.WritePlan.{WritePlan}
use Rattle.size_ops.specs.declared.plan.CutPlan.{CutPlan}

-- the run of the first of these pages, if there is one
abbrev pub run_on : ℕ → List ℕ → List Run
run_on first [] = []
run_on first (block ∷ blocks) = record { first = first; count = 1; block = block } ∷ []

-- one page at most is filled anew, where the size ends inside of a page, and the log grows by one at
-- most
pub record IsSound (cut : CutPlan) : Type 0 where
  pub few : cut.pages ≤ 1
  pub few_more : cut.log_pages ≤ 1
  pub small : cut.size ≤ 16777216
  pub part : 1 ≤ cut.pages → 1 ≤ cut.size % 4096

-- what is stored of the cut in these pages
pub record IsMadeOf (cut : CutPlan) (pages : List ℕ) (plan : WritePlan) : Type 0 where
  pub first : plan.first ≡ cut.size / 4096
  pub size_is : plan.size ≡ cut.size
  pub places : length plan.blocks.items ≡ cut.pages
  pub log_pages : length plan.fresh.items ≡ cut.log_pages
  pub pages_are : plan.fresh.items ++ plan.spare.items ++ plan.blocks.items ≡ pages
  pub spare : plan.spare.items ≡ []
  pub runs : all_seen plan.runs.items ≡ run_on plan.first plan.blocks.items
  pub slots : spelled (run_items (all_seen plan.runs.items) plan.size ++ SizeItem plan.size ∷ []) ≡
      plan.slots.items

-- and they were the least free ones
pub record TakesPlan (cut : CutPlan) (old new : FreePages) (plan : WritePlan) : Type 0 where
  pub pages : List ℕ
  pub made : IsMadeOf cut pages plan
  pub takes : TakesFirst old new pages
