-- What a write does, before it stores anything.
use Rattle.std.specs.Prelude.{
  ◌≡◌,
  ℕ,
  ◌+◌,
  ◌/◌,
  ◌<◌,
  ◌≤◌,
  max,
  if◌then◌else◌,
  nat_lt,
  Bool,
  true,
  false,
  List,
  [],
  ◌++◌,
  length,
}
use Rattle.page_alloc.specs.Free.{FreePages}
use Rattle.dn_model.specs.History.{touched}
use Rattle.log_entry.specs.Spelling.{spelled}
use Rattle.law_write.specs.Runs.{run_items}
use Rattle.file_content.specs.Slots.{IsCutInto}
use Rattle.file_content.specs.Runs.{all_seen}
use Rattle.file_write.specs.Take.{TakesFirst}
use Rattle.file_write.specs.declared.plan.WritePlan.{WritePlan}

-- the pages that were taken for a log are fresh ones of it, or spare
abbrev pub SplitsLog : Bool → List ℕ → List ℕ → List ℕ → Type 0
SplitsLog true log fresh spare = (fresh ≡ log) × (spare ≡ [])
SplitsLog false log fresh spare = (fresh ≡ []) × (spare ≡ log)

-- The plan of a write of so many places from this one on, with these pages, to a file that then has
-- this size and whose
-- log has so much room.
pub record IsPlanOf (room first size : ℕ) (pages : List ℕ) (places : ℕ) (plan : WritePlan) : Type 0
  where
    pub first_is : plan.first ≡ first
    pub size_is : plan.size ≡ size
    pub pages_are : plan.fresh.items ++ plan.spare.items ++ plan.blocks.items ≡ pages
    pub places_are : length plan.blocks.items ≡ places
    pub cut : IsCutInto plan.first plan.blocks.items (all_seen plan.runs.items)
    pub spelled_by : spelled (run_items (all_seen plan.runs.items) plan.size) ≡ plan.slots.items
    pub unused : length plan.runs.items ≤ room → plan.fresh.items ≡ []
    pub used : room < length plan.runs.items → plan.spare.items ≡ []

-- The plan of a write of so many bytes from byte `at` on, to a file of this size whose log has so
-- much room.
pub record IsPlan (size at count room : ℕ) (old new : FreePages) (plan : WritePlan) : Type 0 where
  pub first : plan.first ≡ at / 4096
  pub size_is : plan.size ≡ max size (at + count)
  pub places : length plan.blocks.items ≡ touched at count
  pub takes : TakesFirst old new (plan.fresh.items ++ plan.spare.items ++ plan.blocks.items)
  pub needs : length (plan.fresh.items ++ plan.spare.items ++ plan.blocks.items) ≡ touched at
      count + (if nat_lt room (touched at count) then 1 else 0)
  pub cut : IsCutInto plan.first plan.blocks.items (all_seen plan.runs.items)
  pub spelled_by : spelled (run_items (all_seen plan.runs.items) plan.size) ≡ plan.slots.items
  pub log_page : length plan.fresh.items ≡ (if nat_lt room (length plan.runs.items) then 1 else 0)
