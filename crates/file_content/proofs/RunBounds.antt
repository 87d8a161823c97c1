-- Runs of pages of the image lie in the image, and those of places of a file in the file; so their items are spelled.
use Rattle.std.proofs.Common.{ℕ, ◌+◌, ◌-◌, ◌<◌, ◌≤◌, List, [], ◌∷◌, length, sym, subst, arith}
use Rattle.std.specs.Prelude.{All}
use Rattle.std.proofs.lemmas.List.Elements.{All-nil, All-cons}
use Rattle.log_entry.specs.Spelling.{IsSpelled, pages_of}
use Rattle.law_write.specs.Runs.{run_items, places_in, block_at, IsChained}
use Rattle.law_write.proofs.RunItems.{block_at-here, block_at-later, runs-spelled}
use Rattle.file_content.specs.declared.runs.Run.{Run}
use Rattle.file_content.specs.Runs.{seen, all_seen}
use Rattle.file_content.specs.Slots.{IsCutInto}

pub runs_below : (n first : ℕ) (runs : List Run) → IsChained first (all_seen runs) → first + places_in (all_seen runs) ≤ n
    → All (λ run. run.first + run.count ≤ n) runs
runs_below n first [] chained inside = All-nil (λ (run : Run). run.first + run.count ≤ n)
runs_below n first (run ∷ runs) chained inside =
    All-cons (λ (r : Run). r.first + r.count ≤ n) run runs (omega (arith, chained.0, inside)) (runs_below n (first + run.count) runs chained.3
    (omega (arith, inside)))

pub blocks_below : (n first : ℕ) (runs : List Run) → IsChained first (all_seen runs)
    → ((i : ℕ) → i < places_in (all_seen runs) → block_at (all_seen runs) i < n) → All (λ run. run.block + run.count ≤ n) runs
blocks_below n first [] chained below = All-nil (λ (run : Run). run.block + run.count ≤ n)
blocks_below n first (run ∷ runs) chained below =
    All-cons (λ (r : Run). r.block + r.count ≤ n) run runs last_below (blocks_below n (first + run.count) runs chained.3
    (λ i lt. subst (λ (b : ℕ). b < n) (block_at-later (seen run) (all_seen runs) i) (below (run.count + i) (omega (arith, lt)))))
  where
    last_below : run.block + run.count ≤ n
    last_below =
        let last = below (run.count - 1) (omega (arith, chained.1)) in
        let is = block_at-here (seen run) (all_seen runs) (run.count - 1) (omega (arith, chained.1)) in
        omega (arith, last, is, chained.1)

-- so it is with the runs that pages are cut into
module _ (first n : ℕ) (pages : List ℕ) (runs : List Run) (cut : IsCutInto first pages (all_seen runs)) where
  pub cut-in_file : first + length pages ≤ n → All (λ run. run.first + run.count ≤ n) runs
  cut-in_file inside = runs_below n first runs cut.chained (omega (arith, inside, cut.places))

  pub cut-in_image : All (λ page. page < n) pages → All (λ run. run.block + run.count ≤ n) runs
  cut-in_image all = blocks_below n first runs cut.chained
      (λ i lt. let within : i < length pages = omega (arith, lt, cut.places) in subst (λ (b : ℕ). b < n) (sym (cut.blocks i within)) (all i 0 within))

  -- their items are within the ranges of their spelling
  pub cut-spelled : (size : ℕ) → first + length pages ≤ pages_of size → size ≤ 16777216 → All IsSpelled (run_items (all_seen runs) size)
  cut-spelled size inside small = runs-spelled size (all_seen runs) first cut.chained (omega (arith, inside, cut.places)) small
