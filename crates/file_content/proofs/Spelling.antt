-- The item of a run is spelled.
use Rattle.std.proofs.Common.{◌≡◌, ◌∙◌, ℕ, ◌<◌, List, length, subst, ap, arith}
use Rattle.std.specs.Prelude.{get_or, All}
use Rattle.std.proofs.Math.ListN.{get_or-map}
use Rattle.std.proofs.lemmas.List.{length-map}
use Rattle.log_entry.specs.Spelling.{IsSpelled}
use Rattle.law_write.specs.Runs.{run_item, run_items}
use Rattle.file_content.specs.declared.runs.Run.{Run}
use Rattle.file_content.specs.Runs.{seen, all_seen}

abbrev no_run : Run
no_run = record { first = 0; count = 0; block = 0 }

pub run_spelled : (size : ℕ) (runs : List Run) (k : ℕ) → All IsSpelled (run_items (all_seen runs) size) → k < length runs
    → IsSpelled (run_item size (seen (get_or runs k (record { first = 0; count = 0; block = 0 }))))
run_spelled size runs k all lt =
    subst IsSpelled item_is (all k (run_item size (seen no_run))
    (omega (arith, lt, length-map (all_seen runs) (run_item size), length-map runs seen)))
  where
    item_is : get_or (run_items (all_seen runs) size) k (run_item size (seen no_run)) ≡ run_item size (seen (get_or runs k no_run))
    item_is = get_or-map (run_item size) (all_seen runs) k (seen no_run) ∙ ap (run_item size) (get_or-map seen runs k no_run)
