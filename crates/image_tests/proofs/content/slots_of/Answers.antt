use Rattle.std.proofs.Common.{List, sym, subst, arith}
use Rattle.std.specs.Prelude.{All}
use Rattle.log_entry.specs.Spelling.{IsSpelled}
use Rattle.law_write.specs.Runs.{run_items}
use Rattle.file_content.specs.declared.runs.Run.{Run}
use Rattle.file_content.specs.Runs.{all_seen}
use Rattle.file_content.proofs.RunBounds.{cut-spelled}
use Rattle.image_tests.proofs.content.slots_of.Goals as goal

pub run_slots-requires : goal.run_slots-requires
run_slots-requires c =
    subst (λ (runs : List Run). All IsSpelled (run_items (all_seen runs) 65536)) (sym c.deref.ensures.value)
    (cut-spelled 7 0 c.args.pages.now c.in_ok-runs.runs.items c.in_ok-runs.ensures 65536 (omega (arith, c.requires.few)) (omega arith))
