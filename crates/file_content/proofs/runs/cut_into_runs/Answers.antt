use Rattle.std.proofs.Common.{◌∙◌, ◌+◌, sym, subst, ap}
use Rattle.std.proofs.lemmas.List.{map-append}
use Rattle.file_content.specs.Runs.{seen, all_seen}
use Rattle.file_content.specs.SlotLoop.{IsCutTo}
use Rattle.file_content.proofs.Cutting.{cut-next}
use Rattle.file_content.proofs.runs.cut_into_runs.Goals as goal

pub loop-from-preserved : goal.loop-from-preserved
loop-from-preserved c =
    subst (IsCutTo c.args.first c.args.pages.now (c.loop-from.from + c.run_length-count.result))
    (sym (ap all_seen c.in_ok-push.ensures.items ∙ map-append seen c.loop-from.runs.items _))
    (cut-next c.args.first c.args.pages.now (all_seen c.loop-from.runs.items) c.loop-from.from c.run_length-count.result c.loop-from.invariant
    c.run_length-count.ensures c.requires.few c.loop-from-test.true)
