use Rattle.std.proofs.Common.{ℕ, List, subst}
use Rattle.denova_calls.specs.LookSteps.{CopyEnds}
use Rattle.denova_calls.proofs.Tried.{copy_ends}
use Rattle.denova_calls.proofs.trials.run_on.Goals as goal

pub returns-in-Ok-run_scripts : goal.returns-in-Ok-run_scripts
returns-in-Ok-run_scripts g c =
    let print = g.F.Fingerprint.print in
    let plan = c.args.plan.now in
    let ran = c.in-Ok-run_scripts.ensures in
    subst (λ (turns : List ℕ). CopyEnds print plan.scripts turns c.args.calls c.args.words.items c.list_front.result) c.deref.ensures.value
    (copy_ends print plan.scripts c.deref.result.now c.args.calls c.args.words.items _ c.in-Ok.device c.in-Ok.ensures.new c.in-Ok.ensures.still
    c.in-Ok-run_scripts.v c.in-Ok-run_scripts.v.device.agrees ran.run ran.goes_on c.list_front.result c.list_front.ensures)
