use Rattle.std.proofs.Common.{◌∙◌, ◌<◌, List, ℕ, length, get_or, ap, subst}
use Rattle.std.specs.Prelude.{slice_get}
use Rattle.dn_model.specs.declared.op.Op.{Op}
use Rattle.job_runs.proofs.Walking.{copied_got, found_script}
use Rattle.job_runs.proofs.player.operation_of.Goals as goal

pub returns-then-client-who : goal.returns-then-client-who
returns-then-client-who c =
    let item = c.loop-client-item.result in
    let same = c.scripts-client-items.ensures in
    let within = subst (λ (xs : List (ℕ × List Op)). c.loop-client.client-index < length xs) same c.loop-client-test.true in
    let is = c.loop-client-item.is ∙ ap (λ (xs : List (ℕ × List Op)). get_or xs c.loop-client.client-index item) same in
    copied_got c.get.result c.ops.result.now c.args.number c.get.ensures.lookup.3
    ∙ ap (λ (ops : List Op). slice_get ops c.args.number) (c.ops.ensures
    ∙ found_script c.args.scripts.now c.loop-client.client-index item within is c.args.who c.loop-client.invariant c.if-client-who.true)
