use Rattle.std.proofs.Common.{◌≡◌, ◌∙◌, ◌<◌, List, ℕ, ap, sym, subst, length, get_or}
use Rattle.dn_model.specs.declared.op.Op.{Op}
use Rattle.job_runs.specs.Player.{Standing}
use Rattle.job_runs.proofs.Walking.{few_client, rises_next, answered_next}
use Rattle.job_runs.proofs.player.Player.is_answered.Goals as goal

pub loop-client-preserved : goal.loop-client-preserved
loop-client-preserved c =
    let item = c.loop-client-item.result in
    let was = c.loop-client.invariant in
    let same = c.scripts-client-items.ensures in
    let within = subst (λ (xs : List (ℕ × List Op)). c.loop-client.client-index < length xs) same c.loop-client-test.true in
    let is = c.loop-client-item.is ∙ ap (λ (xs : List (ℕ × List Op)). get_or xs c.loop-client.client-index item) same in
    let few = few_client c.args.scripts.now c.loop-client.client-index item within is was.rises.0 was.rises.1 in
    let full : get_or c.args.self.now.answered item.0 0 ≡ length item.1 =
    ap (λ (s : Standing). get_or s.answered item.0 0) (sym c.self.view_is) ∙ c.if-self-client.false
    ∙ ap (λ (ops : List Op). length ops) c.ops.ensures in
    record {
      rises = (item.0, rises_next c.args.scripts.now c.loop-client.client-index item within is was.rises.0 was.rises.1);
      rest = λ p counts. answered_next c.args.scripts.now c.loop-client.client-index item within is p
          (sym (counts.answers item.0 few) ∙ full) ∙ was.rest p counts;
    }
