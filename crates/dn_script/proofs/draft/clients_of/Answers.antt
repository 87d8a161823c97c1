use Rattle.std.proofs.Common.{◌∙◌, ◌+◌, arith}
use Rattle.dn_script.proofs.ClientLaws.{clients_to_next, lines_of_left}
use Rattle.dn_script.proofs.draft.clients_of.Goals as goal

pub loop-before-preserved : goal.loop-before-preserved
loop-before-preserved c =
    let n = c.loop-before.before in
    let owned = c.args.owned.items in
    let same = c.loop-before.invariant.others in
    let split = c.in_ok-lines.ensures in
    record {
      so_far = clients_to_next n c.args.named.now owned _ _ _ c.loop-before.invariant.so_far (split.own ∙ same (n + 1) (omega arith))
          c.in_ok-push_client.ensures;
      others = λ m later. lines_of_left m n c.loop-before.left.items _ owned later split.others (same m (omega arith));
    }
