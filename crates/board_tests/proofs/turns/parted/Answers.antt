use Rattle.std.proofs.Common.{rules, arith, ◌≤◌, length, ap, ◌∙◌, get_or, vec_capacity}
use Rattle.std.specs.List.{remove}
use Rattle.count_board.specs.Passes.{known}
use Rattle.count_board.proofs.Gathering.{dealt_two}
use Rattle.board_tests.proofs.turns.parted.Goals as goal

pub returns : goal.returns
returns c = let d = dealt_two _ _ _ c.requires in let rs = c.remove-second.ensures in let rf = c.remove-first.ensures in
    let second = rs.value ∙ ap (λ l. get_or l 1 c.remove-second.result) d.2 in
    let rest = rs.items ∙ ap (λ l. remove l 1) d.2 in
    let first = rf.value ∙ ap (λ l. get_or l 0 c.remove-first.result) rest in
    let viewed = ap known first ∙ d.3.1 in let viewed' = ap known second ∙ d.4.1 in
    let two = ap length d.2 in
    let room : 2 ≤ vec_capacity c.args.passes = search (rules, two) in record {
      first = (
        (ap (λ p. p.seat.table_id) first ∙ d.3.0, ap (λ v. v.base) viewed),
        ap (λ v. v.stage) viewed,
        ap (λ v. v.lead) viewed,
        ap (λ v. v.own.number) viewed,
      );
      second = ((ap (λ p. p.seat.table_id) second ∙ d.4.0, ap (λ v. v.base) viewed'), ap (λ v. v.stage) viewed', ap (λ v. v.own.number) viewed');
      fresh = (ap (λ v. v.own) viewed, ap (λ v. v.own) viewed');
      place = (rf.items ∙ ap (λ l. remove l 0) rest, omega (arith, rs.capacity, rf.capacity));
    }
