use Rattle.std.proofs.Common.{rules, ap, ◌∙◌, subst, sym}
use Rattle.count_board.specs.Passes.{known, account, IsOf, IsAway}
use Rattle.count_board.proofs.Members.{all_at, all_again}
use Rattle.board_tests.proofs.many.turn_for_each.Goals as goal

pub for_each_mut-requires-clause-accepts : goal.for_each_mut-requires-clause-accepts
for_each_mut-requires-clause-accepts g c κs within = λ i p lt is. let z = c.args.board.now.table.shared.table_id in let base =
    c.args.board.now.table.shared.key.value in
    let h = subst (λ q. IsOf z base q × IsAway q) (sym is) (all_at z base c.args.passes.now c.requires.passes i p.now lt) in
    (search rules, c.requires.inside, h)

pub returns : goal.returns
returns g c = let z = c.args.board.now.table.shared.table_id in let base = c.args.board.now.table.shared.key.value in
    all_again z base c.args.passes.now c.for_each_mut.new.s c.requires.passes c.for_each_mut.auto.s
    (λ i d lt. let one = (c.for_each_mut.ensures i d lt).1 in let said = one.call in (
      subst (IsOf z base) one.left said.0,
      subst IsAway one.left said.1,
      ap (λ q. (known q).lead) (sym one.left) ∙ (said.2 ∙ ap (λ q. (known q).lead) one.argument_is),
      ap (λ q. (account q).number) (sym one.left) ∙ (said.3 ∙ ap (λ q. (account q).number) one.argument_is),
    ))
