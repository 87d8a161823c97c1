use Rattle.std.proofs.Common.{◌≡◌, ℕ, ◌<◌, zero, suc, ◌++◌, ◌∷◌, [], List, length, get_or, arith, sym, ap, ◌∙◌, subst}
use Rattle.board_tests.proofs.Trials.{all_two}
use Rattle.board_tests.proofs.turns.together.Goals as goal

pub returns : goal.returns
returns c = let items = c.push_reserved-2.ensures.items
    ∙ ap (λ l. l ++ c.args.first ∷ []) (c.push_reserved.ensures.items ∙ ap (λ l. l ++ c.args.second ∷ []) c.requires.place.0) in record {
      all = all_two c.args.board.now _ c.args.first c.args.second items c.requires.first c.requires.second;
      items = items;
    }
