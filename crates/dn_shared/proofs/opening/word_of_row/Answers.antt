use Rattle.std.proofs.Common.{sym, ◌∙◌}
use Rattle.dn_shared.proofs.Rowed.{word_at_row, word_at_none}
use Rattle.dn_shared.proofs.opening.word_of_row.Goals as goal

pub returns-in-Some : goal.returns-in-Some
returns-in-Some g c d volume = word_at_row d _ _ volume c.args.slot _ (c.in-Some.ensures.found d volume) ∙ sym c.word.ensures

pub returns-in-None : goal.returns-in-None
returns-in-None g c d volume = word_at_none d c.args.slot (c.in-None.ensures.none d volume)
