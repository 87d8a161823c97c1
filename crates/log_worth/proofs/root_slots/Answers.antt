use Rattle.std.proofs.Common.{sym, ◌∙◌}
use Rattle.law_clean_count.proofs.NameCounts.{root_takes_adds}
use Rattle.log_worth.proofs.root_slots.Goals as goal

pub returns-clause-cleaned : goal.returns-clause-cleaned
returns-clause-cleaned c = λ log kept_is. root_takes_adds log c.args.names.now.map kept_is ∙ sym c.add_slots.ensures
