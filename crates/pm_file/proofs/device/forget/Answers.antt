use Rattle.std.proofs.Common.{not, rules, tests}
use Rattle.std.specs.Prelude.{◌==◌}
use Rattle.std.proofs.lemmas.Fn.{filter_same}
use Rattle.pm_file.specs.declared.device.Flushed.{Flushed}
use Rattle.pm_file.proofs.device.forget.Goals as goal

pub returns-clause-left : goal.returns-clause-left
returns-clause-left c = filter_same _ (λ (f : Flushed). not (f.who == c.args.who)) _ (λ x b q step. (search (rules, tests), search (rules, tests))) _
    _ c.retain.ensures.filtered
