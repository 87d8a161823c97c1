use Rattle.std.proofs.Common.{sym, ap, ◌∙◌}
use Rattle.file_index.specs.Runs.{runs_of}
use Rattle.law_clean_count.specs.CountLaws.{or_size_slots}
use Rattle.law_clean_count.proofs.WriteCounts.{file_takes_runs}
use Rattle.log_worth.proofs.file_slots.Goals as goal

pub returns-clause-cleaned : goal.returns-clause-cleaned
returns-clause-cleaned c = λ g ino log some good size_is kept_is.
    file_takes_runs g ino log c.args.places.now.map some good kept_is
    ∙ ap (λ size. or_size_slots size (runs_of c.args.places.now.map)) size_is
    ∙ ap (or_size_slots c.args.size) (sym c.runs.ensures) ∙ sym c.or_size.ensures
