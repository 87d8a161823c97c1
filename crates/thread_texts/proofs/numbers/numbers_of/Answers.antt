use Rattle.std.proofs.Common.{◌≡◌, ◌∙◌, ◌++◌, ◌∷◌, [], ℕ, List, ap, sym, take}
use Rattle.std.proofs.lemmas.List.{take_more}
use Rattle.dn_script.specs.declared.job.Line.{Line}
use Rattle.job_texts.specs.Plan.{number_in, numbers_in}
use Rattle.job_texts.proofs.Planned.{numbers_in_more}
use Rattle.thread_texts.proofs.numbers.numbers_of.Goals as goal

pub loop-line-preserved : goal.loop-line-preserved
loop-line-preserved c =
    let lines = c.args.lines.now in
    let k = c.loop-line.line-index in
    let line = c.line-item.result in
    c.in_ok-push_number.ensures
    ∙ ap (λ (ns : List ℕ). ns ++ number_in line.number line.command) c.loop-line.invariant
    ∙ sym (numbers_in_more (take k lines) line)
    ∙ ap (λ (x : Line). numbers_in (take k lines ++ x ∷ [])) c.line-item.is
    ∙ ap numbers_in (sym (take_more lines k line c.loop-line-test.true))
