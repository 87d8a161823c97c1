use Rattle.std.proofs.Common.{◌∙◌, ℕ, List, [], ap}
use Rattle.std.proofs.lemmas.List.{get_or_default}
use Rattle.job_texts.specs.Telling.{told_by}
use Rattle.job_texts.proofs.TellingLaws.{tells_one, tells_none, line_is, line_none, lines_none}
use Rattle.job_texts.proofs.told.next_line.Goals as goal

pub returns-clause-line : goal.returns-clause-line
returns-clause-line c =
    let clients = c.args.clients.now in
    let first = c.in-Some.ensures.found in
    c.number_at-line.ensures
    ∙ line_is clients c.args.who c.in-Some.at first c.args.told.now c.requires.each c.numbers.result.now
    (c.numbers.ensures ∙ ap (λ (p : ℕ × List ℕ). p.1) (get_or_default clients c.in-Some.at c.index-clients-at.result (0, []) first.below))

pub returns-clause-tells : goal.returns-clause-tells
returns-clause-tells c = tells_one c.args.clients.now c.args.who c.in-Some.at c.in-Some.ensures.found c.args.told.now c.requires.each

pub returns-in_default-clause-line : goal.returns-in_default-clause-line
returns-in_default-clause-line c = line_none c.args.clients.now c.args.who (told_by c.args.clients.now c.args.told.now c.args.who)
    (lines_none c.args.who c.args.clients.now c.in_default.ensures.none)

pub returns-in_default-clause-tells : goal.returns-in_default-clause-tells
returns-in_default-clause-tells c = tells_none c.args.clients.now c.args.who c.args.told.now
    (lines_none c.args.who c.args.clients.now c.in_default.ensures.none)
