use Rattle.std.proofs.Common.{◌∙◌, ap, sym, subst, [], ◌∷◌, Bool}
use Rattle.std.specs.Prelude.{if◌then◌else◌}
use Rattle.job_runs.specs.Player.{Standing, Notes}
use Rattle.job_runs.proofs.Walking.{notes_by, notes_alone}
use Rattle.job_runs.proofs.player.Player.note.Goals as goal

pub returns-in_ok-push_rest : goal.returns-in_ok-push_rest
returns-in_ok-push_rest c =
    let put = c.in_ok-push_rest.ensures ∙ ap (λ (s : Standing). record s { due = 15 ∷ 16 ∷ s.due }) c.note_turn.ensures in
    subst (Notes c.args.order c.args.turn c.args.outcome.now c.args.self.now) (sym put)
    (notes_by c.args.order c.args.turn c.args.outcome.now c.args.self.now (15 ∷ 16 ∷ []) c.requires
    (λ event turn_is. c.has_rest.ensures event turn_is ∙ ap (λ (t : Bool). if t then 15 ∷ 16 ∷ [] else []) c.if-has_rest.true))

pub returns-else-has_rest : goal.returns-else-has_rest
returns-else-has_rest c =
    subst (Notes c.args.order c.args.turn c.args.outcome.now c.args.self.now) (sym c.note_turn.ensures)
    (notes_alone c.args.order c.args.turn c.args.outcome.now c.args.self.now c.requires
    (λ event turn_is. c.has_rest.ensures event turn_is ∙ ap (λ (t : Bool). if t then 15 ∷ 16 ∷ [] else []) c.if-has_rest.false))
