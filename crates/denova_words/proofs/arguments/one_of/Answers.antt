use Rattle.std.proofs.Common.{◌≡◌, ◌∙◌, ap, ap₂, subst, map, string_bytes, IfSome, IfNone}
use Rattle.std.proofs.lemmas.Result.{IfOk-weaker}
use Rattle.clap.specs.Words.{app_of, with_rule}
use Rattle.denova_words.specs.Parses.{Parses, IsUnfit}
use Rattle.denova_words.proofs.Parses.{one_from, one_unfit}
use Rattle.denova_words.proofs.arguments.one_of.Goals as goal

pub returns-in-Some : goal.returns-in-Some
returns-in-Some c =
    let ws = map string_bytes c.args.words.now in
    let line = map (λ w. w.now) c.as_slice.result.now in
    let app = app_of c.in_ok-command.command in
    let is_app = c.in_ok-command.ensures.shape c.required.ensures.local ∙ ap₂ with_rule c.new.ensures.app c.required.ensures.rule in
    let is_line = ap (map (λ w. w.now)) c.as_slice.ensures.value ∙ c.in_ok-line.ensures in
    let p = subst (λ o. IfSome o (Parses app line)) c.in-Some.is c.in_ok-matches.ensures.some in
    IfOk-weaker c.copied.result _ _ (λ word is. is ∙ c.get_str.ensures ∙ one_from app line ws c.in-Some.matches is_app is_line p) c.copied.ensures

pub returns : goal.returns
returns c =
    let ws = map string_bytes c.args.words.now in
    let line = map (λ w. w.now) c.as_slice.result.now in
    let app = app_of c.in_ok-command.command in
    let is_app = c.in_ok-command.ensures.shape c.required.ensures.local ∙ ap₂ with_rule c.new.ensures.app c.required.ensures.rule in
    let is_line = ap (map (λ w. w.now)) c.as_slice.ensures.value ∙ c.in_ok-line.ensures in
    one_unfit app line ws is_app is_line (subst (λ o. IfNone o (IsUnfit app line)) c.in-None.is c.in_ok-matches.ensures.none)
