use Rattle.std.proofs.Common.{◌≡◌, ◌∙◌, ap, map, string_bytes}
use Rattle.denova_words.proofs.Parses.{none_from}
use Rattle.denova_words.proofs.arguments.has_none.Goals as goal

pub returns : goal.returns
returns c =
    c.is_some.ensures ∙ none_from _ _ (map string_bytes c.args.words.now) c.in_ok-matches.matches c.new.ensures.app
    (ap (map (λ w. w.now)) c.as_slice.ensures.value ∙ c.in_ok-line.ensures) c.in_ok-matches.ensures.some c.in_ok-matches.ensures.none
