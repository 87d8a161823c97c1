use Rattle.std.proofs.lemmas.Option.{MatchOption-at_some, MatchOption-at_none}
use Rattle.log_entry.specs.Reading.{name_bytes}
use Rattle.log_entry.proofs.Heads.{named, unnamed, forget_fits}
use Rattle.log_entry.proofs.read.read_forget.Goals as goal
use Rattle.log_entry.specs.declared.item.LogItem.TheVariants.{Forget}

pub returns-in_default : goal.returns-in_default
returns-in_default c =
    let slots = c.args.slots.now in
    unnamed (Forget (name_bytes slots)) slots
    (MatchOption-at_none _ _ c.in_default.is c.in_ok-name.ensures.none)
    (λ other good same. forget_fits other slots c.requires.some c.requires.kind good same)

pub returns : goal.returns
returns c =
    let slots = c.args.slots.now in
    named (λ n. Forget n) c.in-Some.name slots
    (MatchOption-at_some _ _ _ c.in-Some.is c.in_ok-name.ensures.name)
    (MatchOption-at_some _ _ _ c.in-Some.is c.in_ok-name.ensures.legal)
    (λ other good same. forget_fits other slots c.requires.some c.requires.kind good same)
