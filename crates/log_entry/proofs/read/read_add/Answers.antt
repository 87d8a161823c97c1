use Rattle.std.proofs.lemmas.Option.{MatchOption-at_some, MatchOption-at_none}
use Rattle.std.specs.Prelude.{slice_index}
use Rattle.std.proofs.Common.{[], get_or}
use Rattle.log_entry.specs.Reading.{name_bytes}
use Rattle.log_entry.proofs.Heads.{named, unnamed, add_fits}
use Rattle.log_entry.proofs.read.read_add.Goals as goal
use Rattle.log_entry.specs.declared.item.LogItem.TheVariants.{Add}

pub returns-in_default : goal.returns-in_default
returns-in_default c =
    let slots = c.args.slots.now in
    unnamed (Add (slice_index (get_or slots 0 []) 1) (name_bytes slots)) slots
    (MatchOption-at_none _ _ c.in_default.is c.in_ok-name.ensures.none)
    (λ other good same. add_fits other slots c.requires.some c.requires.kind good same)

pub returns : goal.returns
returns c =
    let slots = c.args.slots.now in
    named (λ n. Add (slice_index (get_or slots 0 []) 1) n) c.in-Some.name slots
    (MatchOption-at_some _ _ _ c.in-Some.is c.in_ok-name.ensures.name)
    (MatchOption-at_some _ _ _ c.in-Some.is c.in_ok-name.ensures.legal)
    (λ other good same. add_fits other slots c.requires.some c.requires.kind good same)
