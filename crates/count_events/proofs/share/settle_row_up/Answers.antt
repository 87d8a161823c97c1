use Rattle.std.proofs.Common.{◌+◌, ◌-◌, ◌∙◌, ap, arith}
use Rattle.dn_model.specs.Table.{Row}
use Rattle.fingerprint.specs.Count.{count_word}
use Rattle.fingerprint.specs.declared.count.CountWord.{CountWord}
use Rattle.fact_counts.proofs.Counting.{row_small}
use Rattle.count_events.proofs.RowHere.{same_row}
use Rattle.count_events.proofs.share.settle_row_up.Goals as goal

pub row_at-requires-clause-table : goal.row_at-requires-clause-table
row_at-requires-clause-table g c = record { disk = c.requires.row.disk; is = c.requires.row.table }

pub row_at-requires-clause-slot : goal.row_at-requires-clause-slot
row_at-requires-clause-slot g c = let has = c.requires.row in row_small has.disk (g.D.Pm.state c.args.device.now).now c.args.fact.now has.table
    c.args.slot has.row has.at_slot

pub unreachable-requires : goal.unreachable-requires
unreachable-requires g c = let has = c.requires.row in c.in_default.ensures.none has.disk has.table has.row has.at_slot.there has.at_slot.slot_is

pub returns-in-Ok-clause-word : goal.returns-in-Ok-clause-word
returns-in-Ok-clause-word g c = λ d row table at_slot.
    let same = same_row d (g.D.Pm.state c.args.device.now).now c.args.fact.now table c.args.slot _ row (c.in-Some.ensures.found d table) at_slot in
    c.word-word.ensures ∙ ap (λ (x : CountWord). count_word x.rfc x.uc) c.up.ensures ∙ ap (λ (r : Row). count_word (r.rfc + 1) (r.uc - 1)) same

pub up-requires-clause-under_way : goal.up-requires-clause-under_way
up-requires-clause-under_way g c =
    let has = c.requires.row in
    let same = same_row has.disk (g.D.Pm.state c.args.device.now).now c.args.fact.now has.table c.args.slot _ has.row
    (c.in-Some.ensures.found has.disk has.table) has.at_slot in
    omega (arith, has.has.0, ap (λ (r : Row). r.uc) same)

pub up-requires-clause-fits : goal.up-requires-clause-fits
up-requires-clause-fits g c =
    let has = c.requires.row in
    let same = same_row has.disk (g.D.Pm.state c.args.device.now).now c.args.fact.now has.table c.args.slot _ has.row
    (c.in-Some.ensures.found has.disk has.table) has.at_slot in
    omega (arith, has.has.1, ap (λ (r : Row). r.rfc) same)
