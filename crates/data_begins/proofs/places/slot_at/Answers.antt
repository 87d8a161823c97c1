use Rattle.std.proofs.Common.{sym, ◌∙◌}
use Rattle.fact_table.specs.Seen.{as_row}
use Rattle.data_begins.proofs.RowLists.{slot_without, slot_with}
use Rattle.data_begins.proofs.places.slot_at.Goals as goal

pub returns-in-None : goal.returns-in-None
returns-in-None g c = λ d ino table places. slot_without d ino c.args.place c.in_ok-mapping.mapping
    (sym c.in_ok-mapping.was ∙ c.get.ensures ∙ places c.args.place) (c.in-None.ensures.none d table)

pub returns-in-Some : goal.returns-in-Some
returns-in-Some g c = λ d ino table places. slot_with d ino c.args.place c.in_ok-mapping.mapping (as_row c.in-Some.row) table.good.apart
    (sym c.in_ok-mapping.was ∙ c.get.ensures ∙ places c.args.place) (c.in-Some.ensures.found d table)
