use Rattle.std.proofs.Common.{sym, ◌∙◌, ap}
use Rattle.dn_model.specs.Table.{Row}
use Rattle.fact_table.specs.Seen.{as_row}
use Rattle.fact_table.proofs.Tables.{one_row}
use Rattle.fact_changes.proofs.Emptied.{zero_small}
use Rattle.fact_changes.proofs.removal.remove_zero.Goals as goal

pub row_at-requires-clause-slot : goal.row_at-requires-clause-slot
row_at-requires-clause-slot g c =
    let can = c.requires.row in
    zero_small can.disk can.row (g.D.Pm.state c.args.device.now) c.args.fact.now c.args.slot can.may

pub take_out-requires-clause-read : goal.take_out-requires-clause-read
take_out-requires-clause-read g c =
    let words = (g.D.Pm.state c.args.device.now).now in
    record {
      page_is = λ d r is at.
          let here = c.in-Some.ensures.found d is in
          ap (λ (x : Row). x.page) (one_row d words c.args.fact.now is r (as_row c.in-Some.row) at.there here.there (at.slot_is ∙ sym here.slot_is));
      print_is = λ d r is at.
          let here = c.in-Some.ensures.found d is in
          ap (λ (x : Row). x.print) (one_row d words c.args.fact.now is r (as_row c.in-Some.row) at.there here.there (at.slot_is ∙ sym here.slot_is));
    }

pub returns-in-None-clause-images : goal.returns-in-None-clause-images
returns-in-None-clause-images g c = λ d row may. absurd (c.in-None.ensures.none d may.table row may.at_slot.there may.at_slot.slot_is)

pub returns-in-None-clause-done : goal.returns-in-None-clause-done
returns-in-None-clause-done g c = λ d row may. absurd (c.in-None.ensures.none d may.table row may.at_slot.there may.at_slot.slot_is)

pub returns-in-None-clause-settled : goal.returns-in-None-clause-settled
returns-in-None-clause-settled g c = λ d row may. absurd (c.in-None.ensures.none d may.table row may.at_slot.there may.at_slot.slot_is)

pub returns-in-None-clause-frees : goal.returns-in-None-clause-frees
returns-in-None-clause-frees g c = let can = c.requires.row in absurd (c.in-None.ensures.none can.disk can.may.table can.row can.may.at_slot.there
    can.may.at_slot.slot_is)

pub returns-in-None-clause-only : goal.returns-in-None-clause-only
returns-in-None-clause-only g c = λ d row may. absurd (c.in-None.ensures.none d may.table row may.at_slot.there may.at_slot.slot_is)

pub returns-in-None-clause-settles : goal.returns-in-None-clause-settles
returns-in-None-clause-settles g c = let can = c.requires.row in absurd (c.in-None.ensures.none can.disk can.may.table can.row can.may.at_slot.there
    can.may.at_slot.slot_is)

pub returns-in-None-clause-others : goal.returns-in-None-clause-others
returns-in-None-clause-others g c = λ d row may. absurd (c.in-None.ensures.none d may.table row may.at_slot.there may.at_slot.slot_is)
