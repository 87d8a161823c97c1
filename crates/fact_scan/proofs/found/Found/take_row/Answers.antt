use Rattle.std.proofs.Common.{refl, sym, ◌∙◌}
use Rattle.std.proofs.lemmas.Bool.{false≢true}
use Rattle.fact_scan.proofs.Standing.{held_row, held_new}
use Rattle.fact_scan.proofs.found.Found.take_row.Goals as goal
use Rattle.fact_scan.proofs.found.Found.take_row.Goals.{then-not-is_row-via-then-not-is_row, then-not-is_row-via-else-not-is_row+then-not-is_new}

pub returns-then-not-is_row-clause-refused : goal.returns-then-not-is_row-clause-refused
returns-then-not-is_row-clause-refused g c =
    let words = (g.D.Pm.state c.args.device.now).now in (
      refl,
      λ row may.
          let is = held_row c.args.g.now words c.args.prefix c.args.slot c.args.self.now c.peek_slot-held.result c.load_field-third.result
          c.peek_slot-held.ensures.read c.peek_slot-held.ensures.fits c.load_field-third.ensures row may in
          let new = held_new c.args.g.now words c.args.prefix c.args.slot c.args.self.now c.peek_slot-held.result c.load_field-third.result
          c.peek_slot-held.ensures.read c.peek_slot-held.ensures.fits c.load_field-third.ensures row may in
          elim c.then-not-is_row.branch [
            | then-not-is_row-via-then-not-is_row w ↦ false≢true (sym w.if-not-is_row.true ∙ c.is_row.ensures.1 is)
            | then-not-is_row-via-else-not-is_row+then-not-is_new w ↦ false≢true (sym w.if-not-is_new.true ∙ w.is_new.ensures.1 new)
          ],
    )
