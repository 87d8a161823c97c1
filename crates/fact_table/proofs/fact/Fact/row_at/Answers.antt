use Rattle.std.proofs.Common.{sym, ap, subst}
use Rattle.std.proofs.lemmas.Bool.{false≢true}
use Rattle.pm_layout.specs.declared.Geometry.{Geometry}
use Rattle.fingerprint.specs.Slot.{IsReadFrom}
use Rattle.fact_slot.specs.Words.{words_of}
use Rattle.fact_scan.specs.declared.row.Row.{Row}
use Rattle.fact_table.specs.Seen.{as_row}
use Rattle.fact_table.specs.Table.{Table, IsAtSlot}
use Rattle.fact_table.proofs.Tables.{none_free, none_at, found_at}
use Rattle.fact_table.proofs.fact.Fact.row_at.Goals as goal

pub returns-then-is_unused-clause-none : goal.returns-then-is_unused-clause-none
returns-then-is_unused-clause-none g c = λ d is. none_free d (g.D.Pm.state c.args.device.now).now c.args.self.now is c.args.slot
    (c.is_unused.ensures.0 c.if-is_unused.true)

pub returns-then-held-eq0-clause-none : goal.returns-then-held-eq0-clause-none
returns-then-held-eq0-clause-none g c = λ d is.
    let words = (g.D.Pm.state c.args.device.now).now in
    let read = subst (λ (k : Geometry). IsReadFrom (words_of k words c.args.slot) c.peek_slot-held.result)
    (ap (λ (t : Table). t.geometry) c.self.view_is) c.peek_slot-held.ensures.read in
    none_at d words c.args.self.now is c.args.slot c.peek_slot-held.result read c.peek_slot-held.ensures.fits c.if-held-eq0.true

pub returns-clause-found : goal.returns-clause-found
returns-clause-found g c = λ d is.
    let words = (g.D.Pm.state c.args.device.now).now in
    let read = subst (λ (k : Geometry). IsReadFrom (words_of k words c.args.slot) c.peek_slot-held.result)
    (ap (λ (t : Table). t.geometry) c.self.view_is) c.peek_slot-held.ensures.read in
    subst (λ (r : Row). IsAtSlot d c.args.slot (as_row r)) (sym c.of_slot.ensures)
    (found_at d words c.args.self.now is c.args.slot c.peek_slot-held.result read c.peek_slot-held.ensures.fits c.requires.slot
    (λ unused. false≢true (c.if-is_unused.ensures.1 unused)) c.if-held-eq0.false)
