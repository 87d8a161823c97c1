use Rattle.std.proofs.Common.{◌∙◌, ap, sym, subst}
use Rattle.std.specs.Prelude.{IfNone}
use Rattle.dn_model.specs.Table.{Row}
use Rattle.fact_table.specs.Seen.{as_row}
use Rattle.reclaim.specs.Zero.{IsCountedRow}
use Rattle.count_events.proofs.RowHere.{same_row}
use Rattle.reclaim.proofs.zero.zero_page.Goals.{else-row-eq0-via-then-row-eq0+else-row-eq0-2, else-row-eq0-via-else-row-eq0}
use Rattle.reclaim.proofs.zero.zero_page.Goals as goal

pub returns-in_err-row-clause-counted : goal.returns-in_err-row-clause-counted
returns-in_err-row-clause-counted g c =
    subst (λ r. IfNone r (IsCountedRow (g.D.Pm.state c.args.device.now).now c.args.fact.now c.args.slot)) (sym c.from_residual.ensures)
    (λ d row table at none no_update. c.in_err-row.ensures.none d table row at.there at.slot_is)

pub returns-then-row-eq0-2-clause-zero : goal.returns-then-row-eq0-2-clause-zero
returns-then-row-eq0-2-clause-zero g c = λ d row table at.
    let same = same_row d (g.D.Pm.state c.args.device.now).now c.args.fact.now table c.args.slot row (as_row c.in_ok-row.row) at
    (c.in_ok-row.ensures.found d table) in
    record {
      page_is = ap (λ (r : Row). r.page) same;
      no_reference = ap (λ (r : Row). r.rfc) same ∙ c.if-row-eq0.true;
      no_update = ap (λ (r : Row). r.uc) same ∙ c.if-row-eq0-2.true;
    }

pub returns-else-row-eq0-clause-counted : goal.returns-else-row-eq0-clause-counted
returns-else-row-eq0-clause-counted g c = λ d row table at none no_update.
    let same = same_row d (g.D.Pm.state c.args.device.now).now c.args.fact.now table c.args.slot (as_row c.in_ok-row.row) row
    (c.in_ok-row.ensures.found d table) at in
    elim c.else-row-eq0.branch [
      | else-row-eq0-via-then-row-eq0+else-row-eq0-2 w ↦ w.if-row-eq0-2.false (ap (λ (r : Row). r.uc) same ∙ no_update)
      | else-row-eq0-via-else-row-eq0 w ↦ w.if-row-eq0.false (ap (λ (r : Row). r.rfc) same ∙ none)
    ]
