use Rattle.std.proofs.Common.{◌≡◌, ◌+◌, refl, sym, ◌∙◌, ap, subst, arith}
use Rattle.std.specs.Prelude.{slice_index}
use Rattle.pm_layout.specs.declared.Geometry.{Geometry}
use Rattle.pm_layout.specs.Geometry.{pointer_word}
use Rattle.dn_model.specs.Table.{Row as TableRow}
use Rattle.fact_table.specs.Seen.{as_row}
use Rattle.fact_table.specs.Table.{Table}
use Rattle.fact_table.proofs.Tables.{pointer_read, pointer_small, leads_to, one_row}
use Rattle.fact_table.proofs.fact.Fact.by_page.Goals as goal

pub returns-in_err-slot-clause-none : goal.returns-in_err-slot-clause-none
returns-in_err-slot-clause-none g c = rw c.from_residual.ensures (λ d is row there same.
    let words = (g.D.Pm.state c.args.device.now).now in
    let zero_word = subst (λ (k : Geometry). slice_index words (pointer_word k c.args.page) ≡ 0) (ap (λ (t : Table). t.geometry) c.self.view_is)
    (c.in_err-slot.ensures.none.0 refl) in
    let leads = leads_to d words c.args.self.now is c.args.page c.requires.page row there same in
    omega (arith, zero_word, leads))

pub row_at-requires-clause-slot : goal.row_at-requires-clause-slot
row_at-requires-clause-slot g c =
    let words = (g.D.Pm.state c.args.device.now).now in
    let table = c.requires.table in
    let read = pointer_read table.disk words c.args.self.now table.is c.args.page c.requires.page in
    let small = pointer_small table.disk words c.args.self.now table.is c.args.page c.requires.page in
    let here = subst (λ (k : Geometry). slice_index words (pointer_word k c.args.page) ≡ c.in_ok-slot.slot + 1)
    (ap (λ (t : Table). t.geometry) c.self.view_is) c.in_ok-slot.ensures.slot in
    omega (arith, read, small, here)

pub returns-in_err-row-clause-none : goal.returns-in_err-row-clause-none
returns-in_err-row-clause-none g c = rw c.from_residual-in_err-row.ensures (λ d is row there same.
    let words = (g.D.Pm.state c.args.device.now).now in
    let here = subst (λ (k : Geometry). slice_index words (pointer_word k c.args.page) ≡ c.in_ok-slot.slot + 1)
    (ap (λ (t : Table). t.geometry) c.self.view_is) c.in_ok-slot.ensures.slot in
    let leads = leads_to d words c.args.self.now is c.args.page c.requires.page row there same in
    c.in_err-row.ensures.none d is row there (omega (arith, here, leads)))

pub returns-else-row-page-clause-none : goal.returns-else-row-page-clause-none
returns-else-row-page-clause-none g c = λ d is row there same.
    let words = (g.D.Pm.state c.args.device.now).now in
    let here = subst (λ (k : Geometry). slice_index words (pointer_word k c.args.page) ≡ c.in_ok-slot.slot + 1)
    (ap (λ (t : Table). t.geometry) c.self.view_is) c.in_ok-slot.ensures.slot in
    let leads = leads_to d words c.args.self.now is c.args.page c.requires.page row there same in
    let at = c.in_ok-row.ensures.found d is in
    let slot : row.slot ≡ c.in_ok-slot.slot = omega (arith, here, leads) in
    let one = one_row d words c.args.self.now is (as_row c.in_ok-row.row) row at.there there (at.slot_is ∙ sym slot) in
    c.if-row-page.false (ap (λ (r : TableRow). r.page) one ∙ same)
