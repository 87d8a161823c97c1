use Rattle.std.proofs.Common.{ℕ, ◌<◌, List, map, sym, subst}
use Rattle.std.specs.Prelude.{All}
use Rattle.std.proofs.lemmas.Result.{err_from_is_err_and}
use Rattle.pm_layout.specs.Geometry.{slots}
use Rattle.dn_model.specs.Faults.{IsLeast}
use Rattle.fact_scan.specs.declared.row.Row.{Row}
use Rattle.fact_scan.specs.Seen.{as_row}
use Rattle.fact_table.specs.Table.{HasTable}
use Rattle.fact_table.specs.Loaded.{ArePointers, AreUnused, IsWrong}
use Rattle.fact_table.proofs.Whole.{page_small, slot_small, pointer_fault, whole, all_found, told_fault}
use Rattle.fact_table.proofs.fact.Fact.load.Goals as goal

pub returns-in_err-rows-clause-fault : goal.returns-in_err-rows-clause-fault
returns-in_err-rows-clause-fault g c =
    let p = err_from_is_err_and c.from_residual.result c.from_residual.ensures.1 in
    rw (p.1, p.2) (told_fault c.args.g.now (g.D.Pm.state c.args.device.now).now c.in_err-rows.field-0.0 c.in_err-rows.ensures.fault)

pub pointers_of-requires-clause-pages : goal.pointers_of-requires-clause-pages
pointers_of-requires-clause-pages g c =
    subst (λ (found : List Row). All (λ row. row.page < c.args.g.now.pages) found) (sym c.deref.ensures.value)
    (all_found c.in_ok-rows.rows.items (λ row. row.page < c.args.g.now.pages) (page_small c.args.g.now (g.D.Pm.state c.args.device.now).now
    (map as_row c.in_ok-rows.rows.items) c.in_ok-rows.ensures.rows))

pub pointers_of-requires-clause-slots : goal.pointers_of-requires-clause-slots
pointers_of-requires-clause-slots g c =
    subst (λ (found : List Row). All (λ row. row.slot < slots c.args.g.now) found) (sym c.deref.ensures.value)
    (all_found c.in_ok-rows.rows.items (λ row. row.slot < slots c.args.g.now) (slot_small c.args.g.now (g.D.Pm.state c.args.device.now).now
    (map as_row c.in_ok-rows.rows.items) c.in_ok-rows.ensures.rows))

pub unused_slots-requires-clause-slots : goal.unused_slots-requires-clause-slots
unused_slots-requires-clause-slots g c =
    subst (λ (found : List Row). All (λ row. row.slot < slots c.args.g.now) found) (sym c.deref-3.ensures.value)
    (all_found c.in_ok-rows.rows.items (λ row. row.slot < slots c.args.g.now) (slot_small c.args.g.now (g.D.Pm.state c.args.device.now).now
    (map as_row c.in_ok-rows.rows.items) c.in_ok-rows.ensures.rows))

pub returns-in-Some-clause-fault : goal.returns-in-Some-clause-fault
returns-in-Some-clause-fault g c =
    let words = (g.D.Pm.state c.args.device.now).now in
    pointer_fault c.args.g.now words (map as_row c.in_ok-rows.rows.items) c.in_ok-rows.ensures.rows c.in_ok-wanted.wanted.items
    (subst (λ (found : List Row). ArePointers c.args.g.now (map as_row found) c.in_ok-wanted.wanted.items) c.deref.ensures.value
    c.in_ok-wanted.ensures)
    c.in-Some.page
    (subst (λ (wanted : List ℕ). IsLeast c.args.g.now.pages (IsWrong c.args.g.now words wanted) c.in-Some.page) c.deref-2.ensures.value
    c.in-Some.ensures.some)

pub returns-clause-table : goal.returns-clause-table
returns-clause-table g c =
    let words = (g.D.Pm.state c.args.device.now).now in
    subst (HasTable words) (sym c.of_parts.ensures)
    (whole c.args.g.now words (map as_row c.in_ok-rows.rows.items) c.in_ok-rows.ensures.rows c.in_ok-wanted.wanted.items
    (subst (λ (found : List Row). ArePointers c.args.g.now (map as_row found) c.in_ok-wanted.wanted.items) c.deref.ensures.value
    c.in_ok-wanted.ensures)
    c.requires.accepted c.requires.size
    (subst (λ (wanted : List ℕ). (page : ℕ) → page < c.args.g.now.pages → ¬ IsWrong c.args.g.now words wanted page) c.deref-2.ensures.value
    c.in_default.ensures.none)
    c.in_ok-free.free
    (subst (λ (found : List Row). AreUnused c.args.g.now (map as_row found) c.in_ok-free.free) c.deref-3.ensures.value c.in_ok-free.ensures))
