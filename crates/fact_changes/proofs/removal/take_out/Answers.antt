use Rattle.std.proofs.Common.{◌-◌, ◌<◌, ◌≤◌, sym, ◌∙◌, ap, subst, arith}
use Rattle.pm_layout.specs.declared.Geometry.{Geometry}
use Rattle.pm_layout.specs.Geometry.{directs, slots}
use Rattle.dn_model.specs.Table.{prefix_of}
use Rattle.std.proofs.lemmas.Result.{on_ok_weaker}
use Rattle.fact_changes.proofs.Emptied.{
  zero_small,
  zero_taken,
  zero_only,
  zero_keeps,
  direct_take,
  direct_can,
  direct_gate,
  direct_made,
  behind_has,
  behind_can,
  behind_gate,
  behind_images,
  behind_settles,
  behind_made,
}
use Rattle.fact_changes.proofs.removal.take_out.Goals as goal

pub remove_direct-requires-clause-can : goal.remove_direct-requires-clause-can
remove_direct-requires-clause-can g c =
    let S = g.D.Pm.state in
    let can = c.requires.row in
    direct_can can.disk can.row (S c.args.device.now) c.args.fact.now c.args.slot can.may c.geometry-g.result c.geometry-g.ensures c.args.page
    (c.requires.read.page_is can.disk can.row can.may.table can.may.at_slot) (omega (arith, c.directs.ensures.value, c.if-slot-directs.true))

pub returns-then-slot-directs-clause-images : goal.returns-then-slot-directs-clause-images
returns-then-slot-directs-clause-images g c =
    let S = g.D.Pm.state in
    λ d row may. c.remove_direct.ensures.images d row (direct_take d row (S c.args.device.now) c.args.fact.now c.args.slot may c.geometry-g.result
    c.geometry-g.ensures c.args.page (c.requires.read.page_is d row may.table may.at_slot)
    (omega (arith, c.directs.ensures.value, c.if-slot-directs.true)))

pub returns-then-slot-directs-clause-done : goal.returns-then-slot-directs-clause-done
returns-then-slot-directs-clause-done g c =
    let S = g.D.Pm.state in
    on_ok_weaker c.remove_direct.result (λ done d row may. direct_made d row (S c.args.device.now) c.args.fact.now c.args.slot may c.geometry-g.result
    c.geometry-g.ensures c.args.page (c.requires.read.page_is d row may.table may.at_slot)
    (omega (arith, c.directs.ensures.value, c.if-slot-directs.true)) (S c.remove_direct.new.device) c.remove_direct.ensures.only.words done)
    c.remove_direct.ensures.done

pub returns-then-slot-directs-clause-settled : goal.returns-then-slot-directs-clause-settled
returns-then-slot-directs-clause-settled g c =
    let S = g.D.Pm.state in
    on_ok_weaker c.remove_direct.result (λ settles d row may. settles d row (direct_take d row (S c.args.device.now) c.args.fact.now c.args.slot may
    c.geometry-g.result c.geometry-g.ensures c.args.page (c.requires.read.page_is d row may.table may.at_slot)
    (omega (arith, c.directs.ensures.value, c.if-slot-directs.true)))) c.remove_direct.ensures.settled

pub returns-then-slot-directs-clause-only : goal.returns-then-slot-directs-clause-only
returns-then-slot-directs-clause-only g c =
    let S = g.D.Pm.state in
    λ d row may. zero_only d row (S c.args.device.now) c.args.fact.now c.args.slot may c.geometry-g.result c.geometry-g.ensures c.args.page
    (c.requires.read.page_is d row may.table may.at_slot) _ (direct_gate d row (S c.args.device.now) c.args.fact.now c.args.slot may
    c.geometry-g.result c.geometry-g.ensures c.args.page (c.requires.read.page_is d row may.table may.at_slot)
    (omega (arith, c.directs.ensures.value, c.if-slot-directs.true))) (S c.remove_direct.new.device) c.remove_direct.ensures.only

pub returns-then-slot-directs-clause-others : goal.returns-then-slot-directs-clause-others
returns-then-slot-directs-clause-others g c =
    let S = g.D.Pm.state in
    λ d row may. zero_keeps d row (S c.args.device.now) c.args.fact.now c.args.slot may c.geometry-g.result c.geometry-g.ensures c.args.page
    (c.requires.read.page_is d row may.table may.at_slot) _ (direct_gate d row (S c.args.device.now) c.args.fact.now c.args.slot may
    c.geometry-g.result c.geometry-g.ensures c.args.page (c.requires.read.page_is d row may.table may.at_slot)
    (omega (arith, c.directs.ensures.value, c.if-slot-directs.true))) c.args.who (S c.remove_direct.new.device) c.remove_direct.ensures.others

pub before_over-before-requires-clause-chain : goal.before_over-before-requires-clause-chain
before_over-before-requires-clause-chain g c =
    let S = g.D.Pm.state in
    let can = c.requires.row in
    behind_has can.disk can.row (S c.args.device.now) c.args.fact.now c.args.slot can.may c.geometry-g.result c.geometry-g.ensures c.args.page
    (c.requires.read.page_is can.disk can.row can.may.table can.may.at_slot) (omega (arith, c.directs.ensures.value, c.if-slot-directs.false))
    c.direct_of-direct.result (c.direct_of-direct.ensures.slot ∙ ap (prefix_of c.geometry-g.result)
    (sym (c.requires.read.print_is can.disk can.row can.may.table can.may.at_slot)) ∙ ap (λ (k : Geometry). prefix_of k can.row.print)
    (c.geometry-g.ensures ∙ sym can.may.table.geometry))

pub remove_chained-requires-clause-slot : goal.remove_chained-requires-clause-slot
remove_chained-requires-clause-slot g c =
    let S = g.D.Pm.state in
    let can = c.requires.row in
    subst (λ (k : Geometry). c.args.slot < slots k) (sym c.geometry-g.ensures) (zero_small can.disk can.row (S c.args.device.now) c.args.fact.now
    c.args.slot can.may)

pub remove_chained-requires-clause-can : goal.remove_chained-requires-clause-can
remove_chained-requires-clause-can g c =
    let S = g.D.Pm.state in
    let can = c.requires.row in
    behind_can can.disk can.row (S c.args.device.now) c.args.fact.now c.args.slot can.may c.geometry-g.result c.geometry-g.ensures c.args.page
    (c.requires.read.page_is can.disk can.row can.may.table can.may.at_slot) (omega (arith, c.directs.ensures.value, c.if-slot-directs.false))
    c.direct_of-direct.result (c.direct_of-direct.ensures.slot ∙ ap (prefix_of c.geometry-g.result)
    (sym (c.requires.read.print_is can.disk can.row can.may.table can.may.at_slot)) ∙ ap (λ (k : Geometry). prefix_of k can.row.print)
    (c.geometry-g.ensures ∙ sym can.may.table.geometry)) c.before_over-before.result c.before_over-before.ensures.before

pub returns-in_err-remove_chained-clause-images : goal.returns-in_err-remove_chained-clause-images
returns-in_err-remove_chained-clause-images g c =
    let S = g.D.Pm.state in
    λ d row may. behind_images d row (S c.args.device.now) c.args.fact.now c.args.slot may c.geometry-g.result c.geometry-g.ensures c.args.page
    (c.requires.read.page_is d row may.table may.at_slot) (omega (arith, c.directs.ensures.value, c.if-slot-directs.false))
    c.direct_of-direct.result (c.direct_of-direct.ensures.slot ∙ ap (prefix_of c.geometry-g.result)
    (sym (c.requires.read.print_is d row may.table may.at_slot)) ∙ ap (λ (k : Geometry). prefix_of k row.print)
    (c.geometry-g.ensures ∙ sym may.table.geometry)) c.before_over-before.result c.before_over-before.ensures.before
    (S c.remove_chained.new.device) c.remove_chained.ensures.images

pub returns-in_err-remove_chained-clause-only : goal.returns-in_err-remove_chained-clause-only
returns-in_err-remove_chained-clause-only g c =
    let S = g.D.Pm.state in
    λ d row may. zero_only d row (S c.args.device.now) c.args.fact.now c.args.slot may c.geometry-g.result c.geometry-g.ensures c.args.page
    (c.requires.read.page_is d row may.table may.at_slot) _ (behind_gate d row (S c.args.device.now) c.args.fact.now c.args.slot may
    c.geometry-g.result c.geometry-g.ensures c.args.page (c.requires.read.page_is d row may.table may.at_slot)
    (omega (arith, c.directs.ensures.value, c.if-slot-directs.false)) c.direct_of-direct.result
    (c.direct_of-direct.ensures.slot ∙ ap (prefix_of c.geometry-g.result) (sym (c.requires.read.print_is d row may.table may.at_slot)) ∙ ap
    (λ (k : Geometry). prefix_of k row.print) (c.geometry-g.ensures ∙ sym may.table.geometry)) c.before_over-before.result
    c.before_over-before.ensures.before) (S c.remove_chained.new.device) c.remove_chained.ensures.only

pub returns-in_err-remove_chained-clause-others : goal.returns-in_err-remove_chained-clause-others
returns-in_err-remove_chained-clause-others g c =
    let S = g.D.Pm.state in
    λ d row may. zero_keeps d row (S c.args.device.now) c.args.fact.now c.args.slot may c.geometry-g.result c.geometry-g.ensures c.args.page
    (c.requires.read.page_is d row may.table may.at_slot) _ (behind_gate d row (S c.args.device.now) c.args.fact.now c.args.slot may
    c.geometry-g.result c.geometry-g.ensures c.args.page (c.requires.read.page_is d row may.table may.at_slot)
    (omega (arith, c.directs.ensures.value, c.if-slot-directs.false)) c.direct_of-direct.result
    (c.direct_of-direct.ensures.slot ∙ ap (prefix_of c.geometry-g.result) (sym (c.requires.read.print_is d row may.table may.at_slot)) ∙ ap
    (λ (k : Geometry). prefix_of k row.print) (c.geometry-g.ensures ∙ sym may.table.geometry)) c.before_over-before.result
    c.before_over-before.ensures.before) c.args.who (S c.remove_chained.new.device) c.remove_chained.ensures.others

pub returns-clause-images : goal.returns-clause-images
returns-clause-images g c =
    let S = g.D.Pm.state in
    λ d row may. behind_images d row (S c.args.device.now) c.args.fact.now c.args.slot may c.geometry-g.result c.geometry-g.ensures c.args.page
    (c.requires.read.page_is d row may.table may.at_slot) (omega (arith, c.directs.ensures.value, c.if-slot-directs.false))
    c.direct_of-direct.result (c.direct_of-direct.ensures.slot ∙ ap (prefix_of c.geometry-g.result)
    (sym (c.requires.read.print_is d row may.table may.at_slot)) ∙ ap (λ (k : Geometry). prefix_of k row.print)
    (c.geometry-g.ensures ∙ sym may.table.geometry)) c.before_over-before.result c.before_over-before.ensures.before
    (S c.remove_chained.new.device) c.remove_chained.ensures.images

pub returns-clause-only : goal.returns-clause-only
returns-clause-only g c =
    let S = g.D.Pm.state in
    λ d row may. zero_only d row (S c.args.device.now) c.args.fact.now c.args.slot may c.geometry-g.result c.geometry-g.ensures c.args.page
    (c.requires.read.page_is d row may.table may.at_slot) _ (behind_gate d row (S c.args.device.now) c.args.fact.now c.args.slot may
    c.geometry-g.result c.geometry-g.ensures c.args.page (c.requires.read.page_is d row may.table may.at_slot)
    (omega (arith, c.directs.ensures.value, c.if-slot-directs.false)) c.direct_of-direct.result
    (c.direct_of-direct.ensures.slot ∙ ap (prefix_of c.geometry-g.result) (sym (c.requires.read.print_is d row may.table may.at_slot)) ∙ ap
    (λ (k : Geometry). prefix_of k row.print) (c.geometry-g.ensures ∙ sym may.table.geometry)) c.before_over-before.result
    c.before_over-before.ensures.before) (S c.remove_chained.new.device) c.remove_chained.ensures.only

pub returns-clause-others : goal.returns-clause-others
returns-clause-others g c =
    let S = g.D.Pm.state in
    λ d row may. zero_keeps d row (S c.args.device.now) c.args.fact.now c.args.slot may c.geometry-g.result c.geometry-g.ensures c.args.page
    (c.requires.read.page_is d row may.table may.at_slot) _ (behind_gate d row (S c.args.device.now) c.args.fact.now c.args.slot may
    c.geometry-g.result c.geometry-g.ensures c.args.page (c.requires.read.page_is d row may.table may.at_slot)
    (omega (arith, c.directs.ensures.value, c.if-slot-directs.false)) c.direct_of-direct.result
    (c.direct_of-direct.ensures.slot ∙ ap (prefix_of c.geometry-g.result) (sym (c.requires.read.print_is d row may.table may.at_slot)) ∙ ap
    (λ (k : Geometry). prefix_of k row.print) (c.geometry-g.ensures ∙ sym may.table.geometry)) c.before_over-before.result
    c.before_over-before.ensures.before) c.args.who (S c.remove_chained.new.device) c.remove_chained.ensures.others

pub give_back_slot-requires-clause-slot : goal.give_back_slot-requires-clause-slot
give_back_slot-requires-clause-slot g c =
    let S = g.D.Pm.state in
    let can = c.requires.row in
    zero_small can.disk can.row (S c.args.device.now) c.args.fact.now c.args.slot can.may

pub give_back_slot-requires-clause-taken : goal.give_back_slot-requires-clause-taken
give_back_slot-requires-clause-taken g c =
    let S = g.D.Pm.state in
    let can = c.requires.row in
    let high = subst (λ (k : Geometry). directs k ≤ c.args.slot) c.geometry-g.ensures
    (omega (arith, c.directs.ensures.value, c.if-slot-directs.false)) in
    zero_taken can.disk can.row (S c.args.device.now) c.args.fact.now c.args.slot can.may (c.args.slot - directs c.args.fact.now.geometry)
    (omega (arith, high))

pub returns-clause-done : goal.returns-clause-done
returns-clause-done g c =
    let S = g.D.Pm.state in
    λ d row may. behind_made d row (S c.args.device.now) c.args.fact.now c.args.slot may c.geometry-g.result c.geometry-g.ensures c.args.page
    (c.requires.read.page_is d row may.table may.at_slot) (omega (arith, c.directs.ensures.value, c.if-slot-directs.false))
    c.direct_of-direct.result (c.direct_of-direct.ensures.slot ∙ ap (prefix_of c.geometry-g.result)
    (sym (c.requires.read.print_is d row may.table may.at_slot)) ∙ ap (λ (k : Geometry). prefix_of k row.print)
    (c.geometry-g.ensures ∙ sym may.table.geometry)) c.before_over-before.result c.before_over-before.ensures.before
    (S c.remove_chained.new.device) c.remove_chained.ensures.only.words c.in_ok-remove_chained.ensures.done c.give_back_slot.new.self
    c.give_back_slot.ensures.gives_back

pub returns-clause-settled : goal.returns-clause-settled
returns-clause-settled g c =
    let S = g.D.Pm.state in
    λ d row may. behind_settles d row (S c.args.device.now) c.args.fact.now c.args.slot may c.geometry-g.result c.geometry-g.ensures c.args.page
    (c.requires.read.page_is d row may.table may.at_slot) (omega (arith, c.directs.ensures.value, c.if-slot-directs.false))
    c.direct_of-direct.result (c.direct_of-direct.ensures.slot ∙ ap (prefix_of c.geometry-g.result)
    (sym (c.requires.read.print_is d row may.table may.at_slot)) ∙ ap (λ (k : Geometry). prefix_of k row.print)
    (c.geometry-g.ensures ∙ sym may.table.geometry)) c.before_over-before.result c.before_over-before.ensures.before
    (S c.remove_chained.new.device) c.in_ok-remove_chained.ensures.settled
