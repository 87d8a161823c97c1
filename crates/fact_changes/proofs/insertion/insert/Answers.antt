use Rattle.std.proofs.Common.{sym, ◌∙◌, ap}
use Rattle.pm_layout.specs.declared.Geometry.{Geometry}
use Rattle.dn_model.specs.Table.{prefix_of}
use Rattle.pm_device.proofs.Only.{stores_only-weaken}
use Rattle.pm_device.proofs.Flushed.{keeps-weaken}
use Rattle.fact_changes.proofs.InsertWords.{opened_words}
use Rattle.fact_changes.proofs.Slotted.{can_open, insert_opens, made_opens}
use Rattle.fact_changes.proofs.insertion.insert.Goals as goal

pub insert_direct-requires-clause-can : goal.insert_direct-requires-clause-can
insert_direct-requires-clause-can g c =
    let S = g.D.Pm.state in
    let can = c.requires.can in
    can_open can.disk (S c.args.device.now) c.args.fact.now c.args.print.now c.args.page can.may c.direct_of-direct.result c.geometry-g.result
    (c.direct_of-direct.ensures.slot ∙ ap (λ (k : Geometry). prefix_of k c.args.print.now) c.geometry-g.ensures) c.geometry-g.ensures
    (sym c.load_field.ensures ∙ c.if-load_field-ne0.false)

pub returns-in_err-insert_direct-clause-images : goal.returns-in_err-insert_direct-clause-images
returns-in_err-insert_direct-clause-images g c =
    let S = g.D.Pm.state in
    λ d may. insert_opens d (S c.args.device.now) c.args.fact.now c.args.print.now c.args.page may c.direct_of-direct.result c.geometry-g.result
    (c.direct_of-direct.ensures.slot ∙ ap (λ (k : Geometry). prefix_of k c.args.print.now) c.geometry-g.ensures) c.geometry-g.ensures
    (sym c.load_field.ensures ∙ c.if-load_field-ne0.false) (S c.insert_direct.new.device) c.insert_direct.ensures.images

pub returns-clause-images : goal.returns-clause-images
returns-clause-images g c =
    let S = g.D.Pm.state in
    λ d may. insert_opens d (S c.args.device.now) c.args.fact.now c.args.print.now c.args.page may c.direct_of-direct.result c.geometry-g.result
    (c.direct_of-direct.ensures.slot ∙ ap (λ (k : Geometry). prefix_of k c.args.print.now) c.geometry-g.ensures) c.geometry-g.ensures
    (sym c.load_field.ensures ∙ c.if-load_field-ne0.false) (S c.insert_direct.new.device) c.insert_direct.ensures.images

pub returns-clause-done : goal.returns-clause-done
returns-clause-done g c =
    let S = g.D.Pm.state in
    λ d may. made_opens d (S c.args.device.now) c.args.fact.now c.args.print.now c.args.page may c.direct_of-direct.result c.geometry-g.result
    (c.direct_of-direct.ensures.slot ∙ ap (λ (k : Geometry). prefix_of k c.args.print.now) c.geometry-g.ensures) c.geometry-g.ensures
    (sym c.load_field.ensures ∙ c.if-load_field-ne0.false) (S c.insert_direct.new.device) c.insert_direct.ensures.only.words
    c.in_ok-insert_direct.ensures.done c.in_ok-insert_direct.ensures.settled

pub returns-in_err-insert_direct-clause-only : goal.returns-in_err-insert_direct-clause-only
returns-in_err-insert_direct-clause-only g c =
    let S = g.D.Pm.state in
    stores_only-weaken _ _ (S c.args.device.now) (S c.insert_direct.new.device) (λ a. opened_words c.args.fact.now c.args.fact.now c.args.print.now
    c.args.page c.direct_of-direct.result c.geometry-g.result
    (c.direct_of-direct.ensures.slot ∙ ap (λ (k : Geometry). prefix_of k c.args.print.now) c.geometry-g.ensures) c.geometry-g.ensures a)
    c.insert_direct.ensures.only

pub returns-in_err-insert_direct-clause-others : goal.returns-in_err-insert_direct-clause-others
returns-in_err-insert_direct-clause-others g c =
    let S = g.D.Pm.state in
    keeps-weaken _ _ _ _ (S c.args.device.now) (S c.insert_direct.new.device) (λ q other. other) (λ a. opened_words c.args.fact.now
    c.args.fact.now c.args.print.now c.args.page c.direct_of-direct.result c.geometry-g.result
    (c.direct_of-direct.ensures.slot ∙ ap (λ (k : Geometry). prefix_of k c.args.print.now) c.geometry-g.ensures) c.geometry-g.ensures a)
    c.insert_direct.ensures.others

pub returns-clause-only : goal.returns-clause-only
returns-clause-only g c =
    let S = g.D.Pm.state in
    stores_only-weaken _ _ (S c.args.device.now) (S c.insert_direct.new.device) (λ a. opened_words c.args.fact.now c.args.fact.now c.args.print.now
    c.args.page c.direct_of-direct.result c.geometry-g.result
    (c.direct_of-direct.ensures.slot ∙ ap (λ (k : Geometry). prefix_of k c.args.print.now) c.geometry-g.ensures) c.geometry-g.ensures a)
    c.insert_direct.ensures.only

pub returns-clause-others : goal.returns-clause-others
returns-clause-others g c =
    let S = g.D.Pm.state in
    keeps-weaken _ _ _ _ (S c.args.device.now) (S c.insert_direct.new.device) (λ q other. other) (λ a. opened_words c.args.fact.now
    c.args.fact.now c.args.print.now c.args.page c.direct_of-direct.result c.geometry-g.result
    (c.direct_of-direct.ensures.slot ∙ ap (λ (k : Geometry). prefix_of k c.args.print.now) c.geometry-g.ensures) c.geometry-g.ensures a)
    c.insert_direct.ensures.others
