use Rattle.std.proofs.Common.{refl}
use Rattle.pm_device.proofs.Only.{stores_only-weaken}
use Rattle.pm_device.proofs.Flushed.{keeps-weaken}
use Rattle.fact_changes.proofs.InsertWords.{linked_words}
use Rattle.fact_changes.proofs.Slotted.{never_full, can_link, insert_links, made_links}
use Rattle.fact_changes.proofs.insertion.insert_behind.Goals as goal

pub insert_chained-requires-clause-can : goal.insert_chained-requires-clause-can
insert_chained-requires-clause-can g c =
    let S = g.D.Pm.state in
    let can = c.requires.can in
    can_link can.disk (S c.args.device.now) c.args.fact.now c.args.print.now c.args.page can.may c.args.direct c.geometry-g.result c.requires.direct
    c.geometry-g.ensures c.requires.row c.in-Some.slot c.take_slot.new.self c.in-Some.ensures.takes

pub returns-in_err-insert_chained-in-Some-clause-images : goal.returns-in_err-insert_chained-in-Some-clause-images
returns-in_err-insert_chained-in-Some-clause-images g c =
    let S = g.D.Pm.state in
    λ d may. insert_links d (S c.args.device.now) c.args.fact.now c.args.print.now c.args.page may c.args.direct c.geometry-g.result c.requires.direct
    c.geometry-g.ensures c.requires.row c.in-Some.slot c.take_slot.new.self c.in-Some.ensures.takes (S c.insert_chained.new.device)
    c.insert_chained.ensures.images

pub returns-in_ok-insert_chained-in-Some-clause-images : goal.returns-in_ok-insert_chained-in-Some-clause-images
returns-in_ok-insert_chained-in-Some-clause-images g c =
    let S = g.D.Pm.state in
    λ d may. insert_links d (S c.args.device.now) c.args.fact.now c.args.print.now c.args.page may c.args.direct c.geometry-g.result c.requires.direct
    c.geometry-g.ensures c.requires.row c.in-Some.slot c.take_slot.new.self c.in-Some.ensures.takes (S c.insert_chained.new.device)
    c.insert_chained.ensures.images

pub returns-in_ok-insert_chained-in-Some-clause-done : goal.returns-in_ok-insert_chained-in-Some-clause-done
returns-in_ok-insert_chained-in-Some-clause-done g c =
    let S = g.D.Pm.state in
    λ d may. made_links d (S c.args.device.now) c.args.fact.now c.args.print.now c.args.page may c.args.direct c.geometry-g.result c.requires.direct
    c.geometry-g.ensures c.requires.row c.in-Some.slot c.take_slot.new.self c.in-Some.ensures.takes (S c.insert_chained.new.device)
    c.insert_chained.ensures.only.words c.in_ok-insert_chained-in-Some.ensures.done c.in_ok-insert_chained-in-Some.ensures.settled

pub returns-in-None-clause-images : goal.returns-in-None-clause-images
returns-in-None-clause-images g c =
    let S = g.D.Pm.state in
    λ d may. absurd (never_full d (S c.args.device.now).now c.args.fact.now c.args.print.now c.args.page may (c.in-None.ensures.none refl))

pub returns-in-None-clause-done : goal.returns-in-None-clause-done
returns-in-None-clause-done g c =
    let S = g.D.Pm.state in
    λ d may. absurd (never_full d (S c.args.device.now).now c.args.fact.now c.args.print.now c.args.page may (c.in-None.ensures.none refl))

pub returns-in_err-insert_chained-in-Some-clause-only : goal.returns-in_err-insert_chained-in-Some-clause-only
returns-in_err-insert_chained-in-Some-clause-only g c =
    let S = g.D.Pm.state in
    stores_only-weaken _ _ (S c.args.device.now) (S c.insert_chained.new.device) (λ a. linked_words c.args.fact.now c.take_slot.new.self
    c.args.print.now c.args.page c.args.direct c.geometry-g.result c.requires.direct c.geometry-g.ensures a c.in-Some.slot
    c.in-Some.ensures.takes) c.insert_chained.ensures.only

pub returns-in_err-insert_chained-in-Some-clause-others : goal.returns-in_err-insert_chained-in-Some-clause-others
returns-in_err-insert_chained-in-Some-clause-others g c =
    let S = g.D.Pm.state in
    keeps-weaken _ _ _ _ (S c.args.device.now) (S c.insert_chained.new.device) (λ q other. other) (λ a. linked_words c.args.fact.now
    c.take_slot.new.self c.args.print.now c.args.page c.args.direct c.geometry-g.result c.requires.direct c.geometry-g.ensures a c.in-Some.slot
    c.in-Some.ensures.takes) c.insert_chained.ensures.others

pub returns-in_ok-insert_chained-in-Some-clause-only : goal.returns-in_ok-insert_chained-in-Some-clause-only
returns-in_ok-insert_chained-in-Some-clause-only g c =
    let S = g.D.Pm.state in
    stores_only-weaken _ _ (S c.args.device.now) (S c.insert_chained.new.device) (λ a. linked_words c.args.fact.now c.take_slot.new.self
    c.args.print.now c.args.page c.args.direct c.geometry-g.result c.requires.direct c.geometry-g.ensures a c.in-Some.slot
    c.in-Some.ensures.takes) c.insert_chained.ensures.only

pub returns-in_ok-insert_chained-in-Some-clause-others : goal.returns-in_ok-insert_chained-in-Some-clause-others
returns-in_ok-insert_chained-in-Some-clause-others g c =
    let S = g.D.Pm.state in
    keeps-weaken _ _ _ _ (S c.args.device.now) (S c.insert_chained.new.device) (λ q other. other) (λ a. linked_words c.args.fact.now
    c.take_slot.new.self c.args.print.now c.args.page c.args.direct c.geometry-g.result c.requires.direct c.geometry-g.ensures a c.in-Some.slot
    c.in-Some.ensures.takes) c.insert_chained.ensures.others

pub returns-in-None-clause-only : goal.returns-in-None-clause-only
returns-in-None-clause-only g c =
    let S = g.D.Pm.state in
    let can = c.requires.can in
    absurd (never_full can.disk (S c.args.device.now).now c.args.fact.now c.args.print.now c.args.page can.may (c.in-None.ensures.none refl))

pub returns-in-None-clause-others : goal.returns-in-None-clause-others
returns-in-None-clause-others g c =
    let S = g.D.Pm.state in
    let can = c.requires.can in
    absurd (never_full can.disk (S c.args.device.now).now c.args.fact.now c.args.print.now c.args.page can.may (c.in-None.ensures.none refl))

pub returns-in-None-clause-settles : goal.returns-in-None-clause-settles
returns-in-None-clause-settles g c =
    let S = g.D.Pm.state in
    let can = c.requires.can in
    absurd (never_full can.disk (S c.args.device.now).now c.args.fact.now c.args.print.now c.args.page can.may (c.in-None.ensures.none refl))
