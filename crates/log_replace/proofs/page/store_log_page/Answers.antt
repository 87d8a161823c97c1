use Rattle.pm_device.proofs.SetWord.{on_ok_map}
use Rattle.log_replace.proofs.PageStored.{page_only, page_kept, page_settles, body_only, disks_still, adds_page}
use Rattle.log_replace.proofs.page.store_log_page.Goals as goal

pub returns-clause-stands : goal.returns-clause-stands
returns-clause-stands g c =
    let S = g.D.Pm.state in
    let e = c.end_of_page-end in
    on_ok_map c.settle.result _ _ (λ settles. adds_page c.args.pages.now c.args.slots.now c.args.k e.result c.requires.page e.ensures.some e.ensures.high
    e.ensures.there c.args.who (S c.args.device.now) (S c.store_slots.new.device) (S c.store_link.new.device) (S c.settle.new.device)
    c.store_slots.ensures.only c.store_link.ensures.only c.settle.ensures.only e.ensures.all c.store_slots.ensures.ready c.store_link.ensures.keeps
    c.store_link.ensures.ready settles) c.settle.ensures.settled

pub returns-clause-still : goal.returns-clause-still
returns-clause-still g c =
    let S = g.D.Pm.state in
    let e = c.end_of_page-end in
    disks_still c.args.pages.now c.args.slots.now c.args.k e.result c.requires.page e.ensures.some e.ensures.high
    e.ensures.there c.args.who (S c.args.device.now) (S c.store_slots.new.device) (S c.store_link.new.device) (S c.settle.new.device)
    c.store_slots.ensures.only c.store_link.ensures.only c.settle.ensures.only e.ensures.all (g.met.D.Pm.agree c.settle.new.device)

pub returns-clause-body : goal.returns-clause-body
returns-clause-body g c =
    let S = g.D.Pm.state in
    let e = c.end_of_page-end in
    body_only c.args.pages.now c.args.slots.now c.args.k e.result c.requires.page e.ensures.some e.ensures.high
    e.ensures.there c.args.who (S c.args.device.now) (S c.store_slots.new.device) (S c.store_link.new.device) (S c.settle.new.device)
    c.store_slots.ensures.only c.store_link.ensures.only c.settle.ensures.only e.ensures.all

pub returns-clause-only : goal.returns-clause-only
returns-clause-only g c =
    let S = g.D.Pm.state in
    let e = c.end_of_page-end in
    page_only c.args.pages.now c.args.slots.now c.args.k e.result c.requires.page e.ensures.some e.ensures.high
    e.ensures.there c.args.who (S c.args.device.now) (S c.store_slots.new.device) (S c.store_link.new.device) (S c.settle.new.device)
    c.store_slots.ensures.only c.store_link.ensures.only c.settle.ensures.only

pub returns-clause-others : goal.returns-clause-others
returns-clause-others g c =
    let S = g.D.Pm.state in
    let e = c.end_of_page-end in
    page_kept c.args.pages.now c.args.slots.now c.args.k e.result c.requires.page e.ensures.some e.ensures.high
    e.ensures.there c.args.who (S c.args.device.now) (S c.store_slots.new.device) (S c.store_link.new.device) (S c.settle.new.device)
    c.store_slots.ensures.only c.store_link.ensures.only c.settle.ensures.only c.store_slots.ensures.keeps c.store_link.ensures.keeps
    c.settle.ensures.others

pub returns-clause-settles : goal.returns-clause-settles
returns-clause-settles g c =
    let S = g.D.Pm.state in
    let e = c.end_of_page-end in
    on_ok_map c.settle.result _ _ (page_settles c.args.pages.now c.args.slots.now c.args.k e.result c.requires.page e.ensures.some e.ensures.high
    e.ensures.there c.args.who (S c.args.device.now) (S c.store_slots.new.device) (S c.store_link.new.device) (S c.settle.new.device)
    c.store_slots.ensures.only c.store_link.ensures.only c.settle.ensures.only c.store_slots.ensures.flushes c.store_link.ensures.flushes)
    c.settle.ensures.settles
