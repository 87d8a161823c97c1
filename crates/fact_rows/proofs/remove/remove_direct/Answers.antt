use Rattle.std.proofs.Common.{◌∙◌}
use Rattle.pm_layout.specs.Geometry.{slot_word}
use Rattle.pm_device.proofs.SetWord.{on_ok_map}
use Rattle.pm_device.proofs.AllFlushed.{settles-then}
use Rattle.fact_rows.proofs.TakenOut.{
  Went,
  Cleared,
  closes,
  gone_direct_lt,
  gone_page_lt,
  gone_failed,
  gone_images,
  gone_holds,
  gone_stands,
  gone_only_front,
  gone_keeps_front,
  gone_only,
  gone_keeps,
}
use Rattle.fact_rows.proofs.remove.remove_direct.Goals as goal

pub close_direct-requires-clause-slot : goal.close_direct-requires-clause-slot
close_direct-requires-clause-slot g c =
    let S = g.D.Pm.state in
    let can = c.requires.can in
    gone_direct_lt c.args.g.now c.args.direct c.args.direct c.args.page (S c.args.device.now).now can.disk can.row can.may

pub store_pointer-requires-clause-size : goal.store_pointer-requires-clause-size
store_pointer-requires-clause-size g c =
    c.close_direct.ensures.only.words ∙ c.requires.size

pub store_pointer-requires-clause-page : goal.store_pointer-requires-clause-page
store_pointer-requires-clause-page g c =
    let S = g.D.Pm.state in
    let can = c.requires.can in
    gone_page_lt c.args.g.now c.args.direct c.args.direct c.args.page (S c.args.device.now).now can.disk can.row can.may

pub returns-in_err-close_direct-clause-images : goal.returns-in_err-close_direct-clause-images
returns-in_err-close_direct-clause-images g c =
    let S = g.D.Pm.state in
    let went : Went c.args.g.now c.args.who (slot_word c.args.g.now c.args.direct 0) 0 (S c.args.device.now) (S c.close_direct.new.device) = record
    { size = c.requires.size; leaves = c.close_direct.ensures.any_moment; only = c.close_direct.ensures.only } in
    λ d row may. gone_failed c.args.g.now c.args.direct c.args.direct c.args.page (S c.args.device.now) d row may c.args.who
    (slot_word c.args.g.now c.args.direct 0) 0 (closes c.args.g.now c.args.direct c.args.page (S c.args.device.now).now d row may)
    (S c.close_direct.new.device) went

pub returns-clause-images : goal.returns-clause-images
returns-clause-images g c =
    let S = g.D.Pm.state in
    let went : Went c.args.g.now c.args.who (slot_word c.args.g.now c.args.direct 0) 0 (S c.args.device.now) (S c.close_direct.new.device) = record
    { size = c.requires.size; leaves = c.close_direct.ensures.any_moment; only = c.close_direct.ensures.only } in
    let clear : Cleared c.args.g.now c.args.page (S c.close_direct.new.device) (S c.store_pointer.new.device) = record
    { leaves = c.store_pointer.ensures.any_moment; only = c.store_pointer.ensures.only } in
    λ d row may. gone_images c.args.g.now c.args.direct c.args.direct c.args.page (S c.args.device.now) d row may c.args.who
    (slot_word c.args.g.now c.args.direct 0) 0 (closes c.args.g.now c.args.direct c.args.page (S c.args.device.now).now d row may)
    (S c.close_direct.new.device) went c.in_ok-close_direct.ensures.done (S c.store_pointer.new.device) clear

pub returns-clause-done : goal.returns-clause-done
returns-clause-done g c =
    let S = g.D.Pm.state in
    let went : Went c.args.g.now c.args.who (slot_word c.args.g.now c.args.direct 0) 0 (S c.args.device.now) (S c.close_direct.new.device) = record
    { size = c.requires.size; leaves = c.close_direct.ensures.any_moment; only = c.close_direct.ensures.only } in
    let clear : Cleared c.args.g.now c.args.page (S c.close_direct.new.device) (S c.store_pointer.new.device) = record
    { leaves = c.store_pointer.ensures.any_moment; only = c.store_pointer.ensures.only } in
    on_ok_map c.store_pointer.result _ _ (λ done. λ d row may. gone_holds c.args.g.now c.args.direct c.args.direct c.args.page (S c.args.device.now) d
    row may c.args.who (slot_word c.args.g.now c.args.direct 0) 0 (closes c.args.g.now c.args.direct c.args.page (S c.args.device.now).now d row
    may) (S c.close_direct.new.device) went c.in_ok-close_direct.ensures.done (S c.store_pointer.new.device) clear done)
    c.store_pointer.ensures.done

pub returns-clause-settled : goal.returns-clause-settled
returns-clause-settled g c =
    let S = g.D.Pm.state in
    let went : Went c.args.g.now c.args.who (slot_word c.args.g.now c.args.direct 0) 0 (S c.args.device.now) (S c.close_direct.new.device) = record
    { size = c.requires.size; leaves = c.close_direct.ensures.any_moment; only = c.close_direct.ensures.only } in
    let clear : Cleared c.args.g.now c.args.page (S c.close_direct.new.device) (S c.store_pointer.new.device) = record
    { leaves = c.store_pointer.ensures.any_moment; only = c.store_pointer.ensures.only } in
    on_ok_map c.store_pointer.result _ _ (λ done. λ d row may. gone_stands c.args.g.now c.args.direct c.args.direct c.args.page (S c.args.device.now)
    d row may c.args.who (slot_word c.args.g.now c.args.direct 0) 0 (closes c.args.g.now c.args.direct c.args.page (S c.args.device.now).now d row
    may) (S c.close_direct.new.device) went c.in_ok-close_direct.ensures.done (S c.store_pointer.new.device) clear done)
    c.store_pointer.ensures.done

pub returns-in_err-close_direct-clause-only : goal.returns-in_err-close_direct-clause-only
returns-in_err-close_direct-clause-only g c =
    let S = g.D.Pm.state in
    gone_only_front c.args.g.now c.args.who (slot_word c.args.g.now c.args.direct 0) c.args.page (S c.args.device.now) (S c.close_direct.new.device)
    c.close_direct.ensures.only c.close_direct.ensures.others

pub returns-in_err-close_direct-clause-others : goal.returns-in_err-close_direct-clause-others
returns-in_err-close_direct-clause-others g c =
    let S = g.D.Pm.state in
    gone_keeps_front c.args.g.now c.args.who (slot_word c.args.g.now c.args.direct 0) c.args.page (S c.args.device.now) (S c.close_direct.new.device)
    c.close_direct.ensures.only c.close_direct.ensures.others

pub returns-clause-only : goal.returns-clause-only
returns-clause-only g c =
    let S = g.D.Pm.state in
    gone_only c.args.g.now c.args.who (slot_word c.args.g.now c.args.direct 0) c.args.page (S c.args.device.now) (S c.close_direct.new.device)
    c.close_direct.ensures.only c.close_direct.ensures.others (S c.store_pointer.new.device) c.store_pointer.ensures.only
    c.store_pointer.ensures.others

pub returns-clause-others : goal.returns-clause-others
returns-clause-others g c =
    let S = g.D.Pm.state in
    gone_keeps c.args.g.now c.args.who (slot_word c.args.g.now c.args.direct 0) c.args.page (S c.args.device.now) (S c.close_direct.new.device)
    c.close_direct.ensures.only c.close_direct.ensures.others (S c.store_pointer.new.device) c.store_pointer.ensures.only
    c.store_pointer.ensures.others

pub returns-clause-settles : goal.returns-clause-settles
returns-clause-settles g c =
    let S = g.D.Pm.state in
    on_ok_map c.store_pointer.result _ _ (settles-then c.args.who (S c.args.device.now) (S c.close_direct.new.device) (S c.store_pointer.new.device)
    c.in_ok-close_direct.ensures.settles) c.store_pointer.ensures.settles
