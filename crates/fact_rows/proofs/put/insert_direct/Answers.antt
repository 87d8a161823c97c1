use Rattle.std.proofs.Common.{◌∙◌, arith}
use Rattle.pm_layout.specs.Geometry.{slot_word}
use Rattle.pm_layout.proofs.Bits.{slots_small}
use Rattle.law_table.specs.Rows.{opened_words}
use Rattle.fact_rows.specs.Put.{new_row}
use Rattle.pm_device.proofs.SetWord.{on_ok_map}
use Rattle.pm_device.proofs.AllFlushed.{flushes-settle, settles-then}
use Rattle.fact_rows.proofs.Inserted.{
  Filled,
  Decided,
  put_direct_lt,
  put_page_lt,
  open_failed,
  open_images,
  open_holds,
  open_stands,
  put_only_front,
  put_keeps_front,
  put_only,
  put_keeps,
}
use Rattle.fact_rows.proofs.put.insert_direct.Goals as goal

pub fill_closed-requires-clause-slot : goal.fill_closed-requires-clause-slot
fill_closed-requires-clause-slot g c =
    let S = g.D.Pm.state in
    let can = c.requires.can in
    omega (arith, put_direct_lt c.args.g.now c.args.direct c.args.direct c.args.page c.args.print.now (S c.args.device.now).now can.disk can.may)

pub store_pointer-requires-clause-size : goal.store_pointer-requires-clause-size
store_pointer-requires-clause-size g c =
    c.fill_closed.ensures.stores.only.words ∙ c.requires.size

pub store_pointer-requires-clause-page : goal.store_pointer-requires-clause-page
store_pointer-requires-clause-page g c =
    let S = g.D.Pm.state in
    let can = c.requires.can in
    put_page_lt c.args.g.now c.args.direct c.args.direct c.args.page c.args.print.now (S c.args.device.now).now can.disk can.may

pub overflow_add-direct : goal.overflow_add-direct
overflow_add-direct g c =
    let S = g.D.Pm.state in
    let can = c.requires.can in
    let small = slots_small c.args.g.now c.requires.accepted in omega (
      arith,
      small,
      put_direct_lt c.args.g.now c.args.direct c.args.direct
          c.args.page c.args.print.now (S c.args.device.now).now can.disk can.may,
    )

pub open_direct-requires-clause-size : goal.open_direct-requires-clause-size
open_direct-requires-clause-size g c =
    c.store_pointer.ensures.only.words ∙ c.fill_closed.ensures.stores.only.words ∙ c.requires.size

pub open_direct-requires-clause-slot : goal.open_direct-requires-clause-slot
open_direct-requires-clause-slot g c =
    let S = g.D.Pm.state in
    let can = c.requires.can in
    put_direct_lt c.args.g.now c.args.direct c.args.direct c.args.page c.args.print.now (S c.args.device.now).now can.disk can.may

pub open_direct-requires-clause-page : goal.open_direct-requires-clause-page
open_direct-requires-clause-page g c =
    let S = g.D.Pm.state in
    let can = c.requires.can in
    put_page_lt c.args.g.now c.args.direct c.args.direct c.args.page c.args.print.now (S c.args.device.now).now can.disk can.may

pub returns-in_err-store_pointer-clause-images : goal.returns-in_err-store_pointer-clause-images
returns-in_err-store_pointer-clause-images g c =
    let S = g.D.Pm.state in
    let filled : Filled c.args.g.now c.args.who c.args.direct 1 c.args.page (opened_words (new_row c.args.direct c.args.print.now c.args.page)) (S c.args.device.now) (S c.fill_closed.new.device) (S c.store_pointer.new.device) = record {
      size = c.requires.size;
      fill = c.fill_closed.ensures.stores;
      leaves = c.store_pointer.ensures.any_moment;
      only = c.store_pointer.ensures.only;
    } in
    λ d may. open_failed c.args.g.now c.requires.accepted c.args.who c.args.direct c.args.page c.args.print.now (S c.args.device.now)
    (S c.fill_closed.new.device) (S c.store_pointer.new.device) filled d may

pub returns-clause-images : goal.returns-clause-images
returns-clause-images g c =
    let S = g.D.Pm.state in
    let filled : Filled c.args.g.now c.args.who c.args.direct 1 c.args.page (opened_words (new_row c.args.direct c.args.print.now c.args.page)) (S c.args.device.now) (S c.fill_closed.new.device) (S c.store_pointer.new.device) = record {
      size = c.requires.size;
      fill = c.fill_closed.ensures.stores;
      leaves = c.store_pointer.ensures.any_moment;
      only = c.store_pointer.ensures.only;
    } in
    let decided : Decided c.args.g.now c.args.who c.args.direct 0 c.args.page (S c.store_pointer.new.device) (S c.open_direct.new.device) = record
    { leaves = c.open_direct.ensures.any_moment; only = c.open_direct.ensures.only } in
    λ d may. open_images c.args.g.now c.requires.accepted c.args.who c.args.direct c.args.page c.args.print.now (S c.args.device.now)
    (S c.fill_closed.new.device) (S c.store_pointer.new.device) filled d may c.in_ok-store_pointer.ensures.done (S c.open_direct.new.device)
    decided

pub returns-clause-done : goal.returns-clause-done
returns-clause-done g c =
    let S = g.D.Pm.state in
    let filled : Filled c.args.g.now c.args.who c.args.direct 1 c.args.page (opened_words (new_row c.args.direct c.args.print.now c.args.page)) (S c.args.device.now) (S c.fill_closed.new.device) (S c.store_pointer.new.device) = record {
      size = c.requires.size;
      fill = c.fill_closed.ensures.stores;
      leaves = c.store_pointer.ensures.any_moment;
      only = c.store_pointer.ensures.only;
    } in
    let decided : Decided c.args.g.now c.args.who c.args.direct 0 c.args.page (S c.store_pointer.new.device) (S c.open_direct.new.device) = record
    { leaves = c.open_direct.ensures.any_moment; only = c.open_direct.ensures.only } in
    on_ok_map c.open_direct.result _ _ (λ done. λ d may. open_holds c.args.g.now c.requires.accepted c.args.who c.args.direct c.args.page
    c.args.print.now (S c.args.device.now) (S c.fill_closed.new.device) (S c.store_pointer.new.device) filled d may
    c.in_ok-store_pointer.ensures.done (S c.open_direct.new.device) decided done) c.open_direct.ensures.done

pub returns-clause-settled : goal.returns-clause-settled
returns-clause-settled g c =
    let S = g.D.Pm.state in
    let filled : Filled c.args.g.now c.args.who c.args.direct 1 c.args.page (opened_words (new_row c.args.direct c.args.print.now c.args.page)) (S c.args.device.now) (S c.fill_closed.new.device) (S c.store_pointer.new.device) = record {
      size = c.requires.size;
      fill = c.fill_closed.ensures.stores;
      leaves = c.store_pointer.ensures.any_moment;
      only = c.store_pointer.ensures.only;
    } in
    let decided : Decided c.args.g.now c.args.who c.args.direct 0 c.args.page (S c.store_pointer.new.device) (S c.open_direct.new.device) = record
    { leaves = c.open_direct.ensures.any_moment; only = c.open_direct.ensures.only } in
    on_ok_map c.open_direct.result _ _ (λ done. λ d may. open_stands c.args.g.now c.requires.accepted c.args.who c.args.direct c.args.page
    c.args.print.now (S c.args.device.now) (S c.fill_closed.new.device) (S c.store_pointer.new.device) filled d may
    c.in_ok-store_pointer.ensures.done (S c.open_direct.new.device) decided done) c.open_direct.ensures.done

pub returns-in_err-store_pointer-clause-only : goal.returns-in_err-store_pointer-clause-only
returns-in_err-store_pointer-clause-only g c =
    let S = g.D.Pm.state in
    put_only_front c.args.g.now c.args.who c.args.direct 1 c.args.page (slot_word c.args.g.now c.args.direct 0)
    (opened_words (new_row c.args.direct c.args.print.now c.args.page)) (omega arith) (S c.args.device.now) (S c.fill_closed.new.device)
    (S c.store_pointer.new.device) c.fill_closed.ensures.stores c.store_pointer.ensures.only c.store_pointer.ensures.others

pub returns-in_err-store_pointer-clause-others : goal.returns-in_err-store_pointer-clause-others
returns-in_err-store_pointer-clause-others g c =
    let S = g.D.Pm.state in
    put_keeps_front c.args.g.now c.args.who c.args.direct 1 c.args.page (slot_word c.args.g.now c.args.direct 0)
    (opened_words (new_row c.args.direct c.args.print.now c.args.page)) (omega arith) (S c.args.device.now) (S c.fill_closed.new.device)
    (S c.store_pointer.new.device) c.fill_closed.ensures.stores c.store_pointer.ensures.only c.store_pointer.ensures.others

pub returns-clause-only : goal.returns-clause-only
returns-clause-only g c =
    let S = g.D.Pm.state in
    put_only c.args.g.now c.args.who c.args.direct 1 c.args.page (slot_word c.args.g.now c.args.direct 0)
    (opened_words (new_row c.args.direct c.args.print.now c.args.page)) (omega arith) (S c.args.device.now) (S c.fill_closed.new.device)
    (S c.store_pointer.new.device) c.fill_closed.ensures.stores c.store_pointer.ensures.only c.store_pointer.ensures.others
    (S c.open_direct.new.device) c.open_direct.ensures.only c.open_direct.ensures.others

pub returns-clause-others : goal.returns-clause-others
returns-clause-others g c =
    let S = g.D.Pm.state in
    put_keeps c.args.g.now c.args.who c.args.direct 1 c.args.page (slot_word c.args.g.now c.args.direct 0)
    (opened_words (new_row c.args.direct c.args.print.now c.args.page)) (omega arith) (S c.args.device.now) (S c.fill_closed.new.device)
    (S c.store_pointer.new.device) c.fill_closed.ensures.stores c.store_pointer.ensures.only c.store_pointer.ensures.others
    (S c.open_direct.new.device) c.open_direct.ensures.only c.open_direct.ensures.others

pub returns-clause-settles : goal.returns-clause-settles
returns-clause-settles g c =
    let S = g.D.Pm.state in
    on_ok_map c.open_direct.result _ _ (settles-then c.args.who (S c.args.device.now) (S c.store_pointer.new.device) (S c.open_direct.new.device)
    (flushes-settle c.args.who (S c.args.device.now) (S c.fill_closed.new.device) (S c.store_pointer.new.device) c.fill_closed.ensures.flushes
    c.in_ok-store_pointer.ensures.settles)) c.open_direct.ensures.settles
