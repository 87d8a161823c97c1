use Rattle.std.proofs.Common.{[], ◌∷◌, ◌++◌, ◌∙◌, arith}
use Rattle.pm_layout.specs.Geometry.{slot_word}
use Rattle.pm_layout.proofs.Bits.{slots_small}
use Rattle.law_table.specs.Rows.{linked_words}
use Rattle.fact_rows.specs.Put.{new_row}
use Rattle.pm_device.proofs.SetWord.{on_ok_map}
use Rattle.pm_device.proofs.AllFlushed.{flushes-settle, settles-then}
use Rattle.fact_rows.proofs.Inserted.{
  Filled,
  Decided,
  put_direct_lt,
  put_page_lt,
  link_failed,
  link_images,
  link_holds,
  link_stands,
  put_only_front,
  put_keeps_front,
  put_only,
  put_keeps,
}
use Rattle.fact_rows.proofs.put.insert_chained.Goals as goal

pub load_field-next-requires-clause-slot : goal.load_field-next-requires-clause-slot
load_field-next-requires-clause-slot g c =
    let S = g.D.Pm.state in
    let can = c.requires.can in
    omega (arith, put_direct_lt c.args.g.now c.args.direct c.args.slot c.args.page c.args.print.now (S c.args.device.now).now can.disk can.may)

pub store_pointer-requires-clause-size : goal.store_pointer-requires-clause-size
store_pointer-requires-clause-size g c =
    c.fill_linked.ensures.stores.only.words ∙ c.requires.size

pub store_pointer-requires-clause-page : goal.store_pointer-requires-clause-page
store_pointer-requires-clause-page g c =
    let S = g.D.Pm.state in
    let can = c.requires.can in
    put_page_lt c.args.g.now c.args.direct c.args.slot c.args.page c.args.print.now (S c.args.device.now).now can.disk can.may

pub overflow_add-slot : goal.overflow_add-slot
overflow_add-slot g c =
    let small = slots_small c.args.g.now c.requires.accepted in omega (arith, small, c.requires.slot)

pub link-requires-clause-size : goal.link-requires-clause-size
link-requires-clause-size g c =
    c.store_pointer.ensures.only.words ∙ c.fill_linked.ensures.stores.only.words ∙ c.requires.size

pub link-requires-clause-direct : goal.link-requires-clause-direct
link-requires-clause-direct g c =
    let S = g.D.Pm.state in
    let can = c.requires.can in
    put_direct_lt c.args.g.now c.args.direct c.args.slot c.args.page c.args.print.now (S c.args.device.now).now can.disk can.may

pub returns-in_err-store_pointer-clause-images : goal.returns-in_err-store_pointer-clause-images
returns-in_err-store_pointer-clause-images g c =
    let S = g.D.Pm.state in
    let filled : Filled c.args.g.now c.args.who c.args.slot 0 c.args.page (linked_words (new_row c.args.slot c.args.print.now c.args.page) c.load_field-next.result ++ 0 ∷ 0 ∷ []) (S c.args.device.now) (S c.fill_linked.new.device) (S c.store_pointer.new.device) = record {
      size = c.requires.size;
      fill = c.fill_linked.ensures.stores;
      leaves = c.store_pointer.ensures.any_moment;
      only = c.store_pointer.ensures.only;
    } in
    λ d may. link_failed c.args.g.now c.requires.accepted c.args.who c.args.direct c.args.slot c.args.page c.args.print.now c.load_field-next.result
    (S c.args.device.now) (S c.fill_linked.new.device) (S c.store_pointer.new.device) c.requires.indirect c.requires.slot
    c.load_field-next.ensures filled d may

pub returns-clause-images : goal.returns-clause-images
returns-clause-images g c =
    let S = g.D.Pm.state in
    let filled : Filled c.args.g.now c.args.who c.args.slot 0 c.args.page (linked_words (new_row c.args.slot c.args.print.now c.args.page) c.load_field-next.result ++ 0 ∷ 0 ∷ []) (S c.args.device.now) (S c.fill_linked.new.device) (S c.store_pointer.new.device) = record {
      size = c.requires.size;
      fill = c.fill_linked.ensures.stores;
      leaves = c.store_pointer.ensures.any_moment;
      only = c.store_pointer.ensures.only;
    } in
    let decided : Decided c.args.g.now c.args.who c.args.direct 5 c.args.slot (S c.store_pointer.new.device) (S c.link.new.device) = record
    { leaves = c.link.ensures.any_moment; only = c.link.ensures.only } in
    λ d may. link_images c.args.g.now c.requires.accepted c.args.who c.args.direct c.args.slot c.args.page c.args.print.now c.load_field-next.result
    (S c.args.device.now) (S c.fill_linked.new.device) (S c.store_pointer.new.device) c.requires.indirect c.requires.slot
    c.load_field-next.ensures filled d may c.in_ok-store_pointer.ensures.done (S c.link.new.device) decided

pub returns-clause-done : goal.returns-clause-done
returns-clause-done g c =
    let S = g.D.Pm.state in
    let filled : Filled c.args.g.now c.args.who c.args.slot 0 c.args.page (linked_words (new_row c.args.slot c.args.print.now c.args.page) c.load_field-next.result ++ 0 ∷ 0 ∷ []) (S c.args.device.now) (S c.fill_linked.new.device) (S c.store_pointer.new.device) = record {
      size = c.requires.size;
      fill = c.fill_linked.ensures.stores;
      leaves = c.store_pointer.ensures.any_moment;
      only = c.store_pointer.ensures.only;
    } in
    let decided : Decided c.args.g.now c.args.who c.args.direct 5 c.args.slot (S c.store_pointer.new.device) (S c.link.new.device) = record
    { leaves = c.link.ensures.any_moment; only = c.link.ensures.only } in
    on_ok_map c.link.result _ _ (λ done. λ d may. link_holds c.args.g.now c.requires.accepted c.args.who c.args.direct c.args.slot c.args.page
    c.args.print.now c.load_field-next.result (S c.args.device.now) (S c.fill_linked.new.device) (S c.store_pointer.new.device)
    c.requires.indirect c.requires.slot c.load_field-next.ensures filled d may c.in_ok-store_pointer.ensures.done (S c.link.new.device) decided
    done) c.link.ensures.done

pub returns-clause-settled : goal.returns-clause-settled
returns-clause-settled g c =
    let S = g.D.Pm.state in
    let filled : Filled c.args.g.now c.args.who c.args.slot 0 c.args.page (linked_words (new_row c.args.slot c.args.print.now c.args.page) c.load_field-next.result ++ 0 ∷ 0 ∷ []) (S c.args.device.now) (S c.fill_linked.new.device) (S c.store_pointer.new.device) = record {
      size = c.requires.size;
      fill = c.fill_linked.ensures.stores;
      leaves = c.store_pointer.ensures.any_moment;
      only = c.store_pointer.ensures.only;
    } in
    let decided : Decided c.args.g.now c.args.who c.args.direct 5 c.args.slot (S c.store_pointer.new.device) (S c.link.new.device) = record
    { leaves = c.link.ensures.any_moment; only = c.link.ensures.only } in
    on_ok_map c.link.result _ _ (λ done. λ d may. link_stands c.args.g.now c.requires.accepted c.args.who c.args.direct c.args.slot c.args.page
    c.args.print.now c.load_field-next.result (S c.args.device.now) (S c.fill_linked.new.device) (S c.store_pointer.new.device)
    c.requires.indirect c.requires.slot c.load_field-next.ensures filled d may c.in_ok-store_pointer.ensures.done (S c.link.new.device) decided
    done) c.link.ensures.done

pub returns-in_err-store_pointer-clause-only : goal.returns-in_err-store_pointer-clause-only
returns-in_err-store_pointer-clause-only g c =
    let S = g.D.Pm.state in
    put_only_front c.args.g.now c.args.who c.args.slot 0 c.args.page (slot_word c.args.g.now c.args.direct 5)
    (linked_words (new_row c.args.slot c.args.print.now c.args.page) c.load_field-next.result ++ 0 ∷ 0 ∷ []) (omega arith) (S c.args.device.now)
    (S c.fill_linked.new.device) (S c.store_pointer.new.device) c.fill_linked.ensures.stores c.store_pointer.ensures.only
    c.store_pointer.ensures.others

pub returns-in_err-store_pointer-clause-others : goal.returns-in_err-store_pointer-clause-others
returns-in_err-store_pointer-clause-others g c =
    let S = g.D.Pm.state in
    put_keeps_front c.args.g.now c.args.who c.args.slot 0 c.args.page (slot_word c.args.g.now c.args.direct 5)
    (linked_words (new_row c.args.slot c.args.print.now c.args.page) c.load_field-next.result ++ 0 ∷ 0 ∷ []) (omega arith) (S c.args.device.now)
    (S c.fill_linked.new.device) (S c.store_pointer.new.device) c.fill_linked.ensures.stores c.store_pointer.ensures.only
    c.store_pointer.ensures.others

pub returns-clause-only : goal.returns-clause-only
returns-clause-only g c =
    let S = g.D.Pm.state in
    put_only c.args.g.now c.args.who c.args.slot 0 c.args.page (slot_word c.args.g.now c.args.direct 5)
    (linked_words (new_row c.args.slot c.args.print.now c.args.page) c.load_field-next.result ++ 0 ∷ 0 ∷ []) (omega arith) (S c.args.device.now)
    (S c.fill_linked.new.device) (S c.store_pointer.new.device) c.fill_linked.ensures.stores c.store_pointer.ensures.only
    c.store_pointer.ensures.others (S c.link.new.device) c.link.ensures.only c.link.ensures.others

pub returns-clause-others : goal.returns-clause-others
returns-clause-others g c =
    let S = g.D.Pm.state in
    put_keeps c.args.g.now c.args.who c.args.slot 0 c.args.page (slot_word c.args.g.now c.args.direct 5)
    (linked_words (new_row c.args.slot c.args.print.now c.args.page) c.load_field-next.result ++ 0 ∷ 0 ∷ []) (omega arith) (S c.args.device.now)
    (S c.fill_linked.new.device) (S c.store_pointer.new.device) c.fill_linked.ensures.stores c.store_pointer.ensures.only
    c.store_pointer.ensures.others (S c.link.new.device) c.link.ensures.only c.link.ensures.others

pub returns-clause-settles : goal.returns-clause-settles
returns-clause-settles g c =
    let S = g.D.Pm.state in
    on_ok_map c.link.result _ _ (settles-then c.args.who (S c.args.device.now) (S c.store_pointer.new.device) (S c.link.new.device)
    (flushes-settle c.args.who (S c.args.device.now) (S c.fill_linked.new.device) (S c.store_pointer.new.device) c.fill_linked.ensures.flushes
    c.in_ok-store_pointer.ensures.settles)) c.link.ensures.settles
