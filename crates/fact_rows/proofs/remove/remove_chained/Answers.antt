use Rattle.std.proofs.Common.{◌∙◌}
use Rattle.std.specs.Prelude.{slice_index}
use Rattle.pm_layout.specs.Geometry.{slot_word}
use Rattle.pm_device.proofs.SetWord.{on_ok_map}
use Rattle.pm_device.proofs.AllFlushed.{settles-then}
use Rattle.fact_rows.proofs.TakenOut.{
  Went,
  Cleared,
  unlinks,
  before_small,
  gone_page_lt,
  gone_failed,
  gone_images,
  gone_holds,
  gone_stands,
  gone_only_front,
  gone_keeps_front,
  gone_only,
  gone_keeps,
}
use Rattle.fact_rows.proofs.remove.remove_chained.Goals as goal

pub unlink-requires-clause-before : goal.unlink-requires-clause-before
unlink-requires-clause-before g c =
    let S = g.D.Pm.state in
    let can = c.requires.can in
    before_small c.args.g.now c.args.before c.args.slot c.args.page (S c.args.device.now).now can.disk can.row can.prefix can.may

pub store_pointer-requires-clause-size : goal.store_pointer-requires-clause-size
store_pointer-requires-clause-size g c =
    c.unlink.ensures.only.words ∙ c.requires.size

pub store_pointer-requires-clause-page : goal.store_pointer-requires-clause-page
store_pointer-requires-clause-page g c =
    let S = g.D.Pm.state in
    let can = c.requires.can in
    gone_page_lt c.args.g.now can.prefix c.args.slot c.args.page (S c.args.device.now).now can.disk can.row can.may.take

pub returns-in_err-unlink-clause-images : goal.returns-in_err-unlink-clause-images
returns-in_err-unlink-clause-images g c =
    let S = g.D.Pm.state in
    let went : Went c.args.g.now c.args.who (slot_word c.args.g.now c.args.before 5) (slice_index (S c.args.device.now).now (slot_word c.args.g.now c.args.slot 5)) (S c.args.device.now) (S c.unlink.new.device) = record { size = c.requires.size; leaves = c.unlink.ensures.any_moment; only = c.unlink.ensures.only } in
    λ d row prefix may. gone_failed c.args.g.now prefix c.args.slot c.args.page (S c.args.device.now) d row may.take c.args.who
    (slot_word c.args.g.now c.args.before 5) (slice_index (S c.args.device.now).now (slot_word c.args.g.now c.args.slot 5))
    (unlinks c.args.g.now c.args.before c.args.slot c.args.page (S c.args.device.now).now d row prefix may c.requires.indirect)
    (S c.unlink.new.device) went

pub returns-clause-images : goal.returns-clause-images
returns-clause-images g c =
    let S = g.D.Pm.state in
    let went : Went c.args.g.now c.args.who (slot_word c.args.g.now c.args.before 5) (slice_index (S c.args.device.now).now (slot_word c.args.g.now c.args.slot 5)) (S c.args.device.now) (S c.unlink.new.device) = record { size = c.requires.size; leaves = c.unlink.ensures.any_moment; only = c.unlink.ensures.only } in
    let clear : Cleared c.args.g.now c.args.page (S c.unlink.new.device) (S c.store_pointer.new.device) = record
    { leaves = c.store_pointer.ensures.any_moment; only = c.store_pointer.ensures.only } in
    λ d row prefix may. gone_images c.args.g.now prefix c.args.slot c.args.page (S c.args.device.now) d row may.take c.args.who
    (slot_word c.args.g.now c.args.before 5) (slice_index (S c.args.device.now).now (slot_word c.args.g.now c.args.slot 5))
    (unlinks c.args.g.now c.args.before c.args.slot c.args.page (S c.args.device.now).now d row prefix may c.requires.indirect)
    (S c.unlink.new.device) went c.in_ok-unlink.ensures.done (S c.store_pointer.new.device) clear

pub returns-clause-done : goal.returns-clause-done
returns-clause-done g c =
    let S = g.D.Pm.state in
    let went : Went c.args.g.now c.args.who (slot_word c.args.g.now c.args.before 5) (slice_index (S c.args.device.now).now (slot_word c.args.g.now c.args.slot 5)) (S c.args.device.now) (S c.unlink.new.device) = record { size = c.requires.size; leaves = c.unlink.ensures.any_moment; only = c.unlink.ensures.only } in
    let clear : Cleared c.args.g.now c.args.page (S c.unlink.new.device) (S c.store_pointer.new.device) = record
    { leaves = c.store_pointer.ensures.any_moment; only = c.store_pointer.ensures.only } in
    on_ok_map c.store_pointer.result _ _ (λ done. λ d row prefix may. gone_holds c.args.g.now prefix c.args.slot c.args.page (S c.args.device.now) d
    row may.take c.args.who (slot_word c.args.g.now c.args.before 5)
    (slice_index (S c.args.device.now).now (slot_word c.args.g.now c.args.slot 5)) (unlinks c.args.g.now c.args.before c.args.slot c.args.page
    (S c.args.device.now).now d row prefix may c.requires.indirect) (S c.unlink.new.device) went c.in_ok-unlink.ensures.done
    (S c.store_pointer.new.device) clear done) c.store_pointer.ensures.done

pub returns-clause-settled : goal.returns-clause-settled
returns-clause-settled g c =
    let S = g.D.Pm.state in
    let went : Went c.args.g.now c.args.who (slot_word c.args.g.now c.args.before 5) (slice_index (S c.args.device.now).now (slot_word c.args.g.now c.args.slot 5)) (S c.args.device.now) (S c.unlink.new.device) = record { size = c.requires.size; leaves = c.unlink.ensures.any_moment; only = c.unlink.ensures.only } in
    let clear : Cleared c.args.g.now c.args.page (S c.unlink.new.device) (S c.store_pointer.new.device) = record
    { leaves = c.store_pointer.ensures.any_moment; only = c.store_pointer.ensures.only } in
    on_ok_map c.store_pointer.result _ _ (λ done. λ d row prefix may. gone_stands c.args.g.now prefix c.args.slot c.args.page (S c.args.device.now) d
    row may.take c.args.who (slot_word c.args.g.now c.args.before 5)
    (slice_index (S c.args.device.now).now (slot_word c.args.g.now c.args.slot 5)) (unlinks c.args.g.now c.args.before c.args.slot c.args.page
    (S c.args.device.now).now d row prefix may c.requires.indirect) (S c.unlink.new.device) went c.in_ok-unlink.ensures.done
    (S c.store_pointer.new.device) clear done) c.store_pointer.ensures.done

pub returns-in_err-unlink-clause-only : goal.returns-in_err-unlink-clause-only
returns-in_err-unlink-clause-only g c =
    let S = g.D.Pm.state in
    gone_only_front c.args.g.now c.args.who (slot_word c.args.g.now c.args.before 5) c.args.page (S c.args.device.now) (S c.unlink.new.device)
    c.unlink.ensures.only c.unlink.ensures.others

pub returns-in_err-unlink-clause-others : goal.returns-in_err-unlink-clause-others
returns-in_err-unlink-clause-others g c =
    let S = g.D.Pm.state in
    gone_keeps_front c.args.g.now c.args.who (slot_word c.args.g.now c.args.before 5) c.args.page (S c.args.device.now) (S c.unlink.new.device)
    c.unlink.ensures.only c.unlink.ensures.others

pub returns-clause-only : goal.returns-clause-only
returns-clause-only g c =
    let S = g.D.Pm.state in
    gone_only c.args.g.now c.args.who (slot_word c.args.g.now c.args.before 5) c.args.page (S c.args.device.now) (S c.unlink.new.device)
    c.unlink.ensures.only c.unlink.ensures.others (S c.store_pointer.new.device) c.store_pointer.ensures.only c.store_pointer.ensures.others

pub returns-clause-others : goal.returns-clause-others
returns-clause-others g c =
    let S = g.D.Pm.state in
    gone_keeps c.args.g.now c.args.who (slot_word c.args.g.now c.args.before 5) c.args.page (S c.args.device.now) (S c.unlink.new.device)
    c.unlink.ensures.only c.unlink.ensures.others (S c.store_pointer.new.device) c.store_pointer.ensures.only c.store_pointer.ensures.others

pub returns-clause-settles : goal.returns-clause-settles
returns-clause-settles g c =
    let S = g.D.Pm.state in
    on_ok_map c.store_pointer.result _ _ (settles-then c.args.who (S c.args.device.now) (S c.unlink.new.device) (S c.store_pointer.new.device)
    c.in_ok-unlink.ensures.settles) c.store_pointer.ensures.settles
