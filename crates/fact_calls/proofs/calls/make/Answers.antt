use Rattle.std.proofs.Common.{arith}
use Rattle.pm_device.proofs.AllFlushed.{settles_flushes}
use Rattle.fact_counts.specs.Counted.{MayRaise, MaySettleUp, MaySettleDown, AnyRow}
use Rattle.fact_counts.proofs.Counting.{on_ok_map}
use Rattle.fact_calls.specs.declared.call.TableCall.TheVariants.{Insert, Raise, SettleUp, SettleDown, Recount, RemoveZero, ClearStale}
use Rattle.fact_calls.proofs.Called.{
  both_done,
  row_with,
  insert_may,
  insert_images,
  insert_made,
  zero_may,
  zero_images,
  zero_made,
  clear_images,
  clear_made,
  raise_leaves,
  raise_makes,
  up_leaves,
  up_makes,
  down_leaves,
  down_makes,
  counted_leaves,
  counted_makes,
  of_call-leaves,
  of_call-makes,
  of_call-may,
}
use Rattle.fact_calls.proofs.Words.{only_table, keeps_table, counts_in, insert_in, zero_in, stale_in}
use Rattle.fact_calls.proofs.calls.make.Goals as goal

pub insert-requires-clause-can : goal.insert-requires-clause-can
insert-requires-clause-can g c =
    let S = g.D.Pm.state in
    let can = c.requires.can in
    let may = of_call-may can.disk (S c.args.device.now).now c.args.fact.now c.args.call.now (Insert c.in-Insert.print c.in-Insert.page)
    c.in-Insert.is can.may in
    record { disk = can.disk; may = insert_may can.disk (S c.args.device.now) c.args.fact.now c.in-Insert.print c.in-Insert.page may.table may.may }

pub returns-in_err-insert-in-Insert-clause-images : goal.returns-in_err-insert-in-Insert-clause-images
returns-in_err-insert-in-Insert-clause-images g c =
    let S = g.D.Pm.state in
    of_call-leaves c.args.fact.now c.args.call.now (Insert c.in-Insert.print c.in-Insert.page) (S c.args.device.now) (S c.insert.new.device)
    c.in-Insert.is (λ d may stands. insert_images d (S c.args.device.now) c.args.fact.now c.in-Insert.print c.in-Insert.page may.table may.may
    c.insert.new.fact (S c.insert.new.device) (c.insert.ensures.images d (insert_may d (S c.args.device.now) c.args.fact.now c.in-Insert.print
    c.in-Insert.page may.table may.may) stands))

pub returns-in_ok-insert-in-Insert-clause-images : goal.returns-in_ok-insert-in-Insert-clause-images
returns-in_ok-insert-in-Insert-clause-images g c =
    let S = g.D.Pm.state in
    of_call-leaves c.args.fact.now c.args.call.now (Insert c.in-Insert.print c.in-Insert.page) (S c.args.device.now) (S c.insert.new.device)
    c.in-Insert.is (λ d may stands. insert_images d (S c.args.device.now) c.args.fact.now c.in-Insert.print c.in-Insert.page may.table may.may
    c.insert.new.fact (S c.insert.new.device) (c.insert.ensures.images d (insert_may d (S c.args.device.now) c.args.fact.now c.in-Insert.print
    c.in-Insert.page may.table may.may) stands))

pub returns-in_ok-insert-in-Insert-clause-done : goal.returns-in_ok-insert-in-Insert-clause-done
returns-in_ok-insert-in-Insert-clause-done g c =
    let S = g.D.Pm.state in
    of_call-makes c.args.fact.now c.insert.new.fact c.args.call.now (Insert c.in-Insert.print c.in-Insert.page) (S c.args.device.now)
    (S c.insert.new.device) c.in-Insert.is (λ d may. insert_made d (S c.args.device.now) c.args.fact.now c.in-Insert.print c.in-Insert.page
    may.table may.may c.insert.new.fact (S c.insert.new.device) c.in_ok-insert-in-Insert.field-0
    (c.in_ok-insert-in-Insert.ensures.done d (insert_may d (S c.args.device.now) c.args.fact.now c.in-Insert.print c.in-Insert.page may.table
    may.may)))

pub raise-requires-clause-row : goal.raise-requires-clause-row
raise-requires-clause-row g c =
    let S = g.D.Pm.state in
    let can = c.requires.can in
    let may = of_call-may can.disk (S c.args.device.now).now c.args.fact.now c.args.call.now (Raise c.in-Raise.slot) c.in-Raise.is can.may in
    row_with can.disk (S c.args.device.now).now c.args.fact.now c.in-Raise.slot MayRaise may.table may.may

pub returns-in-Raise-clause-images : goal.returns-in-Raise-clause-images
returns-in-Raise-clause-images g c =
    let S = g.D.Pm.state in
    of_call-leaves c.args.fact.now c.args.call.now (Raise c.in-Raise.slot) (S c.args.device.now) (S c.raise.new.device) c.in-Raise.is
    (raise_leaves c.args.fact.now c.in-Raise.slot (S c.args.device.now) (S c.raise.new.device) c.raise.ensures.images)

pub returns-in-Raise-clause-done : goal.returns-in-Raise-clause-done
returns-in-Raise-clause-done g c =
    let S = g.D.Pm.state in
    both_done c.raise.result _ _ _ (λ makes settles. of_call-makes c.args.fact.now c.args.fact.now c.args.call.now (Raise c.in-Raise.slot)
    (S c.args.device.now) (S c.raise.new.device) c.in-Raise.is (raise_makes c.args.fact.now c.in-Raise.slot (S c.args.device.now)
    (S c.raise.new.device) makes settles)) c.raise.ensures.table c.raise.ensures.settled

pub settle_up-requires-clause-row : goal.settle_up-requires-clause-row
settle_up-requires-clause-row g c =
    let S = g.D.Pm.state in
    let can = c.requires.can in
    let may = of_call-may can.disk (S c.args.device.now).now c.args.fact.now c.args.call.now (SettleUp c.in-SettleUp.slot) c.in-SettleUp.is can.may in
    row_with can.disk (S c.args.device.now).now c.args.fact.now c.in-SettleUp.slot MaySettleUp may.table may.may

pub returns-in-SettleUp-clause-images : goal.returns-in-SettleUp-clause-images
returns-in-SettleUp-clause-images g c =
    let S = g.D.Pm.state in
    of_call-leaves c.args.fact.now c.args.call.now (SettleUp c.in-SettleUp.slot) (S c.args.device.now) (S c.settle_up.new.device) c.in-SettleUp.is
    (up_leaves c.args.fact.now c.in-SettleUp.slot (S c.args.device.now) (S c.settle_up.new.device) c.settle_up.ensures.images)

pub returns-in-SettleUp-clause-done : goal.returns-in-SettleUp-clause-done
returns-in-SettleUp-clause-done g c =
    let S = g.D.Pm.state in
    both_done c.settle_up.result _ _ _ (λ makes settles. of_call-makes c.args.fact.now c.args.fact.now c.args.call.now (SettleUp c.in-SettleUp.slot)
    (S c.args.device.now) (S c.settle_up.new.device) c.in-SettleUp.is (up_makes c.args.fact.now c.in-SettleUp.slot (S c.args.device.now)
    (S c.settle_up.new.device) makes settles)) c.settle_up.ensures.table c.settle_up.ensures.settled

pub settle_down-requires-clause-row : goal.settle_down-requires-clause-row
settle_down-requires-clause-row g c =
    let S = g.D.Pm.state in
    let can = c.requires.can in
    let may = of_call-may can.disk (S c.args.device.now).now c.args.fact.now c.args.call.now (SettleDown c.in-SettleDown.slot) c.in-SettleDown.is
    can.may in
    row_with can.disk (S c.args.device.now).now c.args.fact.now c.in-SettleDown.slot MaySettleDown may.table may.may

pub returns-in-SettleDown-clause-images : goal.returns-in-SettleDown-clause-images
returns-in-SettleDown-clause-images g c =
    let S = g.D.Pm.state in
    of_call-leaves c.args.fact.now c.args.call.now (SettleDown c.in-SettleDown.slot) (S c.args.device.now) (S c.settle_down.new.device)
    c.in-SettleDown.is (down_leaves c.args.fact.now c.in-SettleDown.slot (S c.args.device.now) (S c.settle_down.new.device)
    c.settle_down.ensures.images)

pub returns-in-SettleDown-clause-done : goal.returns-in-SettleDown-clause-done
returns-in-SettleDown-clause-done g c =
    let S = g.D.Pm.state in
    both_done c.settle_down.result _ _ _ (λ makes settles. of_call-makes c.args.fact.now c.args.fact.now c.args.call.now
    (SettleDown c.in-SettleDown.slot) (S c.args.device.now) (S c.settle_down.new.device) c.in-SettleDown.is
    (down_makes c.args.fact.now c.in-SettleDown.slot (S c.args.device.now) (S c.settle_down.new.device) makes settles))
    c.settle_down.ensures.table c.settle_down.ensures.settled

pub recount-requires-clause-row : goal.recount-requires-clause-row
recount-requires-clause-row g c =
    let S = g.D.Pm.state in
    let can = c.requires.can in
    let may = of_call-may can.disk (S c.args.device.now).now c.args.fact.now c.args.call.now (Recount c.in-Recount.slot c.in-Recount.rfc)
    c.in-Recount.is can.may in
    row_with can.disk (S c.args.device.now).now c.args.fact.now c.in-Recount.slot AnyRow may.table may.may

pub returns-in-Recount-clause-images : goal.returns-in-Recount-clause-images
returns-in-Recount-clause-images g c =
    let S = g.D.Pm.state in
    of_call-leaves c.args.fact.now c.args.call.now (Recount c.in-Recount.slot c.in-Recount.rfc) (S c.args.device.now) (S c.recount.new.device)
    c.in-Recount.is (counted_leaves c.args.fact.now c.in-Recount.slot (S c.args.device.now) (S c.recount.new.device) c.in-Recount.rfc
    (omega arith) c.recount.ensures.images)

pub returns-in-Recount-clause-done : goal.returns-in-Recount-clause-done
returns-in-Recount-clause-done g c =
    let S = g.D.Pm.state in
    both_done c.recount.result _ _ _ (λ makes settles. of_call-makes c.args.fact.now c.args.fact.now c.args.call.now
    (Recount c.in-Recount.slot c.in-Recount.rfc) (S c.args.device.now) (S c.recount.new.device) c.in-Recount.is
    (counted_makes c.args.fact.now c.in-Recount.slot (S c.args.device.now) (S c.recount.new.device) c.in-Recount.rfc (omega arith) makes settles))
    c.recount.ensures.table c.recount.ensures.settled

pub remove_zero-requires-clause-row : goal.remove_zero-requires-clause-row
remove_zero-requires-clause-row g c =
    let S = g.D.Pm.state in
    let can = c.requires.can in
    let may = of_call-may can.disk (S c.args.device.now).now c.args.fact.now c.args.call.now (RemoveZero c.in-RemoveZero.slot) c.in-RemoveZero.is
    can.may in
    record {
      disk = can.disk;
      row = may.may.row;
      may = zero_may can.disk (S c.args.device.now) c.args.fact.now c.in-RemoveZero.slot may.table may.may;
    }

pub returns-in-RemoveZero-clause-images : goal.returns-in-RemoveZero-clause-images
returns-in-RemoveZero-clause-images g c =
    let S = g.D.Pm.state in
    of_call-leaves c.args.fact.now c.args.call.now (RemoveZero c.in-RemoveZero.slot) (S c.args.device.now) (S c.remove_zero.new.device)
    c.in-RemoveZero.is (λ d may. zero_images d (S c.args.device.now) c.args.fact.now c.in-RemoveZero.slot may.table may.may
    (S c.remove_zero.new.device) c.remove_zero.ensures.images)

pub returns-in-RemoveZero-clause-done : goal.returns-in-RemoveZero-clause-done
returns-in-RemoveZero-clause-done g c =
    let S = g.D.Pm.state in
    both_done c.remove_zero.result _ _ _ (λ makes settles. of_call-makes c.args.fact.now c.remove_zero.new.fact c.args.call.now
    (RemoveZero c.in-RemoveZero.slot) (S c.args.device.now) (S c.remove_zero.new.device) c.in-RemoveZero.is
    (λ d may. zero_made d (S c.args.device.now) c.args.fact.now c.in-RemoveZero.slot may.table may.may (S c.remove_zero.new.device)
    c.remove_zero.new.fact makes settles)) c.remove_zero.ensures.done c.remove_zero.ensures.settled

pub clear_stale-requires-clause-table : goal.clear_stale-requires-clause-table
clear_stale-requires-clause-table g c = let can = c.requires.can in record { disk = can.disk; is = can.may.table }

pub returns-in-ClearStale-clause-images : goal.returns-in-ClearStale-clause-images
returns-in-ClearStale-clause-images g c =
    let S = g.D.Pm.state in
    of_call-leaves c.args.fact.now c.args.call.now ClearStale (S c.args.device.now) (S c.clear_stale.new.device) c.in-ClearStale.is
    (λ d may stands. clear_images d (S c.args.device.now) (S c.clear_stale.new.device) may.table.good
    (c.clear_stale.ensures.images d may.table stands))

pub returns-in-ClearStale-clause-done : goal.returns-in-ClearStale-clause-done
returns-in-ClearStale-clause-done g c =
    let S = g.D.Pm.state in
    on_ok_map c.clear_stale.result _ _ (λ done. of_call-makes c.args.fact.now c.args.fact.now c.args.call.now ClearStale (S c.args.device.now)
    (S c.clear_stale.new.device) c.in-ClearStale.is (λ d may. clear_made d c.args.fact.now (S c.args.device.now) (S c.clear_stale.new.device)
    (done d may.table))) c.clear_stale.ensures.done

pub returns-in_err-insert-in-Insert-clause-only : goal.returns-in_err-insert-in-Insert-clause-only
returns-in_err-insert-in-Insert-clause-only g c =
    let S = g.D.Pm.state in
    let can = c.requires.can in
    let may = of_call-may can.disk (S c.args.device.now).now c.args.fact.now c.args.call.now (Insert c.in-Insert.print c.in-Insert.page)
    c.in-Insert.is
    can.may in
    only_table c.args.fact.now.geometry _ (insert_in can.disk (S c.args.device.now).now c.args.fact.now c.insert.new.fact c.in-Insert.print
    c.in-Insert.page
    (insert_may can.disk (S c.args.device.now) c.args.fact.now c.in-Insert.print c.in-Insert.page may.table may.may))
    (S c.args.device.now) (S c.insert.new.device) c.insert.ensures.only

pub returns-in_err-insert-in-Insert-clause-others : goal.returns-in_err-insert-in-Insert-clause-others
returns-in_err-insert-in-Insert-clause-others g c =
    let S = g.D.Pm.state in
    let can = c.requires.can in
    let may = of_call-may can.disk (S c.args.device.now).now c.args.fact.now c.args.call.now (Insert c.in-Insert.print c.in-Insert.page)
    c.in-Insert.is
    can.may in
    keeps_table c.args.fact.now.geometry _ (insert_in can.disk (S c.args.device.now).now c.args.fact.now c.insert.new.fact c.in-Insert.print
    c.in-Insert.page
    (insert_may can.disk (S c.args.device.now) c.args.fact.now c.in-Insert.print c.in-Insert.page may.table may.may))
    (S c.args.device.now) (S c.insert.new.device) c.args.who c.insert.ensures.others

pub returns-in_ok-insert-in-Insert-clause-only : goal.returns-in_ok-insert-in-Insert-clause-only
returns-in_ok-insert-in-Insert-clause-only g c =
    let S = g.D.Pm.state in
    let can = c.requires.can in
    let may = of_call-may can.disk (S c.args.device.now).now c.args.fact.now c.args.call.now (Insert c.in-Insert.print c.in-Insert.page)
    c.in-Insert.is
    can.may in
    only_table c.args.fact.now.geometry _ (insert_in can.disk (S c.args.device.now).now c.args.fact.now c.insert.new.fact c.in-Insert.print
    c.in-Insert.page
    (insert_may can.disk (S c.args.device.now) c.args.fact.now c.in-Insert.print c.in-Insert.page may.table may.may))
    (S c.args.device.now) (S c.insert.new.device) c.insert.ensures.only

pub returns-in_ok-insert-in-Insert-clause-others : goal.returns-in_ok-insert-in-Insert-clause-others
returns-in_ok-insert-in-Insert-clause-others g c =
    let S = g.D.Pm.state in
    let can = c.requires.can in
    let may = of_call-may can.disk (S c.args.device.now).now c.args.fact.now c.args.call.now (Insert c.in-Insert.print c.in-Insert.page)
    c.in-Insert.is
    can.may in
    keeps_table c.args.fact.now.geometry _ (insert_in can.disk (S c.args.device.now).now c.args.fact.now c.insert.new.fact c.in-Insert.print
    c.in-Insert.page
    (insert_may can.disk (S c.args.device.now) c.args.fact.now c.in-Insert.print c.in-Insert.page may.table may.may))
    (S c.args.device.now) (S c.insert.new.device) c.args.who c.insert.ensures.others

pub returns-in-Raise-clause-only : goal.returns-in-Raise-clause-only
returns-in-Raise-clause-only g c =
    let S = g.D.Pm.state in
    let can = c.requires.can in
    let may = of_call-may can.disk (S c.args.device.now).now c.args.fact.now c.args.call.now (Raise c.in-Raise.slot) c.in-Raise.is
    can.may in
    only_table c.args.fact.now.geometry _ (counts_in can.disk (S c.args.device.now).now c.args.fact.now may.table c.in-Raise.slot may.may.row
    (record { there = may.may.there; slot_is = may.may.slot_is }))
    (S c.args.device.now) (S c.raise.new.device) c.raise.ensures.only

pub returns-in-Raise-clause-others : goal.returns-in-Raise-clause-others
returns-in-Raise-clause-others g c =
    let S = g.D.Pm.state in
    let can = c.requires.can in
    let may = of_call-may can.disk (S c.args.device.now).now c.args.fact.now c.args.call.now (Raise c.in-Raise.slot) c.in-Raise.is
    can.may in
    keeps_table c.args.fact.now.geometry _ (counts_in can.disk (S c.args.device.now).now c.args.fact.now may.table c.in-Raise.slot may.may.row
    (record { there = may.may.there; slot_is = may.may.slot_is }))
    (S c.args.device.now) (S c.raise.new.device) c.args.who c.raise.ensures.others

pub returns-in-SettleUp-clause-only : goal.returns-in-SettleUp-clause-only
returns-in-SettleUp-clause-only g c =
    let S = g.D.Pm.state in
    let can = c.requires.can in
    let may = of_call-may can.disk (S c.args.device.now).now c.args.fact.now c.args.call.now (SettleUp c.in-SettleUp.slot) c.in-SettleUp.is
    can.may in
    only_table c.args.fact.now.geometry _ (counts_in can.disk (S c.args.device.now).now c.args.fact.now may.table c.in-SettleUp.slot may.may.row
    (record { there = may.may.there; slot_is = may.may.slot_is }))
    (S c.args.device.now) (S c.settle_up.new.device) c.settle_up.ensures.only

pub returns-in-SettleUp-clause-others : goal.returns-in-SettleUp-clause-others
returns-in-SettleUp-clause-others g c =
    let S = g.D.Pm.state in
    let can = c.requires.can in
    let may = of_call-may can.disk (S c.args.device.now).now c.args.fact.now c.args.call.now (SettleUp c.in-SettleUp.slot) c.in-SettleUp.is
    can.may in
    keeps_table c.args.fact.now.geometry _ (counts_in can.disk (S c.args.device.now).now c.args.fact.now may.table c.in-SettleUp.slot may.may.row
    (record { there = may.may.there; slot_is = may.may.slot_is }))
    (S c.args.device.now) (S c.settle_up.new.device) c.args.who c.settle_up.ensures.others

pub returns-in-SettleDown-clause-only : goal.returns-in-SettleDown-clause-only
returns-in-SettleDown-clause-only g c =
    let S = g.D.Pm.state in
    let can = c.requires.can in
    let may = of_call-may can.disk (S c.args.device.now).now c.args.fact.now c.args.call.now (SettleDown c.in-SettleDown.slot) c.in-SettleDown.is
    can.may in
    only_table c.args.fact.now.geometry _ (counts_in can.disk (S c.args.device.now).now c.args.fact.now may.table c.in-SettleDown.slot may.may.row
    (record { there = may.may.there; slot_is = may.may.slot_is }))
    (S c.args.device.now) (S c.settle_down.new.device) c.settle_down.ensures.only

pub returns-in-SettleDown-clause-others : goal.returns-in-SettleDown-clause-others
returns-in-SettleDown-clause-others g c =
    let S = g.D.Pm.state in
    let can = c.requires.can in
    let may = of_call-may can.disk (S c.args.device.now).now c.args.fact.now c.args.call.now (SettleDown c.in-SettleDown.slot) c.in-SettleDown.is
    can.may in
    keeps_table c.args.fact.now.geometry _ (counts_in can.disk (S c.args.device.now).now c.args.fact.now may.table c.in-SettleDown.slot may.may.row
    (record { there = may.may.there; slot_is = may.may.slot_is }))
    (S c.args.device.now) (S c.settle_down.new.device) c.args.who c.settle_down.ensures.others

pub returns-in-Recount-clause-only : goal.returns-in-Recount-clause-only
returns-in-Recount-clause-only g c =
    let S = g.D.Pm.state in
    let can = c.requires.can in
    let may = of_call-may can.disk (S c.args.device.now).now c.args.fact.now c.args.call.now (Recount c.in-Recount.slot c.in-Recount.rfc)
    c.in-Recount.is
    can.may in
    only_table c.args.fact.now.geometry _ (counts_in can.disk (S c.args.device.now).now c.args.fact.now may.table c.in-Recount.slot may.may.row
    (record { there = may.may.there; slot_is = may.may.slot_is }))
    (S c.args.device.now) (S c.recount.new.device) c.recount.ensures.only

pub returns-in-Recount-clause-others : goal.returns-in-Recount-clause-others
returns-in-Recount-clause-others g c =
    let S = g.D.Pm.state in
    let can = c.requires.can in
    let may = of_call-may can.disk (S c.args.device.now).now c.args.fact.now c.args.call.now (Recount c.in-Recount.slot c.in-Recount.rfc)
    c.in-Recount.is
    can.may in
    keeps_table c.args.fact.now.geometry _ (counts_in can.disk (S c.args.device.now).now c.args.fact.now may.table c.in-Recount.slot may.may.row
    (record { there = may.may.there; slot_is = may.may.slot_is }))
    (S c.args.device.now) (S c.recount.new.device) c.args.who c.recount.ensures.others

pub returns-in-RemoveZero-clause-only : goal.returns-in-RemoveZero-clause-only
returns-in-RemoveZero-clause-only g c =
    let S = g.D.Pm.state in
    let can = c.requires.can in
    let may = of_call-may can.disk (S c.args.device.now).now c.args.fact.now c.args.call.now (RemoveZero c.in-RemoveZero.slot) c.in-RemoveZero.is
    can.may in
    let zero = zero_may can.disk (S c.args.device.now) c.args.fact.now c.in-RemoveZero.slot may.table may.may in
    only_table c.args.fact.now.geometry _ (zero_in can.disk may.may.row (S c.args.device.now).now c.args.fact.now c.in-RemoveZero.slot zero)
    (S c.args.device.now) (S c.remove_zero.new.device) (c.remove_zero.ensures.only can.disk may.may.row zero)

pub returns-in-ClearStale-clause-only : goal.returns-in-ClearStale-clause-only
returns-in-ClearStale-clause-only g c =
    let S = g.D.Pm.state in
    let can = c.requires.can in
    only_table c.args.fact.now.geometry _ (stale_in can.disk c.args.fact.now.geometry can.may.table.geometry)
    (S c.args.device.now) (S c.clear_stale.new.device) (c.clear_stale.ensures.only can.disk can.may.table)

pub returns-in-RemoveZero-clause-others : goal.returns-in-RemoveZero-clause-others
returns-in-RemoveZero-clause-others g c =
    let S = g.D.Pm.state in
    let can = c.requires.can in
    let may = of_call-may can.disk (S c.args.device.now).now c.args.fact.now c.args.call.now (RemoveZero c.in-RemoveZero.slot) c.in-RemoveZero.is
    can.may in
    let zero = zero_may can.disk (S c.args.device.now) c.args.fact.now c.in-RemoveZero.slot may.table may.may in
    keeps_table c.args.fact.now.geometry _ (zero_in can.disk may.may.row (S c.args.device.now).now c.args.fact.now c.in-RemoveZero.slot zero)
    (S c.args.device.now) (S c.remove_zero.new.device) c.args.who (c.remove_zero.ensures.others can.disk may.may.row zero)

pub returns-in-ClearStale-clause-others : goal.returns-in-ClearStale-clause-others
returns-in-ClearStale-clause-others g c =
    let S = g.D.Pm.state in
    let can = c.requires.can in
    keeps_table c.args.fact.now.geometry _ (stale_in can.disk c.args.fact.now.geometry can.may.table.geometry)
    (S c.args.device.now) (S c.clear_stale.new.device) c.args.who (c.clear_stale.ensures.others can.disk can.may.table)

pub returns-in-Raise-clause-flushes : goal.returns-in-Raise-clause-flushes
returns-in-Raise-clause-flushes g c =
    let S = g.D.Pm.state in
    on_ok_map c.raise.result _ _ (settles_flushes c.args.who (S c.args.device.now) (S c.raise.new.device)) c.raise.ensures.settles

pub returns-in-SettleUp-clause-flushes : goal.returns-in-SettleUp-clause-flushes
returns-in-SettleUp-clause-flushes g c =
    let S = g.D.Pm.state in
    on_ok_map c.settle_up.result _ _ (settles_flushes c.args.who (S c.args.device.now) (S c.settle_up.new.device)) c.settle_up.ensures.settles

pub returns-in-SettleDown-clause-flushes : goal.returns-in-SettleDown-clause-flushes
returns-in-SettleDown-clause-flushes g c =
    let S = g.D.Pm.state in
    on_ok_map c.settle_down.result _ _ (settles_flushes c.args.who (S c.args.device.now) (S c.settle_down.new.device)) c.settle_down.ensures.settles

pub returns-in-Recount-clause-flushes : goal.returns-in-Recount-clause-flushes
returns-in-Recount-clause-flushes g c =
    let S = g.D.Pm.state in
    on_ok_map c.recount.result _ _ (settles_flushes c.args.who (S c.args.device.now) (S c.recount.new.device)) c.recount.ensures.settles

pub returns-in-RemoveZero-clause-flushes : goal.returns-in-RemoveZero-clause-flushes
returns-in-RemoveZero-clause-flushes g c =
    let S = g.D.Pm.state in
    on_ok_map c.remove_zero.result _ _ (settles_flushes c.args.who (S c.args.device.now) (S c.remove_zero.new.device)) c.remove_zero.ensures.settles

pub returns-in_ok-insert-in-Insert-clause-flushes : goal.returns-in_ok-insert-in-Insert-clause-flushes
returns-in_ok-insert-in-Insert-clause-flushes g c =
    let S = g.D.Pm.state in
    settles_flushes c.args.who (S c.args.device.now) (S c.insert.new.device) c.in_ok-insert-in-Insert.ensures.settles
