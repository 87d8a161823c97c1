use Rattle.std.proofs.Common.{◌≡◌, ℕ, ◌+◌, ◌^◌, ◌<◌, sym, subst}
use Rattle.std.specs.Prelude.{Some, slice_get}
use Rattle.dn_volume.specs.declared.volume.InodeState.{InodeState}
use Rattle.dn_volume.specs.Works.{DaemonLowers}
use Rattle.dn_volume.proofs.Tables.{running_disk}
use Rattle.count_events.proofs.Ends.{err_is}
use Rattle.reclaim.proofs.Zeroed.{stops_freed}
use Rattle.dedupe_daemon.proofs.PlaceFound.{some_free}
use Rattle.dedupe_daemon.proofs.ShareEnds.{
  remap_work,
  remap_ino,
  remap_node,
  remap_idx,
  remap_can,
  remap_room,
  remap_units,
  remap_tail,
  remap_fresh,
  remap_below,
  remap_taken,
  remap_there,
  remap_long,
  remapped_by,
  remap_few,
  remap_stops,
  remap_breaks,
  remap_moves,
  remap_agrees,
  remap_lowers,
}
use Rattle.dedupe_daemon.proofs.remap.remap_place.Goals as goal

pub take_for-fresh-requires : goal.take_for-fresh-requires
take_for-fresh-requires g c =
    let S = g.D.Pm.state in
    let found = running_disk S c.args.v.now c.requires.running c.requires.agrees in
    record {
      some = some_free found.0 c.args.v.now.parts (S c.args.v.now.device) found.1 c.args.sharing c.requires.begun c.args.slot c.requires.step;
    }

pub append_with-requires-clause-ino : goal.append_with-requires-clause-ino
append_with-requires-clause-ino g c = remap_ino g.D.Pm.state c.args.v.now c.args.sharing c.requires.begun c.args.slot c.requires.step
    c.place_to_remap-n.result
    c.place_to_remap-n.ensures c.take_for-fresh.new.free c.take_for-fresh.result c.take_for-fresh.ensures.takes c.requires.agrees c.requires.running

pub append_with-requires-clause-can : goal.append_with-requires-clause-can
append_with-requires-clause-can g c = remap_can g.D.Pm.state c.args.v.now c.args.sharing c.requires.begun c.args.slot c.requires.step
    c.place_to_remap-n.result
    c.place_to_remap-n.ensures c.take_for-fresh.new.free c.take_for-fresh.result c.take_for-fresh.ensures.takes c.requires.agrees c.requires.running

pub append_with-requires-clause-room : goal.append_with-requires-clause-room
append_with-requires-clause-room g c = remap_room g.D.Pm.state c.args.v.now c.args.sharing c.requires.begun c.args.slot c.requires.step
    c.place_to_remap-n.result
    c.place_to_remap-n.ensures c.take_for-fresh.new.free c.take_for-fresh.result c.take_for-fresh.ensures.takes c.requires.agrees c.requires.running

pub item_slot-requires-clause-tail : goal.item_slot-requires-clause-tail
item_slot-requires-clause-tail g c = remap_tail g.D.Pm.state c.args.v.now c.args.sharing c.requires.begun c.args.slot c.requires.step
    c.place_to_remap-n.result
    c.place_to_remap-n.ensures c.take_for-fresh.new.free c.take_for-fresh.result c.take_for-fresh.ensures.takes c.requires.agrees c.requires.running

pub item_slot-requires-clause-fresh : goal.item_slot-requires-clause-fresh
item_slot-requires-clause-fresh g c = remap_fresh g.D.Pm.state c.args.v.now c.args.sharing c.requires.begun c.args.slot c.requires.step
    c.place_to_remap-n.result
    c.place_to_remap-n.ensures c.take_for-fresh.new.free c.take_for-fresh.result c.take_for-fresh.ensures.takes c.requires.agrees c.requires.running

pub note_remapped-requires-clause-ino : goal.note_remapped-requires-clause-ino
note_remapped-requires-clause-ino g c = remap_node g.D.Pm.state c.args.v.now c.args.sharing c.requires.begun c.args.slot c.requires.step
    c.place_to_remap-n.result
    c.place_to_remap-n.ensures c.take_for-fresh.new.free c.take_for-fresh.result c.take_for-fresh.ensures.takes c.requires.agrees c.requires.running

pub note_remapped-requires-clause-idx : goal.note_remapped-requires-clause-idx
note_remapped-requires-clause-idx g c = remap_idx g.D.Pm.state c.args.v.now c.args.sharing c.requires.begun c.args.slot c.requires.step
    c.place_to_remap-n.result
    c.place_to_remap-n.ensures c.take_for-fresh.new.free c.take_for-fresh.result c.take_for-fresh.ensures.takes c.requires.agrees c.requires.running

pub note_remapped-requires-clause-there : goal.note_remapped-requires-clause-there
note_remapped-requires-clause-there g c = remap_there g.D.Pm.state c.args.v.now c.args.sharing c.requires.begun c.args.slot c.requires.step
    c.place_to_remap-n.result
    c.place_to_remap-n.ensures c.take_for-fresh.new.free c.take_for-fresh.result c.take_for-fresh.ensures.takes c.requires.agrees c.requires.running

pub note_remapped-requires-clause-few : goal.note_remapped-requires-clause-few
note_remapped-requires-clause-few g c = subst (λ (k : ℕ). (node : InodeState) → slice_get c.args.v.now.parts.inodes.items c.place_to_remap-n.result.ino
    ≡ Some node → node.log_pages + k < 2 ^ 64) (sym c.pages_more-more.ensures)
    (remap_long g.D.Pm.state c.args.v.now c.args.sharing c.requires.begun c.args.slot c.requires.step
    c.place_to_remap-n.result
    c.place_to_remap-n.ensures c.take_for-fresh.new.free c.take_for-fresh.result c.take_for-fresh.ensures.takes c.requires.agrees c.requires.running)

pub note_remapped-requires-clause-below : goal.note_remapped-requires-clause-below
note_remapped-requires-clause-below g c = remap_below g.D.Pm.state c.args.v.now c.args.sharing c.requires.begun c.args.slot c.requires.step
    c.place_to_remap-n.result
    c.place_to_remap-n.ensures c.take_for-fresh.new.free c.take_for-fresh.result c.take_for-fresh.ensures.takes c.requires.agrees c.requires.running

pub note_remapped-requires-clause-taken : goal.note_remapped-requires-clause-taken
note_remapped-requires-clause-taken g c = remap_taken g.D.Pm.state c.args.v.now c.args.sharing c.requires.begun c.args.slot c.requires.step
    c.place_to_remap-n.result
    c.place_to_remap-n.ensures c.take_for-fresh.new.free c.take_for-fresh.result c.take_for-fresh.ensures.takes c.requires.agrees c.requires.running

pub note_remapped-requires-clause-units : goal.note_remapped-requires-clause-units
note_remapped-requires-clause-units g c = remap_units g.D.Pm.state c.args.v.now c.args.sharing c.requires.begun c.args.slot c.requires.step
    c.place_to_remap-n.result
    c.place_to_remap-n.ensures c.take_for-fresh.new.free c.take_for-fresh.result c.take_for-fresh.ensures.takes c.requires.agrees c.requires.running

pub events_left-requires : goal.events_left-requires
events_left-requires g c = (
  _,
  (
    c.note_remapped.ensures.sharing c.args.sharing c.requires.begun,
    remap_few g.D.Pm.state c.args.v.now c.args.sharing c.requires.begun c.args.slot c.requires.step c.place_to_remap-n.result
        c.place_to_remap-n.ensures c.take_for-fresh.new.free c.take_for-fresh.result c.take_for-fresh.ensures.takes c.requires.agrees
        c.requires.running,
  ),
)

pub returns-in-Ok-clause-agrees : goal.returns-in-Ok-clause-agrees
returns-in-Ok-clause-agrees g c =
    let found = running_disk g.D.Pm.state c.args.v.now c.requires.running c.requires.agrees in
    remap_agrees g.D.Pm.state c.args.v.now c.args.sharing c.requires.begun c.args.slot c.requires.step c.place_to_remap-n.result
    c.place_to_remap-n.ensures c.take_for-fresh.new.free c.take_for-fresh.result c.take_for-fresh.ensures.takes g.F.Fingerprint.print
    (record { device = c.append_with.new.device; print = c.args.v.now.print; kept = c.args.v.now.kept; parts = c.note_remapped.new.parts }) c.append_with.ensures.images
    c.append_with.ensures.only
    c.append_with.ensures.faults found.0 found.1 c.in-Ok.ensures.done c.in-Ok.ensures.settles c.append_with.ensures.spare c.item_slot.result
    c.item_slot.ensures (remapped_by _ _ _ _ _ _ _ c.pages_more-more.ensures c.note_remapped.ensures)

pub returns-in-Ok-clause-event : goal.returns-in-Ok-clause-event
returns-in-Ok-clause-event g c = λ d v. (
  remap_moves g.D.Pm.state c.args.v.now c.args.sharing c.requires.begun c.args.slot c.requires.step c.place_to_remap-n.result
      c.place_to_remap-n.ensures c.take_for-fresh.new.free c.take_for-fresh.result c.take_for-fresh.ensures.takes g.F.Fingerprint.print
      (record { device = c.append_with.new.device; print = c.args.v.now.print; kept = c.args.v.now.kept; parts = c.note_remapped.new.parts }) c.append_with.ensures.images
      c.append_with.ensures.only
      c.append_with.ensures.faults d v c.in-Ok.ensures.done c.in-Ok.ensures.settles c.append_with.ensures.spare c.item_slot.result
      c.item_slot.ensures (remapped_by _ _ _ _ _ _ _ c.pages_more-more.ensures c.note_remapped.ensures),
  remap_work g.D.Pm.state c.args.v.now c.args.sharing c.requires.begun c.args.slot c.requires.step c.place_to_remap-n.result
      c.place_to_remap-n.ensures c.take_for-fresh.new.free c.take_for-fresh.result c.take_for-fresh.ensures.takes d,
  subst (λ (n : ℕ). DaemonLowers c.args.v.now.parts c.note_remapped.new.parts n) (sym c.events_left.ensures)
      (remap_lowers g.D.Pm.state c.args.v.now c.args.sharing c.requires.begun c.args.slot c.requires.step c.place_to_remap-n.result
      c.place_to_remap-n.ensures c.take_for-fresh.new.free c.take_for-fresh.result c.take_for-fresh.ensures.takes g.F.Fingerprint.print
      (record { device = c.append_with.new.device; print = c.args.v.now.print; kept = c.args.v.now.kept; parts = c.note_remapped.new.parts }) c.append_with.ensures.images
      c.append_with.ensures.only
      c.append_with.ensures.faults d v c.in-Ok.ensures.done c.in-Ok.ensures.settles c.append_with.ensures.spare c.item_slot.result
      c.item_slot.ensures (remapped_by _ _ _ _ _ _ _ c.pages_more-more.ensures c.note_remapped.ensures)),
)

pub returns-in-Err-clause-agrees : goal.returns-in-Err-clause-agrees
returns-in-Err-clause-agrees g c =
    let found = running_disk g.D.Pm.state c.args.v.now c.requires.running c.requires.agrees in
    remap_stops g.D.Pm.state c.args.v.now c.args.sharing c.requires.begun c.args.slot c.requires.step c.place_to_remap-n.result
    c.place_to_remap-n.ensures c.take_for-fresh.new.free c.take_for-fresh.result c.take_for-fresh.ensures.takes g.F.Fingerprint.print
    (record { device = c.append_with.new.device; print = c.args.v.now.print; kept = c.args.v.now.kept; parts = c.stop.new.parts }) c.append_with.ensures.images
    c.append_with.ensures.only
    c.append_with.ensures.faults found.0 found.1 (stops_freed c.args.v.now.parts c.take_for-fresh.new.free c.stop.new.parts c.stop.ensures)

pub returns-in-Err-clause-event : goal.returns-in-Err-clause-event
returns-in-Err-clause-event g c = λ d v. (
  remap_breaks g.D.Pm.state c.args.v.now c.args.sharing c.requires.begun c.args.slot c.requires.step c.place_to_remap-n.result
      c.place_to_remap-n.ensures c.take_for-fresh.new.free c.take_for-fresh.result c.take_for-fresh.ensures.takes g.F.Fingerprint.print
      (record { device = c.append_with.new.device; print = c.args.v.now.print; kept = c.args.v.now.kept; parts = c.stop.new.parts }) c.append_with.ensures.images
      c.append_with.ensures.only
      c.append_with.ensures.faults d v (stops_freed c.args.v.now.parts c.take_for-fresh.new.free c.stop.new.parts c.stop.ensures)
      (c.append_with.ensures.failed (err_is c.append_with.result _ c.in-Err.is)),
  remap_work g.D.Pm.state c.args.v.now c.args.sharing c.requires.begun c.args.slot c.requires.step c.place_to_remap-n.result
      c.place_to_remap-n.ensures c.take_for-fresh.new.free c.take_for-fresh.result c.take_for-fresh.ensures.takes d,
)
