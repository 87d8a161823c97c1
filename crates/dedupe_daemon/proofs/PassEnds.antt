-- The event of a place that is passed over, from what its calls give.
use Rattle.std.proofs.Common.{◌≡◌, ◌^◌, ◌<◌, ◌≤◌, false, [], arith}
use Rattle.std.specs.Prelude.{Some}
use Rattle.pm_device.specs.State.{State, Agree}
use Rattle.dn_model.specs.Disk.{Disk}
use Rattle.dn_model.specs.Own.{Print}
use Rattle.dn_volume.specs.declared.units.TheConstants.{PLACE_UNITS}
use Rattle.dn_volume.specs.declared.background.Sharing.{Sharing}
use Rattle.dn_volume.specs.declared.volume.Parts.{Parts}
use Rattle.dn_volume.specs.declared.volume.Volume.{Volume}
use Rattle.dn_volume.specs.Agrees.{IsVolume, Agrees}
use Rattle.dn_volume.specs.Shares.{IsBegun}
use Rattle.dn_volume.specs.Events.{MovesOn}
use Rattle.dn_volume.proofs.Tables.{running_disk}
use Rattle.log_entry.specs.declared.item.Flag.TheVariants.{InProcess}
use Rattle.dedupe_daemon.specs.Daemon.{PassesPlace}
use Rattle.dedupe_daemon.specs.Looked.{IsLooking, IsPassed}
use Rattle.dedupe_daemon.proofs.DaemonEvent.{daemon_moves}
use Rattle.dedupe_daemon.proofs.ItemAt.{HasWrite, item_spelled}
use Rattle.dedupe_daemon.proofs.QuietEvent.{shown_same}
use Rattle.dedupe_daemon.proofs.Passed.{pass_event, place_owed, changes_owed}

-- the begun item stands in its log
pub begun_write : (d : Disk) (sharing : Sharing) (begun : IsBegun d sharing) → HasWrite d sharing.work.ino sharing.work.slot sharing.first
    sharing.count
    begun.block begun.size InProcess begun.mask
begun_write d sharing begun = record { in_table = begun.in_table; live = begun.live; item = begun.item }

-- it has few places
pub begun_few : (d : Disk) (b : Parts) (s : State) → IsVolume d b s → (sharing : Sharing) → IsBegun d sharing → sharing.count ≤ 17
begun_few d b s v sharing begun = (item_spelled d v.fast.valid sharing.work.ino sharing.work.slot sharing.first sharing.count begun.block begun.size
    InProcess begun.mask (begun_write d sharing begun)).1

module _ {D F : Type 0} (state : D → State) (w : Volume D F) (agrees : Agrees state w) (running : w.parts.stopped ≡ false) (sharing : Sharing)
    (begun : w.parts.sharing ≡ Some sharing) where
  pub few_places : sharing.count < 2 ^ 32
  few_places =
      let found = running_disk state w running agrees in
      let few = begun_few found.0 w.parts (state w.device) found.1 sharing (found.1.sharing sharing begun).begun in
      omega (arith, few)

  pub units_for_place : IsLooking w.parts sharing → PLACE_UNITS ≤ w.parts.owed.units
  units_for_place looking = let found = running_disk state w running agrees in place_owed w.parts sharing looking (state w.device) found.1.room

  pub spare_for_place : IsLooking w.parts sharing → 3 ≤ (state w.device).spare
  spare_for_place looking = let found = running_disk state w running agrees in omega (arith, units_for_place looking, found.1.room.units)

  pub changes_for_place : IsLooking w.parts sharing → 2 ≤ w.parts.owed.trace
  changes_for_place looking = let found = running_disk state w running agrees in changes_owed w.parts sharing looking (state w.device) found.1.room

module _ {D F : Type 0} (state : D → State) (w w' : Volume D F) (sharing : Sharing) (looking : IsLooking w.parts sharing)
    (passed : (d : Disk) → IsVolume d w.parts (state w.device) → IsPassed d sharing) (change : PassesPlace sharing w.parts w'.parts)
    (agree : Agree (state w.device).now (state w.device).past) (print : Print) where
  pub pass_moves : (d : Disk) → IsVolume d w.parts (state w.device) → MovesOn state print 15 w (record w { parts = w'.parts }) d
  pass_moves d v = daemon_moves state print w (record w { parts = w'.parts }) d d v (shown_same print d w.parts (state w.device) v agree) []
      (pass_event d w.parts w'.parts (state w.device) v sharing looking (passed d v) change agree)
