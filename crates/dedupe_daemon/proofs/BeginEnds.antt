-- The event of an item's begin, from what its calls give.
use Rattle.std.proofs.Common.{◌≡◌, ◌+◌, ◌*◌, ◌/◌, ◌<◌, false, List, [], ◌∷◌, length, ap, subst, arith}
use Rattle.std.specs.Prelude.{None, Some, slice_get}
use Rattle.pm_device.specs.State.{State, Agree, Rose}
use Rattle.pm_device.specs.Settled.{SettlesAll}
use Rattle.pm_device.specs.Commit.{IsDone}
use Rattle.pm_layout.specs.declared.Geometry.{Geometry}
use Rattle.pm_layout.specs.Geometry.{InData}
use Rattle.log_entry.specs.declared.item.Flag.TheVariants.{InProcess}
use Rattle.inode_log.specs.Reflags.{flag_word}
use Rattle.dedupe_queue.specs.declared.Work.{Work}
use Rattle.dn_model.specs.Disk.{Disk}
use Rattle.dn_model.specs.Own.{Print}
use Rattle.law_flags.specs.FlagLaws.{flagged}
use Rattle.law_log_swap.specs.Relogged.{relogged}
use Rattle.dn_volume.specs.declared.background.Sharing.{Sharing}
use Rattle.dn_volume.specs.declared.volume.InodeState.{InodeState}
use Rattle.dn_volume.specs.declared.volume.Volume.{Volume}
use Rattle.dn_volume.specs.Agrees.{IsVolume, Agrees}
use Rattle.dn_volume.specs.Events.{MovesOn, Breaks}
use Rattle.dn_volume.specs.Works.{MayWork, DaemonLowers, daemon_stand}
use Rattle.dn_volume.proofs.Tables.{running_disk}
use Rattle.count_events.specs.Released.{Stops}
use Rattle.dedupe_daemon.specs.Daemon.{BeginsItem}
use Rattle.dedupe_daemon.specs.Fronts.{IsFreshWork, item_at, HasRoomToShare}
use Rattle.dedupe_daemon.proofs.DaemonEvent.{DaemonShown, daemon_moves, daemon_breaks}
use Rattle.dedupe_daemon.proofs.ItemAt.{slot_in_data}
use Rattle.dedupe_daemon.proofs.RelogDisk.{tag_shown, alone_kept, disk_kept}
use Rattle.dedupe_daemon.proofs.FlagDisk.{flag_alone}
use Rattle.dedupe_daemon.proofs.Fronts.{IsOfFile, of_file}
use Rattle.dedupe_daemon.proofs.EndEnds.{SetsTag}
use Rattle.dedupe_daemon.proofs.Begun.{log, begin_retags, begin_own, begin_lowers, begin_event, nobody_holds, waits_work, ino_inside}

-- the front of the queue, and what waits behind it
pub front_rest : (works : List Work) (work : Work) → slice_get works 0 ≡ Some work → (rest : List Work) × (works ≡ work ∷ rest)
front_rest [] work is = cc
front_rest (x ∷ xs) work is = let same : x ≡ work = cc in (xs, ap (λ (y : Work). y ∷ xs) same)

module _ {D F : Type 0} (state : D → State) (w : Volume D F) (sharing : Sharing) (none_begun : w.parts.sharing ≡ None)
    (front : slice_get w.parts.queue.items 0 ≡ Some sharing.work) (fresh : IsFreshWork w.parts.inodes.items sharing.work)
    (item : sharing ≡ item_at (state w.device).now sharing.work)
    (loose : (n : InodeState) → slice_get w.parts.inodes.items sharing.work.ino ≡ Some n → n.holder ≡ None) where
  module _ (agrees : Agrees state w) (running : w.parts.stopped ≡ false) where
    abbrev found : (d : Disk) × IsVolume d w.parts (state w.device)
    found = running_disk state w running agrees

    pub begin_slot : InData w.parts.geometry (sharing.work.slot / 64)
    begin_slot =
        let of = of_file found.0 w.parts (state w.device) found.1 sharing.work fresh in
        subst (λ (g : Geometry). InData g (sharing.work.slot / 64)) found.1.fast.geometry
        (slot_in_data found.0 found.1.fast.valid sharing.work.ino sharing.work.slot of.first of.n of.block of.size of.m.flag of.m.mask of.has)

    pub begin_there : sharing.work.ino < length w.parts.inodes.items
    begin_there =
        let of = of_file found.0 w.parts (state w.device) found.1 sharing.work fresh in
        ino_inside found.0 w.parts (state w.device) found.1 sharing none_begun of item loose

  module _ (d : Disk) (v : IsVolume d w.parts (state w.device)) where
    abbrev of : IsOfFile d w.parts sharing.work
    of = of_file d w.parts (state w.device) v sharing.work fresh

    pub begin_work : MayWork (daemon_stand d w.parts)
    begin_work = let more_work = front_rest w.parts.queue.items sharing.work front in
        waits_work d w.parts sharing.work more_work.0 more_work.1 (nobody_holds d w.parts (state w.device) v sharing none_begun of item loose)

    module _ (print : Print) (w' : Volume D F) (sets : SetsTag (flag_word sharing.work.slot) 2 (state w.device) (state w'.device))
        (agree : Agree (state w'.device).now (state w'.device).past) where
      abbrev after : Disk
      after = relogged d sharing.work.ino (log d w.parts (state w.device) v sharing none_begun of item loose)

      shown : DaemonShown print d after (state w.device) (state w'.device)
      shown =
          let tags = begin_retags d w.parts (state w.device) v sharing none_begun of item loose in
          tag_shown d sharing.work.ino (log d w.parts (state w.device) v sharing none_begun of item loose) (flag_word sharing.work.slot) 2
          (flagged sharing.work.slot InProcess) tags (state w.device) (state w'.device) w.parts.geometry v.fast sets.only print
          (begin_own d w.parts (state w.device) v sharing none_begun of item loose print)
          (λ own. alone_kept d sharing.work.ino (log d w.parts (state w.device) v sharing none_begun of item loose) (flag_word sharing.work.slot) 2
          (flagged sharing.work.slot InProcess) tags
          (flag_alone d v.fast.valid sharing.work.ino sharing.work.slot of.first of.n of.block of.size of.m.flag of.m.mask of.has InProcess) print)
          agree sets.faults sets.any_moment

      pub begin_moves : BeginsItem sharing w.parts w'.parts → HasRoomToShare state w sharing.count
          → IsDone 15 (flag_word sharing.work.slot) 2 (state w.device) (state w'.device)
          → SettlesAll 15 (state w.device) (state w'.device) → MovesOn state print 15 w w' d
      begin_moves change room done settles = daemon_moves state print w w' d after v shown (sharing.work.ino ∷ [])
          (begin_event d w.parts (state w.device) v sharing none_begun of item loose w'.parts change (state w'.device) sets.only sets.others done
          settles
          (omega (arith, room.units, change.units, sets.spare)) (omega (arith, room.trace, change.trace)))

      pub begin_breaks : Stops w.parts w'.parts → Rose (state w.device).faults (state w'.device).faults → Breaks state print 15 None w w' d
      begin_breaks stops rose =
          let tags = begin_retags d w.parts (state w.device) v sharing none_begun of item loose in
          daemon_breaks state print w w' d after v shown
          (disk_kept d sharing.work.ino (log d w.parts (state w.device) v sharing none_begun of item loose) (flag_word sharing.work.slot) 2
          (flagged sharing.work.slot InProcess) tags).files_same stops (λ a. a ≡ flag_word sharing.work.slot) sets.only
          (λ a low is. omega (arith, low, is, tags.high)) rose

    pub begin_less : (w' : Volume D F) → BeginsItem sharing w.parts w'.parts → DaemonLowers w.parts w'.parts (3 * sharing.count + 1)
    begin_less w' change = begin_lowers d w.parts (state w.device) v sharing none_begun of item loose w'.parts change
