-- The event of an item's end, from what its calls give.
use Rattle.std.proofs.Common.{◌≡◌, ℕ, ◌+◌, ◌/◌, ◌<◌, ◌≤◌, false, [], ◌∷◌, length, subst, arith}
use Rattle.std.specs.Prelude.{None, Some}
use Rattle.pm_device.specs.State.{State, Agree, Rose}
use Rattle.pm_device.specs.Settled.{IsSettled, LeavesOnly, StoresOnly, KeepsFlushed, Others, SettlesAll}
use Rattle.pm_device.specs.Commit.{IsDone, LeavesOneWord}
use Rattle.pm_layout.specs.declared.Geometry.{Geometry}
use Rattle.pm_layout.specs.Geometry.{InData}
use Rattle.log_entry.specs.declared.item.Flag.TheVariants.{InProcess, Complete}
use Rattle.inode_log.specs.Reflags.{flag_word}
use Rattle.dn_model.specs.Disk.{Disk}
use Rattle.dn_model.specs.Own.{Print}
use Rattle.law_flags.specs.FlagLaws.{flagged}
use Rattle.law_log_swap.specs.Relogged.{relogged}
use Rattle.dn_volume.specs.declared.units.TheConstants.{END_UNITS}
use Rattle.dn_volume.specs.declared.background.Sharing.{Sharing}
use Rattle.dn_volume.specs.declared.background.SharingStep.TheVariants.{Look}
use Rattle.dn_volume.specs.declared.volume.Volume.{Volume}
use Rattle.dn_volume.specs.Agrees.{IsVolume, Agrees}
use Rattle.dn_volume.specs.Events.{MovesOn, Breaks}
use Rattle.dn_volume.proofs.Tables.{running_disk}
use Rattle.count_events.specs.Released.{Stops}
use Rattle.dedupe_daemon.specs.Daemon.{EndsItem}
use Rattle.dedupe_daemon.proofs.DaemonEvent.{DaemonShown, daemon_moves, daemon_breaks}
use Rattle.dedupe_daemon.proofs.ItemAt.{slot_in_data}
use Rattle.dedupe_daemon.proofs.RelogDisk.{tag_shown, alone_kept, disk_kept}
use Rattle.dedupe_daemon.proofs.FlagDisk.{flag_alone}
use Rattle.dedupe_daemon.proofs.PassEnds.{begun_write}
use Rattle.dedupe_daemon.proofs.Ended.{log, end_retags, end_own, ino_inside, end_owed, end_event}

-- a word of an item was stored, flushed and fenced by the daemon, or tried so
pub record SetsTag (at value : ℕ) (s u : State) : Type 0 where
  pub any_moment : IsSettled s at → LeavesOnly s u (LeavesOneWord at value s)
  pub only : StoresOnly (λ a. a ≡ at) s u
  pub others : KeepsFlushed (Others 15) (λ a. a ≡ at) s u
  pub spare : s.spare ≤ u.spare + 3
  pub faults : s.faults ≤ u.faults

module _ {D F : Type 0} (state : D → State) (w : Volume D F) (sharing : Sharing) (begun : w.parts.sharing ≡ Some sharing) (look : sharing.step ≡ Look)
    (all_done : sharing.count ≤ sharing.done) where
  module _ (agrees : Agrees state w) (running : w.parts.stopped ≡ false) where
    abbrev found : (d : Disk) × IsVolume d w.parts (state w.device)
    found = running_disk state w running agrees

    pub end_slot : InData w.parts.geometry (sharing.work.slot / 64)
    end_slot =
        let is = (found.1.sharing sharing begun).begun in
        subst (λ (g : Geometry). InData g (sharing.work.slot / 64)) found.1.fast.geometry
        (slot_in_data found.0 found.1.fast.valid sharing.work.ino sharing.work.slot sharing.first sharing.count is.block is.size InProcess is.mask
        (begun_write found.0 sharing is))

    pub end_there : sharing.work.ino < length w.parts.inodes.items
    end_there = ino_inside found.0 w.parts (state w.device) found.1 sharing begun look all_done

    pub end_units : END_UNITS ≤ w.parts.owed.units
    end_units = end_owed found.0 w.parts (state w.device) found.1 sharing begun look all_done

    pub end_spare : 3 ≤ (state w.device).spare
    end_spare = omega (arith, end_units, found.1.room.units)

  module _ (print : Print) (w' : Volume D F) (sets : SetsTag (flag_word sharing.work.slot) 3 (state w.device) (state w'.device))
      (agree : Agree (state w'.device).now (state w'.device).past) (d : Disk) (v : IsVolume d w.parts (state w.device)) where
    abbrev after : Disk
    after = relogged d sharing.work.ino (log d w.parts (state w.device) v sharing begun look all_done)

    shown : DaemonShown print d after (state w.device) (state w'.device)
    shown =
        let is = (v.sharing sharing begun).begun in
        tag_shown d sharing.work.ino (log d w.parts (state w.device) v sharing begun look all_done) (flag_word sharing.work.slot) 3
        (flagged sharing.work.slot Complete)
        (end_retags d w.parts (state w.device) v sharing begun look all_done) (state w.device) (state w'.device) w.parts.geometry v.fast sets.only
        print
        (end_own d w.parts (state w.device) v sharing begun look all_done print)
        (λ own. alone_kept d sharing.work.ino (log d w.parts (state w.device) v sharing begun look all_done) (flag_word sharing.work.slot) 3
        (flagged sharing.work.slot Complete) (end_retags d w.parts (state w.device) v sharing begun look all_done)
        (flag_alone d v.fast.valid sharing.work.ino sharing.work.slot sharing.first sharing.count is.block is.size InProcess is.mask
        (begun_write d sharing is) Complete) print) agree sets.faults sets.any_moment

    pub end_moves : EndsItem sharing.work.ino w.parts w'.parts → IsDone 15 (flag_word sharing.work.slot) 3 (state w.device) (state w'.device)
        → SettlesAll 15 (state w.device) (state w'.device) → MovesOn state print 15 w w' d
    end_moves change done settles = daemon_moves state print w w' d after v shown (sharing.work.ino ∷ [])
        (end_event d w.parts (state w.device) v sharing begun look all_done w'.parts change (state w'.device) sets.only sets.others done settles
        sets.spare)

    pub end_breaks : Stops w.parts w'.parts → Rose (state w.device).faults (state w'.device).faults → Breaks state print 15 None w w' d
    end_breaks stops rose =
        let tags = end_retags d w.parts (state w.device) v sharing begun look all_done in
        daemon_breaks state print w w' d after v shown
        (disk_kept d sharing.work.ino (log d w.parts (state w.device) v sharing begun look all_done) (flag_word sharing.work.slot) 3
        (flagged sharing.work.slot Complete) tags).files_same stops (λ a. a ≡ flag_word sharing.work.slot) sets.only
        (λ a low is. omega (arith, low, is, tags.high)) rose
