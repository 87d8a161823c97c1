-- The event of a place that is left alone, from what its calls give.
use Rattle.std.proofs.Common.{◌≡◌, ℕ, ◌+◌, ◌*◌, ◌/◌, ◌^◌, false, [], ◌∷◌, ◌∙◌, ap, subst, arith}
use Rattle.std.specs.Prelude.{None, slice_index, bit_or}
use Rattle.pm_device.specs.State.{State, Agree, Rose}
use Rattle.pm_device.specs.Settled.{SettlesAll}
use Rattle.pm_device.specs.Commit.{IsDone}
use Rattle.pm_layout.specs.declared.Geometry.{Geometry}
use Rattle.pm_layout.specs.Geometry.{InData}
use Rattle.log_entry.specs.declared.item.Flag.TheVariants.{InProcess}
use Rattle.inode_log.specs.Reflags.{mask_word}
use Rattle.dn_model.specs.Disk.{Disk}
use Rattle.dn_model.specs.Own.{Print}
use Rattle.law_flags.specs.FlagLaws.{masked}
use Rattle.law_log_swap.specs.Relogged.{relogged}
use Rattle.dn_volume.specs.declared.background.Sharing.{Sharing}
use Rattle.dn_volume.specs.declared.volume.Volume.{Volume}
use Rattle.dn_volume.specs.Agrees.{IsVolume, Agrees}
use Rattle.dn_volume.specs.Events.{MovesOn, Breaks}
use Rattle.dn_volume.proofs.Tables.{running_disk}
use Rattle.count_events.specs.Released.{Stops}
use Rattle.dedupe_daemon.specs.Daemon.{PassesPlace}
use Rattle.dedupe_daemon.specs.Looked.{IsLooking, IsToMask}
use Rattle.dedupe_daemon.proofs.DaemonEvent.{DaemonShown, daemon_moves, daemon_breaks}
use Rattle.dedupe_daemon.proofs.ItemAt.{slot_in_data}
use Rattle.dedupe_daemon.proofs.RelogDisk.{tag_shown, disk_kept}
use Rattle.dedupe_daemon.proofs.PassEnds.{begun_write}
use Rattle.dedupe_daemon.proofs.EndEnds.{SetsTag}
use Rattle.dedupe_daemon.proofs.Masked.{log, mask_accounts, new_mask, mask_read, retags, own_then, mask_event}

-- what is accounted for: the places that are left alone, and why
module _ {D F : Type 0} (state : D → State) (w : Volume D F) (sharing : Sharing) (looking : IsLooking w.parts sharing) where
  pub mask_slot : Agrees state w → w.parts.stopped ≡ false → InData w.parts.geometry (sharing.work.slot / 64)
  mask_slot agrees running =
      let found = running_disk state w running agrees in
      let is = (found.1.sharing sharing looking.begun).begun in
      subst (λ (g : Geometry). InData g (sharing.work.slot / 64)) found.1.fast.geometry
      (slot_in_data found.0 found.1.fast.valid sharing.work.ino sharing.work.slot sharing.first sharing.count is.block is.size InProcess is.mask
      (begun_write found.0 sharing is))

  module _ (d : Disk) (v : IsVolume d w.parts (state w.device)) (print : Print) (page : ℕ) (to : IsToMask print d sharing page) where
    abbrev after : Disk
    after = relogged d sharing.work.ino (log d w.parts (state w.device) v sharing looking)

    abbrev mask : ℕ
    mask = new_mask d w.parts (state w.device) v sharing looking

    pub mask_is : (word : ℕ) → word ≡ slice_index (state w.device).now (8 * sharing.work.slot + 6) → bit_or word (2 ^ sharing.done) ≡ mask
    mask_is word read = ap (λ (k : ℕ). bit_or k (2 ^ sharing.done)) (read ∙ mask_read d w.parts (state w.device) v sharing looking)

    module _ (w' : Volume D F) (value : ℕ) (value_is : value ≡ mask)
        (sets : SetsTag (mask_word sharing.work.slot) value (state w.device) (state w'.device))
        (agree : Agree (state w'.device).now (state w'.device).past) where
      sets_mask : SetsTag (mask_word sharing.work.slot) mask (state w.device) (state w'.device)
      sets_mask = subst (λ (k : ℕ). SetsTag (mask_word sharing.work.slot) k (state w.device) (state w'.device)) value_is sets

      shown : DaemonShown print d after (state w.device) (state w'.device)
      shown = tag_shown d sharing.work.ino (log d w.parts (state w.device) v sharing looking) (mask_word sharing.work.slot) mask
          (masked sharing.work.slot mask) (retags d w.parts (state w.device) v sharing looking) (state w.device) (state w'.device) w.parts.geometry
          v.fast
          sets_mask.only print (own_then d w.parts (state w.device) v sharing looking print)
          (mask_accounts d w.parts (state w.device) v sharing looking print page to) agree sets_mask.faults sets_mask.any_moment

      pub mask_moves : PassesPlace sharing w.parts w'.parts → IsDone 15 (mask_word sharing.work.slot) value (state w.device) (state w'.device)
          → SettlesAll 15 (state w.device) (state w'.device) → MovesOn state print 15 w w' d
      mask_moves change done settles = daemon_moves state print w w' d after v shown (sharing.work.ino ∷ [])
          (mask_event d w.parts (state w.device) v sharing looking w'.parts change (state w'.device) sets_mask.only sets_mask.others
          (subst (λ (k : ℕ). IsDone 15 (mask_word sharing.work.slot) k (state w.device) (state w'.device)) value_is done) settles sets_mask.spare)

      pub mask_breaks : Stops w.parts w'.parts → Rose (state w.device).faults (state w'.device).faults → Breaks state print 15 None w w' d
      mask_breaks stops rose =
          let tags = retags d w.parts (state w.device) v sharing looking in
          daemon_breaks state print w w' d after v shown
          (disk_kept d sharing.work.ino (log d w.parts (state w.device) v sharing looking) (mask_word sharing.work.slot) mask
          (masked sharing.work.slot mask) tags).files_same stops (λ a. a ≡ mask_word sharing.work.slot) sets_mask.only
          (λ a low is. omega (arith, low, is, tags.high)) rose
