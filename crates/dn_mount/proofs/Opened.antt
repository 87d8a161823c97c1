-- A volume over a device that was repaired, and what a mount makes of it.
use Rattle.std.proofs.Common.{◌≡◌, ℕ, ◌-◌, ◌<◌, ◌≤◌, List, refl, sym, ◌∙◌, ap, subst, Option, Some, None}
use Rattle.std.specs.Prelude.{Result, Ok, Err, IfOk}
use Rattle.pm_device.specs.State.{State, Agree}
use Rattle.pm_device.specs.Settled.{Still}
use Rattle.pm_device.proofs.Moments.{leaves_only-weaken}
use Rattle.dn_model.specs.Table.{Row}
use Rattle.dn_model.specs.Disk.{Disk, Use, Free, Live, Dying}
use Rattle.dn_model.specs.Files.{files}
use Rattle.dn_model.specs.Image.{StandsFor}
use Rattle.dn_model.specs.Own.{Print, page_bytes}
use Rattle.dedupe_queue.specs.declared.WorkQueue.{WorkQueue}
use Rattle.law_write.proofs.Counting.{total-zero}
use Rattle.law_unique.proofs.OneFault.{fault_none}
use Rattle.law_table.specs.Changes.{with_table}
use Rattle.law_table_on_disk.proofs.Frame.{maps_same, files_same}
use Rattle.dn_volume.specs.declared.volume.Parts.{Parts}
use Rattle.dn_volume.specs.declared.volume.Volume.{Volume}
use Rattle.dn_volume.specs.Parties.{flight_at}
use Rattle.dn_volume.specs.Agrees.{IsVolume, Agrees, agrees_with}
use Rattle.dn_volume.specs.Accounts.{KeepsAlone}
use Rattle.dn_volume.specs.Reclaims.{dying_units, units_by_use, mapped_places}
use Rattle.dn_volume.specs.Resting.{AllLanded, IsAtRest}
use Rattle.dn_volume.specs.Sound.{is_sound}
use Rattle.dn_volume.proofs.Resting.{resting}
use Rattle.dn_volume.proofs.SoundStays.{rose_since, stands_now}
use Rattle.dn_volume.proofs.Stills.{still_without}
use Rattle.dn_volume.proofs.Tables.{running_disk}
use Rattle.dn_volume.proofs.Wants.{none_dying}
use Rattle.image_keep.specs.Free.{AreFreePages}
use Rattle.image_keep.specs.Waiting.{WaitBelow}
use Rattle.table_repair.specs.Later.{HasLater}
use Rattle.table_repair.specs.Settling.{SettlesFrom}
use Rattle.table_repair.proofs.Later.{leaves_then}
use Rattle.dn_mount.specs.declared.fault.MountFault.{MountFault}
use Rattle.dn_mount.specs.declared.fault.MountFault.TheVariants.{Image, NoMemory, Failed}
use Rattle.dn_mount.specs.Kept.{KeepsFiles}
use Rattle.dn_mount.specs.Scanned.{IsScanOf}
use Rattle.dn_mount.specs.Mounted.{IsMountFault, IsMounted, LeavesRepairs, LeavesMounts, HasNoDying}
use Rattle.dn_mount.specs.Reading.{IsSettleFault}
use Rattle.dn_mount.specs.Finishing.{IsIdle, Finishes}
use Rattle.dn_mount.specs.Opening.{IsOpened, IsReopened}
use Rattle.dn_mount.proofs.Events.{keeps_same, keeps_then}
use Rattle.dn_mount.proofs.Finished.{alone_same, alone_then}
use Rattle.dn_mount.proofs.Fresh.{fresh_volume}
use Rattle.dn_mount.proofs.SoundNow.{sound_now}

-- what a table is settled for stays: files, places, and what inodes are used for
settled_keeps : (print : Print) (d e : Disk) → SettlesFrom d e → KeepsFiles print d e
settled_keeps print d e settles = record {
  same = λ name. ap (λ (x : Disk). files x name) settles.same ∙ sym (files_same d e.chain e.pointer name);
  own = settles.own print;
}

alone_table : (d : Disk) (chain : ℕ → List Row) (pointer : ℕ → ℕ) → KeepsAlone d (with_table d chain pointer)
unfolding page_bytes
alone_table d chain pointer ino idx m place alone = record {
  mapping = m;
  place = record { in_table = place.in_table; live = place.live; maps = sym (maps_same d chain pointer ino idx) ∙ place.maps };
  alone = alone;
  page_is = refl;
  bytes_are = refl;
}

settled_alone : (d e : Disk) → SettlesFrom d e → KeepsAlone d e
settled_alone d e settles = subst (λ (x : Disk). KeepsAlone d x) (sym settles.same) (alone_table d e.chain e.pointer)

settled_no_dying : (d e : Disk) → SettlesFrom d e → HasNoDying d → HasNoDying e
settled_no_dying d e settles none = subst HasNoDying (sym settles.same) (record { none = none.none })

pub settled_images : (print : Print) (d : Disk) (s u : State) → LeavesRepairs d s u → LeavesMounts print d s u
settled_images print d s u leaves = leaves_only-weaken s u (HasLater SettlesFrom d) (HasLater (KeepsFiles print) d)
    (λ c (has : HasLater SettlesFrom d c). record {
      disk = has.disk;
      stands_for = has.stands_for;
      is = settled_keeps print d has.disk has.is;
    }) leaves

none_is_some : {X : Type 0} (o : Option X) (x : X) → o ≡ None → o ≡ Some x → ⊥
none_is_some o x none some = cc

-- the parts of what was read
module _ (d : Disk) (b : Parts) (u : State) (opened : IsOpened d b u) where
  abbrev after : Disk
  after = opened.repaired.after

  abbrev is : IsScanOf after opened.scan u
  is = opened.repaired.scan_is

  pub opened_volume : IsVolume after b u
  opened_volume = fresh_volume after opened.scan u is b opened.fresh

  landed : AllLanded b
  landed who f flies = none_is_some (flight_at b.flights.items (who - 1)) f (opened.fresh.flights.none (who - 1)) flies.is

  pub opened_idle : IsIdle b
  opened_idle = record { running = opened.fresh.running; landed = landed; sharing = opened.fresh.sharing }

  -- where no file is dying, nothing waits
  no_units : (use_is : Use) (places ino : ℕ) → ino < after.geometry.inodes → (after.inode ino).use_of ≡ use_is → HasNoDying after
      → units_by_use use_is places ≡ 0
  no_units Free places ino lt use_of none = refl
  no_units Live places ino lt use_of none = refl
  no_units (Dying cut) places ino lt use_of none = absurd (none.none ino cut lt use_of)

  pub opened_waits : HasNoDying d → b.reclaiming.waiting ≡ 0
  opened_waits none =
      opened.fresh.waiting ∙ is.waiting ∙ total-zero (dying_units after) after.geometry.inodes
      (λ ino lt. no_units (after.inode ino).use_of (mapped_places after ino) ino lt refl (settled_no_dying d after opened.repaired.settles none))

module _ {D F : Type 0} (state : D → State) (print : Print) where
  pub opened_agrees : (d : Disk) (v : Volume D F) → IsOpened d v.parts (state v.device) → Agrees state v
  opened_agrees d v opened = agrees_with (opened.repaired.after) (opened_volume d v.parts (state v.device) opened)

  -- what was opened is mounted, where nothing waits
  module _ (d e : Disk) (v : Volume D F) (opened : IsOpened e v.parts (state v.device)) (keeps : KeepsFiles print d e) (alone : KeepsAlone d e)
      (agree : Agree (state v.device).now (state v.device).past) (none : v.parts.reclaiming.waiting ≡ 0) where
    abbrev s : State
    s = state v.device

    abbrev left : Disk
    left = opened.repaired.after

    volume : IsVolume left v.parts s
    volume = opened_volume e v.parts s opened

    idle : IsIdle v.parts
    idle = opened_idle e v.parts s opened

    rest : IsAtRest left s
    rest = (resting left v.parts s volume idle.landed idle.sharing none opened.fresh.cleaning).0

    no_dying : HasNoDying left
    no_dying = record { none = rest.no_dying }

    pub mounted_of : IsMounted state print d v
    mounted_of = record {
      after = left;
      volume = volume;
      keeps = keeps_then print d e left keeps (settled_keeps print e left opened.repaired.settles);
      alone = alone_then d e left alone (settled_alone e left opened.repaired.settles);
      exact = opened.repaired.scan_is.exact;
      pointers = opened.repaired.scan_is.pointers;
      no_dying = no_dying;
      gate = rest.closed;
      still = opened.repaired.scan_is.still;
      free = subst (AreFreePages left) (sym opened.fresh.free) opened.repaired.scan_is.free;
      queue = subst (λ (q : WorkQueue). WaitBelow left.inode left.geometry.inodes q.items) (sym opened.fresh.queue) opened.repaired.scan_is.queue;
      running = opened.fresh.running;
      flights = opened.fresh.flights;
      sharing = opened.fresh.sharing;
      waiting = none;
      cleaning = opened.fresh.cleaning;
      history = opened.fresh.history;
      trace = opened.fresh.trace;
      made = opened.fresh.made;
      sound = λ own. is_sound left volume
          (sound_now print left v.parts s volume agree own opened.repaired.scan_is.exact no_dying opened.fresh.history opened.fresh.trace);
    }

  -- at once
  pub mounted_now : (d : Disk) (v : Volume D F) → IsOpened d v.parts (state v.device) → Agree (state v.device).now (state v.device).past
      → v.parts.reclaiming.waiting ≡ 0 → IsMounted state print d v
  mounted_now d v opened agree none = mounted_of d d v opened (keeps_same print d) (alone_same d) agree none

  -- once dying files were finished
  module _ (v w : Volume D F) (agrees : Agrees state v) (idle : IsIdle v.parts)
      (done : (d : Disk) → IsVolume d v.parts (state v.device) → Finishes state print v w d) (then_idle : IsIdle w.parts)
      (none : w.parts.reclaiming.waiting ≡ 0) (faults : (state v.device).faults ≤ (state w.device).faults) where
    first : (d : Disk) × IsVolume d v.parts (state v.device)
    first = running_disk state v idle.running agrees

    module _ (d : Disk) (volume : IsVolume d v.parts (state v.device)) where
      abbrev finished : Finishes state print v w d
      finished = done d volume

      pub finished_stands : StandsFor (state w.device).now finished.stays.after
      finished_stands = stands_now finished.stays.after w.parts (state w.device) finished.stays.volume.fast

      pub reopened_from : (b : Parts) (u : State) → ((e : Disk) → StandsFor (state w.device).now e → IsOpened e b u) → IsReopened print d b u
      reopened_from b u opened = record {
        between = finished.stays.after;
        keeps = finished.stays.keeps;
        alone = finished.alone;
        no_dying = record { none = none_dying finished.stays.after w.parts (state w.device) finished.stays.volume none };
        opened = opened finished.stays.after finished_stands;
      }

      pub reopened_images : (u : State) → ((e : Disk) → StandsFor (state w.device).now e → LeavesRepairs e (state w.device) u)
          → LeavesMounts print d (state v.device) u
      reopened_images u leaves = leaves_then (KeepsFiles print) (keeps_then print) d finished.stays.after finished.stays.keeps (state v.device)
          (state w.device) u finished.stays.images
          (settled_images print finished.stays.after (state w.device) u (leaves finished.stays.after finished_stands))

    pub finished_still : Still (state w.device)
    finished_still = still_without w.parts (state w.device) (done first.0 first.1).stays.volume.still then_idle.landed

    pub reopened_fault : (u : State) (fault : MountFault) → IsMountFault (state w.device) u fault → IsSettleFault (state v.device) u fault
    reopened_fault u (Image fault) refused = fault_none (state w.device).now fault refused.is
        (record { disk = (done first.0 first.1).stays.after; stands_for = finished_stands first.0 first.1 })
    reopened_fault u NoMemory refused = tt
    reopened_fault u Failed rose = rose_since (state v.device).faults (state w.device).faults u.faults faults rose

  -- the volume was opened, and reopened
  module _ (d : Disk) (s : State) (v : Volume D F) (opened : IsOpened d v.parts (state v.device)) where
    abbrev read : Disk
    read = opened.repaired.after

    pub mounted_then : (w : Volume D F) → ((e : Disk) → IsVolume e v.parts (state v.device) → IsReopened print e w.parts (state w.device))
        → Agree (state w.device).now (state w.device).past → IsMounted state print d w
    mounted_then w reopened agree =
        let more : IsReopened print read w.parts (state w.device) = reopened read (opened_volume d v.parts (state v.device) opened) in
        mounted_of d more.between w more.opened
        (keeps_then print d read more.between (settled_keeps print d read opened.repaired.settles) more.keeps)
        (alone_then d read more.between (settled_alone d read opened.repaired.settles) more.alone) agree
        (opened_waits more.between w.parts (state w.device) more.opened more.no_dying)

    pub images_then : LeavesRepairs d s (state v.device) → (u : State)
        → ((e : Disk) → IsVolume e v.parts (state v.device) → LeavesMounts print e (state v.device) u) → LeavesMounts print d s u
    images_then leaves u next = leaves_then (KeepsFiles print) (keeps_then print) d read (settled_keeps print d read opened.repaired.settles) s
        (state v.device) u (settled_images print d s (state v.device) leaves) (next read (opened_volume d v.parts (state v.device) opened))

pub fault_then : (s t u : State) → s.faults ≤ t.faults → (fault : MountFault) → IsSettleFault t u fault → IsMountFault s u fault
fault_then s t u le (Image fault) none = absurd none
fault_then s t u le NoMemory none = tt
fault_then s t u le Failed rose = rose_since s.faults t.faults u.faults le rose

pub on_ok_always : {X E : Type 0} (r : Result X E) (P : Type 0) → P → IfOk r (λ _. P)
on_ok_always (Ok x) P p = p
on_ok_always (Err e) P p = tt
