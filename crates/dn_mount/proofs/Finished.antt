-- Dying files are finished by the events of reclaim.
use Rattle.std.proofs.Common.{◌≡◌, ◌<◌, ◌≤◌, refl, sym, ◌∙◌, ap, arith, None}
use Rattle.std.specs.Prelude.{OnOk, IfErr}
use Rattle.pm_device.specs.State.{State, Agree}
use Rattle.dn_model.specs.Disk.{Disk}
use Rattle.dn_model.specs.Own.{Print, page_bytes}
use Rattle.dn_volume.specs.declared.outcome.Outcome.{Outcome}
use Rattle.dn_volume.specs.declared.outcome.Outcome.TheVariants as told
use Rattle.dn_volume.specs.declared.volume.Volume.{Volume}
use Rattle.dn_volume.specs.Agrees.{Agrees, IsVolume}
use Rattle.dn_volume.specs.Accounts.{KeepsAlone, WasAloneOn}
use Rattle.dn_volume.specs.Begins.{IsUntouched}
use Rattle.dn_volume.specs.Events.{MovesOn, Breaks}
use Rattle.dn_volume.specs.Works.{ReleaseWorks}
use Rattle.dn_volume.proofs.SoundStays.{rose_since}
use Rattle.dn_volume.proofs.Tables.{running_disk}
use Rattle.table_repair.specs.Later.{HasLater}
use Rattle.table_repair.proofs.Later.{leaves_then}
use Rattle.dn_mount.specs.declared.fault.MountFault.{MountFault}
use Rattle.dn_mount.specs.declared.fault.MountFault.TheVariants.{Image, NoMemory, Failed}
use Rattle.dn_mount.specs.Kept.{KeepsFiles, StaysOn}
use Rattle.dn_mount.specs.Mounted.{LeavesMounts}
use Rattle.dn_mount.specs.Reading.{IsSettleFault}
use Rattle.dn_mount.specs.Finishing.{result_of, IsIdle, Lowers, Finishes}
use Rattle.dn_mount.proofs.Events.{keeps_then, stays_none, stays_more, stays_break}
use Rattle.dn_mount.proofs.Undone.{leaves_to_same}

pub alone_same : (d : Disk) → KeepsAlone d d
alone_same d ino idx m place alone = record { mapping = m; place = place; alone = alone; page_is = refl; bytes_are = refl }

pub alone_then : (d e f : Disk) → KeepsAlone d e → KeepsAlone e f → KeepsAlone d f
alone_then d e f first next ino idx m place alone =
    let later : WasAloneOn e f ino idx m = next ino idx m place alone in
    let early : WasAloneOn d e ino idx later.mapping = first ino idx later.mapping later.place later.alone in
    record {
      mapping = early.mapping;
      place = early.place;
      alone = early.alone;
      page_is = early.page_is ∙ later.page_is;
      bytes_are = later.bytes_are ∙ ap (page_bytes e) (sym later.page_is) ∙ early.bytes_are ∙ ap (page_bytes d) later.page_is;
    }

module _ {D F : Type 0} (state : D → State) (print : Print) where
  -- one event, whatever it answers
  module _ (v w : Volume D F) (waits : 1 ≤ v.parts.reclaiming.waiting) where
    abbrev Event : Outcome → Type 0
    Event o = (d : Disk) → IsVolume d v.parts (state v.device) → ReleaseWorks state print v w d o

    pub event_done : (o : Outcome) → Event o → OnOk (result_of o) ((d : Disk) → IsVolume d v.parts (state v.device) → Lowers state print v w d)
    event_done (told.Running left) event = λ d volume. let works = event d volume in record { on = works.0; left = left; lowers = works.2 }
    event_done (told.Done reply) event = λ d volume. absurd (event d volume)
    event_done (told.Busy holder) event = λ d volume. absurd ((event d volume).1)
    event_done (told.Released waiting) event = λ d volume. absurd (event d volume)
    event_done told.Idle event = λ d volume. absurd (let none = (event d volume).1 in omega (arith, none, waits))
    event_done told.NotYours event = λ d volume. absurd (event d volume)
    event_done told.NoMemory event = tt
    event_done told.Stopped event = tt

    pub event_fault : (d : Disk) → IsVolume d v.parts (state v.device) → (o : Outcome) → Event o
        → IfErr (result_of o) (IsSettleFault (state v.device) (state w.device))
    event_fault d volume (told.Running left) event = tt
    event_fault d volume (told.Done reply) event = tt
    event_fault d volume (told.Busy holder) event = tt
    event_fault d volume (told.Released waiting) event = tt
    event_fault d volume told.Idle event = tt
    event_fault d volume told.NotYours event = tt
    event_fault d volume told.NoMemory event = tt
    event_fault d volume told.Stopped event = (event d volume).0.rose

    still_faults : (d : Disk) → IsUntouched state v w d → (state v.device).faults ≤ (state w.device).faults
    still_faults d is = omega (arith, is.device.faults)

    pub event_faults : (d : Disk) → IsVolume d v.parts (state v.device) → (o : Outcome) → Event o → (state v.device).faults ≤ (state w.device).faults
    event_faults d volume (told.Running left) event = (event d volume).0.moves.faults
    event_faults d volume (told.Done reply) event = absurd (event d volume)
    event_faults d volume (told.Busy holder) event = absurd ((event d volume).1)
    event_faults d volume (told.Released waiting) event = absurd (event d volume)
    event_faults d volume told.Idle event = still_faults d (event d volume).0
    event_faults d volume told.NotYours event = absurd (event d volume)
    event_faults d volume told.NoMemory event = still_faults d (event d volume).0
    event_faults d volume told.Stopped event = (event d volume).0.faults

    module _ (agree : Agree (state v.device).now (state v.device).past) (d : Disk) (volume : IsVolume d v.parts (state v.device)) where
      none : StaysOn state print v v d
      none = stays_none state print v d volume agree

      untouched_images : IsUntouched state v w d → LeavesMounts print d (state v.device) (state w.device)
      untouched_images is = leaves_to_same (state v.device) (state w.device) is.device (HasLater (KeepsFiles print) d) none.images

      moved_images : MovesOn state print 16 v w d → LeavesMounts print d (state v.device) (state w.device)
      unfolding none stays_none
      moved_images on = (stays_more state print v v d none 16 w on).images

      broken_images : Breaks state print 16 None v w d → LeavesMounts print d (state v.device) (state w.device)
      unfolding none stays_none
      broken_images breaks = stays_break state print v v d none 16 w breaks

      pub event_images : (o : Outcome) → Event o → LeavesMounts print d (state v.device) (state w.device)
      event_images (told.Running left) event = moved_images (event d volume).0
      event_images (told.Done reply) event = absurd (event d volume)
      event_images (told.Busy holder) event = absurd ((event d volume).1)
      event_images (told.Released waiting) event = absurd (event d volume)
      event_images told.Idle event = untouched_images (event d volume).0
      event_images told.NotYours event = absurd (event d volume)
      event_images told.NoMemory event = untouched_images (event d volume).0
      event_images told.Stopped event = broken_images (event d volume).0

  -- some of them
  pub record IsPartFinished (v w : Volume D F) : Type 0 where
    pub agrees : Agrees state w
    pub idle : IsIdle w.parts
    pub front : (d : Disk) → IsVolume d v.parts (state v.device) → Finishes state print v w d
    pub same : v.parts.reclaiming.waiting ≡ 0 → w ≡ v
    pub faults : (state v.device).faults ≤ (state w.device).faults

  finishes_none : (v : Volume D F) → Agree (state v.device).now (state v.device).past → (d : Disk) → IsVolume d v.parts (state v.device)
      → Finishes state print v v d
  unfolding stays_none
  finishes_none v agree d volume = record { stays = stays_none state print v d volume agree; alone = alone_same d; queue = refl }

  pub part_begins : (v : Volume D F) → Agree (state v.device).now (state v.device).past → Agrees state v → IsIdle v.parts → IsPartFinished v v
  part_begins v agree agrees idle = record {
    agrees = agrees;
    idle = idle;
    front = λ d volume. finishes_none v agree d volume;
    same = λ none. refl;
    faults = omega arith;
  }

  module _ (v w x : Volume D F) (part : IsPartFinished v w) (some : 1 ≤ w.parts.reclaiming.waiting)
      (done : (d : Disk) → IsVolume d w.parts (state w.device) → Lowers state print w x d) where
    now : (d : Disk) × IsVolume d w.parts (state w.device)
    now = running_disk state w part.idle.running part.agrees

    lower : Lowers state print w x now.0
    lower = done now.0 now.1

    pub part_lowers : x.parts.reclaiming.waiting < w.parts.reclaiming.waiting
    part_lowers = lower.lowers.less

    next_idle : IsIdle x.parts
    next_idle = record {
      running = lower.on.moves.volume.running;
      landed = λ who f flies. let had = lower.on.ops.only who f flies in part.idle.landed who had.0 had.1;
      sharing = lower.lowers.sharing ∙ part.idle.sharing;
    }

    next_same : v.parts.reclaiming.waiting ≡ 0 → x ≡ v
    next_same none = absurd (let same : w.parts.reclaiming.waiting ≡ v.parts.reclaiming.waiting = ap (λ (y : Volume D F). y.parts.reclaiming.waiting)
        (part.same none) in omega (arith, same, none, some))

    next_front : (d : Disk) → IsVolume d v.parts (state v.device) → Finishes state print v x d
    unfolding stays_more
    next_front d volume =
        let was : Finishes state print v w d = part.front d volume in
        let more : Lowers state print w x was.stays.after = done was.stays.after was.stays.volume in
        record {
          stays = stays_more state print v w d was.stays 16 x more.on;
          alone = alone_then d was.stays.after more.on.after was.alone (more.on.moves.alone refl);
          queue = more.lowers.queue ∙ was.queue;
        }

    pub part_on : Agrees state x → IsPartFinished v x
    part_on agrees = record {
      agrees = agrees;
      idle = next_idle;
      front = next_front;
      same = next_same;
      faults = let more = lower.on.moves.faults in omega (arith, part.faults, more);
    }

  -- the next one may fail
  module _ (v w x : Volume D F) (part : IsPartFinished v w) where
    pub break_images : ((e : Disk) → IsVolume e w.parts (state w.device) → LeavesMounts print e (state w.device) (state x.device)) → (d : Disk)
        → IsVolume d v.parts (state v.device) → LeavesMounts print d (state v.device) (state x.device)
    break_images leaves d volume =
        let was : Finishes state print v w d = part.front d volume in
        leaves_then (KeepsFiles print) (keeps_then print) d was.stays.after was.stays.keeps (state v.device) (state w.device) (state x.device)
        was.stays.images (leaves was.stays.after was.stays.volume)

    pub break_fault : (fault : MountFault) → IsSettleFault (state w.device) (state x.device) fault
        → IsSettleFault (state v.device) (state x.device) fault
    break_fault (Image fault) is = is
    break_fault NoMemory is = tt
    break_fault Failed is = rose_since (state v.device).faults (state w.device).faults (state x.device).faults part.faults is

    pub break_same : 1 ≤ w.parts.reclaiming.waiting → v.parts.reclaiming.waiting ≡ 0 → x ≡ v
    break_same some none = absurd (let same : w.parts.reclaiming.waiting ≡ v.parts.reclaiming.waiting =
        ap (λ (y : Volume D F). y.parts.reclaiming.waiting) (part.same none) in omega (arith, same, none, some))
