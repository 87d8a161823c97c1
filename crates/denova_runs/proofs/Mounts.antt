-- A still device that is mounted: nothing was answered yet, and no file changed.
use Rattle.std.proofs.Common.{◌≡◌, inl, inr, ℕ, List, [], refl, sym, subst, arith}
use Rattle.std.specs.Prelude.{Option}
use Rattle.pm_device.specs.Past.{Past, Left, moment}
use Rattle.pm_device.specs.State.{State, IsSame, Agree}
use Rattle.pm_device.specs.Settled.{Still, Extends, LeavesOnly, LeavesNow}
use Rattle.pm_device.proofs.Moments.{extends_same}
use Rattle.name_journal.proofs.Opened.{still_has}
use Rattle.dn_model.specs.Disk.{Disk}
use Rattle.dn_model.specs.Rolled.{rolled}
use Rattle.dn_model.specs.Files.{files}
use Rattle.dn_model.specs.Image.{StandsFor}
use Rattle.dn_model.specs.Own.{Print, IsOwn}
use Rattle.dn_model.specs.OnCourse.{IsImageOf, IsOnCourse}
use Rattle.dn_model.specs.declared.fault.ImageFault.{ImageFault}
use Rattle.dn_model.specs.declared.fault.ImageFault.TheVariants.{
  NotAnImage,
  WrongVersion,
  BadGeometry,
  BadJournal,
  BadInode,
  BadLog,
  BadLink,
  BadTable,
  BadPointer,
  DoubleMapped,
  BadCount,
  Crowded,
}
use Rattle.law_course.proofs.Course.{begins, stays}
use Rattle.image_head.specs.Heads.{IsHeadFault}
use Rattle.table_repair.specs.Later.{HasLater}
use Rattle.dn_mount.specs.Kept.{KeepsFiles}
use Rattle.dn_mount.specs.Mounted.{IsRefused, LeavesMounts}
use Rattle.denova_runs.specs.Runs.{HasFault, StaysOnCourse}

-- where no store is undecided, a crash leaves what is read
pub left_still : (s : State) → Agree s.now s.past → Still s → LeavesNow s (λ c. c ≡ s.now)
left_still s agree still c left = (still_has s agree still (λ c. c ≡ s.now) refl).each (moment s.past) c (omega arith) left

module _ (print : Print) (d : Disk) (s : State) (agree : Agree s.now s.past) (still : Still s) (stands : StandsFor s.now d) (own : IsOwn print d)
  where
    -- a run may begin
    pub begins_still : IsOnCourse print (files d) (moment s.past) [] (files d) s
    begins_still = begins print (files d) s (λ c left. record {
      disk = d;
      stands_for = subst (λ (w : List ℕ). StandsFor w d) (sym (left_still s agree still c left)) stands;
      own = own;
      same = λ name. refl;
    })

    -- and a mount keeps it there
    module _ (t : State) (mounts : LeavesMounts print d s t) where
      image_later : (c : List ℕ) → HasLater (KeepsFiles print) d c → IsImageOf print (files d) c
      image_later c later = record { disk = later.disk; stands_for = later.stands_for; own = later.is.own own; same = later.is.same }

      pub on_course-mount : IsOnCourse print (files d) (moment s.past) [] (files d) t
      on_course-mount = stays print (files d) (moment s.past) [] (files d) s t begins_still
          (record { extends = mounts.extends; each = λ m c late left. image_later c (mounts.each m c late left) })

      pub stays-mount : StaysOnCourse print s t d
      stays-mount = on_course-mount.course

-- what is told of a fault that keeps a mount from its volume
module _ (s t : State) (agree : Agree s.now s.past) (still : Still s) where
  untouched : IsSame s t → LeavesOnly s t (λ c. rolled c ≡ rolled s.now)
  untouched same = record {
    extends = subst (λ (o : Option Past). Extends s.past o) (sym same.past) (extends_same s.past);
    each = λ m c late left. here.each m c late (subst (λ (o : Option Past). Left o m c) same.past left);
  }
    where
      here : LeavesOnly s s (λ c. rolled c ≡ rolled s.now)
      here = still_has s agree still (λ c. rolled c ≡ rolled s.now) refl

  at_head : (fault : ImageFault) → IsRefused fault s t → IsHeadFault fault → HasFault s t fault
  at_head fault refused head =
      let same = refused.head head in
      record { is = refused.is; images = untouched same; now = inl same.now }

  behind : (fault : ImageFault) → IsRefused fault s t → (IsHeadFault fault → ⊥) → HasFault s t fault
  behind fault refused rest =
      let back = refused.rest rest in
      record { is = refused.is; images = back.images; now = inr back.now }

  pub has_fault-refused : (fault : ImageFault) → IsRefused fault s t → HasFault s t fault
  has_fault-refused NotAnImage refused = at_head NotAnImage refused tt
  has_fault-refused (WrongVersion found) refused = at_head (WrongVersion found) refused tt
  has_fault-refused BadGeometry refused = at_head BadGeometry refused tt
  has_fault-refused BadJournal refused = at_head BadJournal refused tt
  has_fault-refused (BadInode ino) refused = behind (BadInode ino) refused (λ h. h)
  has_fault-refused (BadLog ino place) refused = behind (BadLog ino place) refused (λ h. h)
  has_fault-refused (BadLink ino) refused = behind (BadLink ino) refused (λ h. h)
  has_fault-refused (BadTable slot) refused = behind (BadTable slot) refused (λ h. h)
  has_fault-refused (BadPointer page) refused = behind (BadPointer page) refused (λ h. h)
  has_fault-refused (DoubleMapped page) refused = behind (DoubleMapped page) refused (λ h. h)
  has_fault-refused (BadCount slot) refused = behind (BadCount slot) refused (λ h. h)
  has_fault-refused (Crowded free) refused = behind (Crowded free) refused (λ h. h)
