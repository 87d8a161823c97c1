-- A run keeps to its course through an event, whose images are between the disk of before and that of after.
use Rattle.std.proofs.Common.{◌≡◌, ◌⊎◌, inl, inr, ⊎_elim, ℕ, List, [], ◌∷◌, ◌++◌, sym, subst, Some, None}
use Rattle.pm_device.specs.State.{State, IsSame}
use Rattle.pm_device.specs.Settled.{LeavesOnly, LeavesNow}
use Rattle.pm_device.proofs.Moments.{leaves_only-weaken}
use Rattle.dn_model.specs.Files.{Files, files, IsSameFiles}
use Rattle.dn_model.specs.Disk.{Disk}
use Rattle.dn_model.specs.Own.{Print, IsOwn}
use Rattle.dn_model.specs.Apply.{IsGranted, after_op}
use Rattle.dn_model.specs.History.{Step}
use Rattle.dn_model.specs.Course.{Base, Course, base_files}
use Rattle.dn_model.specs.OnCourse.{IsImageOf, LeavesOneOf, IsOnCourse}
use Rattle.dn_model.specs.declared.op.Op.{Op}
use Rattle.dn_model.specs.declared.op.Entry.{Entry}
use Rattle.law_unique.proofs.Answered.{same_files}
use Rattle.law_course.proofs.Course.{stays, stops, goes_on}
use Rattle.dn_volume.specs.Events.{IsBetween}
use Rattle.dn_volume.proofs.LeftLater.{leaves_same}

with_files : (print : Print) (d e : Disk) (c : List ℕ) → IsOwn print d → (between : IsBetween print d e c) → (f : Files)
    → IsSameFiles (files between.disk) f → IsImageOf print f c
with_files print d e c own between f same = record { disk = between.disk; stands_for = between.stands_for; own = between.own own; same = same }

pub image_of : (print : Print) (d e : Disk) (c : List ℕ) → IsOwn print d → IsBetween print d e c → IsImageOf print (files d) c ⊎ IsImageOf print
    (files e) c
image_of print d e c own between =
    ⊎_elim (λ same. inl (with_files print d e c own between (files d) same)) (λ same. inr (with_files print d e c own between (files e) same))
    between.same

pub one_of : (print : Print) (d e : Disk) (s t : State) → IsOwn print d → LeavesOnly s t (IsBetween print d e) → LeavesOneOf print (files d) (files e)
    s t
one_of print d e s t own only = leaves_only-weaken s t _ _ (λ c between. image_of print d e c own between) only

either_same : (print : Print) (f g : Files) (c : List ℕ) → g ≡ f → IsImageOf print f c ⊎ IsImageOf print g c → IsImageOf print f c
either_same print f g c same (inl image) = image
either_same print f g c same (inr image) = subst (λ (h : Files). IsImageOf print h c) same image

module _ (print : Print) (base : Base) (history : List Entry) (d e : Disk) (s t : State) (own : IsOwn print d)
    (on : IsOnCourse print (base_files base) base.start history (files d) s) (only : LeavesOnly s t (IsBetween print d e)) where
  -- no file changes
  pub stay : IsSameFiles (files e) (files d) → IsOnCourse print (base_files base) base.start history (files e) t
  stay same =
      let equal = same_files (files e) (files d) same in
      subst (λ (f : Files). IsOnCourse print (base_files base) base.start history f t) (sym equal)
      (stays print (base_files base) base.start history (files d) s t on
      (leaves_only-weaken s t _ _ (λ c image. either_same print (files d) (files e) c equal image) (one_of print d e s t own only)))

  -- one operation more
  pub go_on : (entry : Entry) → Step (files d) entry.op entry.reply (files e) → LeavesNow t (IsImageOf print (files e))
      → IsOnCourse print (base_files base) base.start (history ++ entry ∷ []) (files e) t
  go_on entry step now = goes_on print (base_files base) base.start history (files d) (files e) entry s t on step (one_of print d e s t own only) now

  -- it breaks off
  pub stop_quiet : IsSameFiles (files e) (files d) → Course print (base_files base) base.start history None t
  stop_quiet same = (stay same).course

  pub stop_in : (op : Op) → IsGranted (files d) op → IsSameFiles (files e) (after_op (files d) op) → Course print (base_files base) base.start history
      (Some op) t
  stop_in op granted same =
      let equal = same_files (files e) (after_op (files d) op) same in
      stops print (base_files base) base.start history (files d) op s t on granted
      (subst (λ (f : Files). LeavesOneOf print (files d) f s t) equal (one_of print d e s t own only))

-- a call that does nothing leaves the run where it is, or adds an entry of the same files
pub same_device : (print : Print) (base : Base) (history : List Entry) (f : Files) (s t : State) → IsOnCourse print (base_files base) base.start
    history f s → IsSame s t → IsOnCourse print (base_files base) base.start history f t
same_device print base history f s t on same = stays print (base_files base) base.start history f s t on
    (leaves_same s t (IsImageOf print f) same on.now)

pub one_entry : (print : Print) (base : Base) (history : List Entry) (f : Files) (entry : Entry) (s t : State) → IsOnCourse print (base_files base)
    base.start history f s → IsSame s t → Step f entry.op entry.reply f
    → IsOnCourse print (base_files base) base.start (history ++ entry ∷ []) f t
one_entry print base history f entry s t on same step =
    goes_on print (base_files base) base.start history f f entry s t on step
    (leaves_only-weaken s t _ _ (λ c image. inl image) (leaves_same s t (IsImageOf print f) same on.now))
    (same_device print base history f s t on same).now
