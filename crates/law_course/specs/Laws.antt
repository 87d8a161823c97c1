-- How a run keeps to its course: what the images at each of its moments hold.
use Rattle.std.specs.Prelude.{ℕ, List, [], ◌∷◌, ◌++◌, Some, None}
use Rattle.pm_device.specs.Past.{moment}
use Rattle.pm_device.specs.State.{State}
use Rattle.pm_device.specs.Settled.{LeavesOnly, LeavesNow}
use Rattle.dn_model.specs.Files.{Files}
use Rattle.dn_model.specs.Own.{Print}
use Rattle.dn_model.specs.Apply.{IsGranted, after_op}
use Rattle.dn_model.specs.History.{Step, Legal}
use Rattle.dn_model.specs.Course.{Course}
use Rattle.dn_model.specs.declared.op.Op.{Op}
use Rattle.dn_model.specs.declared.op.Entry.{Entry}
use Rattle.dn_model.specs.OnCourse.{IsImageOf, LeavesOneOf, IsOnCourse}

abbrev pub CoursesBegin : Type 0
CoursesBegin = (print : Print) (f : Files) (s : State) → LeavesNow s (IsImageOf print f)
    → IsOnCourse print f (moment s.past) [] f s

abbrev pub CoursesGoOn : Type 0
CoursesGoOn = (print : Print) (old : Files) (start : ℕ) (history : List Entry) (f g : Files)
    (entry : Entry) (s t : State) → IsOnCourse print old start history f s
    → Step f entry.op entry.reply g → LeavesOneOf print f g s t → LeavesNow t (IsImageOf print g)
    → IsOnCourse print old start (history ++ entry ∷ []) g t

abbrev pub CoursesStay : Type 0
CoursesStay = (print : Print) (old : Files) (start : ℕ) (history : List Entry) (f : Files)
    (s t : State) → IsOnCourse print old start history f s
    → LeavesOnly s t (IsImageOf print f) → IsOnCourse print old start history f t

abbrev pub CoursesStop : Type 0
CoursesStop = (print : Print) (old : Files) (start : ℕ) (history : List Entry) (f : Files) (op : Op)
    (s t : State) → IsOnCourse print old start history f s
    → IsGranted f op → LeavesOneOf print f (after_op f op) s t → Course print old start history
    (Some op) t

abbrev pub CoursesAreTold : Type 0
CoursesAreTold = (print : Print) (old : Files) (start : ℕ) (history : List Entry) (f : Files)
    (s : State) → IsOnCourse print old start history f s
    → Course print old start history None s × Legal old history f
