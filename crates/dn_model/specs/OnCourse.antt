-- A run that keeps to its course so far.
use Rattle.std.specs.Prelude.{◌⊎◌, ℕ, ◌≤◌, List, ◌++◌, None}
use Rattle.pm_device.specs.Past.{moment}
use Rattle.pm_device.specs.State.{State}
use Rattle.pm_device.specs.Settled.{LeavesOnly, LeavesNow}
use Rattle.dn_model.specs.Files.{Files, files, IsSameFiles}
use Rattle.dn_model.specs.Disk.{Disk}
use Rattle.dn_model.specs.Image.{StandsFor}
use Rattle.dn_model.specs.Own.{Print, IsOwn}
use Rattle.dn_model.specs.History.{Legal}
use Rattle.dn_model.specs.Course.{Course}
use Rattle.dn_model.specs.declared.op.Entry.{Entry}

-- an image of this program, with these files
pub record IsImageOf (print : Print) (f : Files) (c : List ℕ) : Type 0 where
  pub disk : Disk
  pub stands_for : StandsFor c disk
  pub own : IsOwn print disk
  pub same : IsSameFiles (files disk) f

-- each image on the way has the one files or the other
abbrev pub LeavesOneOf : Print → Files → Files → State → State → Type 0
LeavesOneOf print f g s t = LeavesOnly s t (λ c. IsImageOf print f c ⊎ IsImageOf print g c)

-- The history leads from old to f, and so does each longer one to what it leads to from f; each
-- image that a stop
-- may leave now has the files f.
pub record IsOnCourse (print : Print) (old : Files) (start : ℕ) (history : List Entry) (f : Files)
    (s : State) : Type 0 where
  pub course : Course print old start history None s
  pub leads : (more : List Entry) (g : Files) → Legal f more g → Legal old (history ++ more) g
  pub now : LeavesNow s (IsImageOf print f)
  pub begun : start ≤ moment s.past
