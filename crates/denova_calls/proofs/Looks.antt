-- What is read of a volume is what a call tells of the words that it was mounted from.
use Rattle.std.proofs.Common.{◌≡◌, inl, inr, List, ℕ, sym, ◌∙◌, ap, subst, Some, None}
use Rattle.std.specs.Prelude.{Option, IsSome, is_some, false}
use Rattle.pm_device.specs.State.{State, Agree}
use Rattle.pm_device.specs.Settled.{Still}
use Rattle.log_entry.specs.Name.{IsLegal}
use Rattle.dn_model.specs.Disk.{Disk}
use Rattle.dn_model.specs.Files.{Files, files}
use Rattle.dn_model.specs.Image.{StandsFor}
use Rattle.dn_model.specs.Own.{Print}
use Rattle.law_unique.proofs.Answered.{same_files}
use Rattle.dn_volume.specs.declared.volume.Volume.{Volume}
use Rattle.dn_volume.specs.Agrees.{Agrees, agrees_with, IsVolume}
use Rattle.dn_mount.specs.declared.fault.MountFault.{MountFault}
use Rattle.dn_mount.specs.declared.fault.MountFault.TheVariants as why
use Rattle.dn_mount.specs.Mounted.{IsMountFault, LeavesMounts}
use Rattle.dn_report.specs.Listing.{ListsFiles}
use Rattle.dn_report.specs.declared.report.Cause.TheVariants.{BadName, NotFound}
use Rattle.call_endings.specs.declared.ending.Ending.{Ending}
use Rattle.call_endings.specs.declared.ending.Ending.TheVariants.{Done, Faulty, Failed, NoMemory, Refused}
use Rattle.denova_runs.specs.Runs.{OfOpening, StaysOnCourse}
use Rattle.denova_runs.proofs.Mounts.{stays-mount, has_fault-refused}
use Rattle.denova_calls.specs.LookEnds.{ListEnds, CatEnds}
use Rattle.denova_calls.specs.LookSteps.{UnmountedEnds, MountEnds, IsOpen, RefusedEnds, ListedEnds, FoundEnds, ShownEnds}

-- why there is no volume
module _ (print : Print) (s t : State) (agree : Agree s.now s.past) (still : Still s)
    (images : (d : Disk) → StandsFor s.now d → LeavesMounts print d s t) where
  stays_so : OfOpening print s (StaysOnCourse print s t)
  stays_so d stands own = stays-mount print d s agree still stands own t (images d stands)

  pub mount_ends : (fault : MountFault) (e : Ending) → IsMountFault s t fault → UnmountedEnds fault e → MountEnds print s t e
  mount_ends (why.Image fault) (Faulty text) is told = (fault, has_fault-refused s t agree still fault is, told)
  mount_ends (why.Image fault) NoMemory is told = stays_so
  mount_ends (why.Image fault) e is told = absurd told
  mount_ends why.NoMemory e is told = subst (MountEnds print s t) (sym told) stays_so
  mount_ends why.Failed e is told = subst (MountEnds print s t) (sym told) (is, stays_so)

pub list_fails : (print : Print) (s t : State) (e : Ending) → MountEnds print s t e → ListEnds print s t e
list_fails print s t (Faulty text) ends = ends
list_fails print s t Failed ends = ends
list_fails print s t NoMemory ends = ends
list_fails print s t e ends = absurd ends

pub cat_fails : (print : Print) (name : List ℕ) (s t : State) (e : Ending) → MountEnds print s t e → CatEnds print name s t e
cat_fails print name s t (Faulty text) ends = ends
cat_fails print name s t Failed ends = ends
cat_fails print name s t NoMemory ends = ends
cat_fails print name s t e ends = absurd ends

-- that there is no file of a name, or can't be, is told
module _ {D F : Type 0} (state : D → State) (v : Volume D F) (name : List ℕ) where
  pub not_found : ((d : Disk) → IsVolume d v.parts (state v.device) → files d name ≡ None) → (e : Ending) → RefusedEnds NotFound e
      → FoundEnds state v name e
  not_found none (Refused text) told = (none, told)
  not_found none NoMemory told = tt
  not_found none e told = absurd told

  pub found_legal : IsLegal name → (e : Ending) → FoundEnds state v name e → ShownEnds state v name e
  found_legal legal (Done text) told = (legal, told)
  found_legal legal (Refused text) told = inr (legal, told)
  found_legal legal NoMemory told = tt
  found_legal legal e told = absurd told

  pub bad_name : (IsLegal name → ⊥) → (e : Ending) → RefusedEnds BadName e → ShownEnds state v name e
  bad_name illegal (Refused text) told = inl (illegal, told)
  bad_name illegal NoMemory told = tt
  bad_name illegal e told = absurd told

-- the volume
module _ {D F : Type 0} (state : D → State) (print : Print) (s : State) (v : Volume D F) (open_now : IsOpen state print s v) where
  pub open_agrees : Agrees state v
  open_agrees =
      let sound = open_now.sound in
      let m = open_now.mounted sound.disk sound.stands_for in
      agrees_with m.after m.volume

  pub open_running : v.parts.stopped ≡ false
  open_running = (open_now.mounted open_now.sound.disk open_now.sound.stands_for).running

  pub list_ends : (e : Ending) → ListedEnds state v e → ListEnds print s (state v.device) e
  list_ends (Done text) told = (open_now.sound, λ d stands own. (lists d stands, open_now.course d stands own))
    where
      lists : (d : Disk) → StandsFor s.now d → ListsFiles (files d) text.items
      lists d stands =
          let m = open_now.mounted d stands in
          subst (λ (f : Files). ListsFiles f text.items) (same_files (files m.after) (files d) m.keeps.same) (told m.after m.volume)
  list_ends NoMemory told = open_now.course
  list_ends e told = absurd told

  -- what the volume has under a name, the words have
  named_so : (name : List ℕ) (o : Option (List ℕ)) → ((e : Disk) → IsVolume e v.parts (state v.device) → files e name ≡ o) → (d : Disk)
      → StandsFor s.now d → files d name ≡ o
  named_so name o told d stands = let m = open_now.mounted d stands in sym (m.keeps.same name) ∙ told m.after m.volume

  some_so : (o : Option (List ℕ)) (bytes : List ℕ) → o ≡ Some bytes → IsSome o
  some_so o bytes is = ap is_some is

  pub cat_ends : (name : List ℕ) (e : Ending) → ShownEnds state v name e → CatEnds print name s (state v.device) e
  cat_ends name (Done text) (legal, told) = (
    legal,
    λ d stands. some_so (files d name) text.items (named_so name (Some text.items) told d stands),
    (open_now.sound, λ d stands own. (named_so name (Some text.items) told d stands, open_now.course d stands own)),
  )
  cat_ends name (Refused text) (inl (illegal, told)) = inl (illegal, (open_now.sound, open_now.course), told)
  cat_ends name (Refused text) (inr (legal, (none, told))) = inr (legal, named_so name None none, (open_now.sound, open_now.course), told)
  cat_ends name NoMemory told = open_now.course
  cat_ends name e told = absurd told
