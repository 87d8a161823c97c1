-- A volume that was just mounted keeps to a base from before the mount; else it is told why there is none.
use Rattle.std.proofs.Common.{◌≡◌, inl, inr, ⊎_elim, ℕ, ◌-◌, ◌≤◌, Bool, true, false, List, [], refl, sym, subst}
use Rattle.std.specs.Prelude.{Option, Some, None, slice_get}
use Rattle.pm_device.specs.Past.{moment}
use Rattle.pm_device.specs.State.{State, Agree}
use Rattle.pm_device.specs.Settled.{Still}
use Rattle.dn_model.specs.Disk.{Disk}
use Rattle.dn_model.specs.Files.{Files, files}
use Rattle.dn_model.specs.Image.{StandsFor}
use Rattle.dn_model.specs.Own.{Print, IsOwn}
use Rattle.dn_model.specs.History.{Legal}
use Rattle.dn_model.specs.Course.{Base, WasAlone}
use Rattle.dn_model.specs.OnCourse.{IsOnCourse}
use Rattle.dn_model.specs.declared.op.Op.{Op}
use Rattle.dn_model.specs.declared.op.Entry.{Entry}
use Rattle.law_unique.proofs.Answered.{same_files}
use Rattle.dn_volume.specs.declared.volume.Volume.{Volume}
use Rattle.dn_volume.specs.Parties.{flight_at}
use Rattle.dn_volume.specs.Agrees.{Agrees, agrees_with}
use Rattle.dn_volume.specs.Sound.{Sound, is_sound, was_sound}
use Rattle.dn_volume.proofs.LeftLater.{moment_later}
use Rattle.dn_mount.specs.declared.fault.MountFault.{MountFault}
use Rattle.dn_mount.specs.declared.fault.MountFault.TheVariants as why
use Rattle.dn_mount.specs.Mounted.{IsMounted, IsMountFault, LeavesMounts}
use Rattle.job_runs.specs.Turns.{script_of}
use Rattle.job_runs.specs.Playing.{IsNew}
use Rattle.denova_runs.specs.Runs.{HasRunPart}
use Rattle.denova_runs.specs.Ran.{RunFails}
use Rattle.denova_runs.specs.Opened.{end_of_mount, base_at, HasBase}
use Rattle.denova_runs.proofs.Mounts.{on_course-mount, stays-mount, has_fault-refused}

none_is_some : {X : Type 0} (o : Option X) (x : X) → o ≡ None → o ≡ Some x → ⊥
none_is_some o x none some = cc

clash : (b : Bool) → b ≡ false → b ≡ true → ⊥
clash b low high = cc

no_entry : (history : List Entry) (k : ℕ) (entry : Entry) → history ≡ [] → slice_get history k ≡ Some entry → ⊥
no_entry history k entry none is =
    let empty : slice_get [] k ≡ Some entry = subst (λ (h : List Entry). slice_get h k ≡ Some entry) none is in cc empty

module _ {D F : Type 0} (state : D → State) (print : Print) (d : Disk) (v : Volume D F) (is : IsMounted state print d v) where
  pub mounted_agrees : Agrees state v
  mounted_agrees = agrees_with is.after is.volume

  pub mounted_new : IsNew v.parts
  mounted_new = record {
    running = is.running;
    history = is.history;
    landed = λ who f flies. none_is_some (flight_at v.parts.flights.items (who - 1)) f (is.flights.none (who - 1)) flies.is;
    none_begun = is.sharing;
    none_cleaned = is.cleaning;
  }

  -- the volume is sound since before the mount
  module _ (s : State) (agree : Agree s.now s.past) (still : Still s) (stands : StandsFor s.now d) (own : IsOwn print d)
      (leaves : LeavesMounts print d s (state v.device)) (faults : s.faults ≤ (state v.device).faults) where
    abbrev t : State
    t = state v.device

    abbrev since_now : Base
    since_now = record { disk = is.after; start = moment t.past; faults = t.faults }

    files_are : files d ≡ files is.after
    files_are = sym (same_files (files is.after) (files d) is.keeps.same)

    course : (e : Disk) → Legal (files is.after) v.parts.history.items (files e)
        → IsOnCourse print (files is.after) (moment s.past) v.parts.history.items (files e) t
    course e legal =
        let none : Legal (files is.after) [] (files e) = subst (λ (h : List Entry). Legal (files is.after) h (files e)) is.history legal in
        let same : files e ≡ files is.after = same_files (files e) (files is.after) none in
        subst (λ (h : List Entry). IsOnCourse print (files is.after) (moment s.past) h (files e) t) (sym is.history)
        (subst (λ (f : Files). IsOnCourse print (files is.after) (moment s.past) [] f t) (sym same)
        (subst (λ (f : Files). IsOnCourse print f (moment s.past) [] f t) files_are (on_course-mount print d s agree still stands own t leaves)))

    since_before : Sound state print since_now v → Sound state print (base_at s is.after) v
    since_before (is_sound e volume sound) = is_sound e volume (record {
      own = sound.own;
      legal = sound.legal;
      course = course e sound.legal;
      traced = sound.traced;
      short = λ p told. record {
        space = λ k needed free entry at. absurd (no_entry v.parts.history.items k entry is.history at);
        inode = λ k entry at. absurd (no_entry v.parts.history.items k entry is.history at);
      };
      alone = λ ino idx m place alone. ⊎_elim
          (λ (was : WasAlone since_now ino idx m.block).
          inl (record { mapping = was.mapping; place = was.place; alone = was.alone; page_is = was.page_is }))
          (λ twin. inr twin)
          (sound.alone ino idx m place alone);
      row_pages = sound.row_pages;
      begun = moment_later s.past t.past leaves.extends;
      faults = faults;
    })
    since_before (was_sound stopped was) = absurd (clash v.parts.stopped is.running stopped.stopped)

    pub mounted_base : HasBase state print s v d
    mounted_base = record {
      disk = is.after;
      volume = is.volume;
      same = is.keeps.same;
      exact = is.exact;
      alone = is.alone;
      sound = since_before (is.sound (is.keeps.own own));
      extends = leaves.extends;
    }

-- why there is no volume
module _ (print : Print) (s t : State) (agree : Agree s.now s.past) (still : Still s) (scripts : List (ℕ × List Op)) where
  none_run : (d : Disk) → StandsFor s.now d → IsOwn print d → LeavesMounts print d s t → HasRunPart print scripts d s t (λ h. Unit {0})
  none_run d stands own leaves = record {
    history = [];
    front = record { each = λ who. (script_of scripts who, refl) };
    end_files = files d;
    legal = λ name. refl;
    short = λ p told. record {
      space = λ k needed free entry at. absurd (no_entry [] k entry refl at);
      inode = λ k entry at. absurd (no_entry [] k entry refl at);
    };
    flying = None;
    next = inl refl;
    course = stays-mount print d s agree still stands own t leaves;
    tells = tt;
  }

  pub mount_fails : ((d : Disk) → StandsFor s.now d → LeavesMounts print d s t) → (fault : MountFault) → IsMountFault s t fault
      → RunFails print scripts s t (end_of_mount fault)
  mount_fails leaves (why.Image fault) is = has_fault-refused s t agree still fault is
  mount_fails leaves why.NoMemory is = λ d stands own. none_run d stands own (leaves d stands)
  mount_fails leaves why.Failed is = (is, λ d stands own. stays-mount print d s agree still stands own t (leaves d stands))
