-- The headline.
use Rattle.std.proofs.Common.{ℕ, List, ◌++◌, refl, sym, ◌∙◌, ap, subst}
use Rattle.std.specs.Prelude.{Option}
use Rattle.pm_device.specs.State.{State, Agree}
use Rattle.dn_model.specs.Disk.{Disk}
use Rattle.dn_model.specs.Files.{Files, files, IsSameFiles}
use Rattle.dn_model.specs.Image.{StandsFor}
use Rattle.dn_model.specs.Own.{Print, IsOwn}
use Rattle.dn_model.specs.Course.{Base}
use Rattle.dn_model.specs.declared.op.Op.{Op}
use Rattle.dn_model.specs.declared.op.Entry.{Entry}
use Rattle.law_unique.proofs.OneImage.{map_one}
use Rattle.dn_volume.specs.declared.outcome.Outcome.{Outcome}
use Rattle.dn_volume.specs.declared.volume.Volume.{Volume}
use Rattle.dn_volume.specs.Agrees.{Agrees, agrees_with, is_stopped}
use Rattle.dn_volume.specs.Sound.{Sound, is_sound, was_sound}
use Rattle.dn_volume.proofs.Soundness.{sound_disk}
use Rattle.dn_mount.specs.Mounted.{IsMounted}
use Rattle.dn_core.specs.declared.event.Event.{Event}
use Rattle.dn_core.specs.Run.{Run, at_first, then_next, AreEntries, Records}
use Rattle.dn_core.specs.Images.{IsImageIn, IsOwnImage, answers_in}
use Rattle.dn_core.specs.Headline.{Recovered, IsLeftOf, HeadlineHolds}
use Rattle.dn_core.proofs.Leaves.{steps_leave_images}
use Rattle.dn_core.proofs.Adding.{steps_add, records_none, records_next, runs_stay_sound}

-- what is sound agrees
agrees_of : {D F : Type 0} (state : D → State) (print : Print) (base : Base) (v : Volume D F) → Sound state print base v → Agrees state v
agrees_of state print base v (is_sound d volume sound) = agrees_with d volume
agrees_of state print base v (was_sound stopped was) = is_stopped stopped

-- the entries of a run
runs_record : {D F : Type 0} (state : D → State) → ((x : D) → Agree (state x).now (state x).past) → (print : Print) (base : Base)
    (u v : Volume D F) (events : List Event) (outcomes : List Outcome) → Run state print u events outcomes v → Sound state print base u
    → Records u v events outcomes
runs_record state agree print base u _ _ _ at_first sound = records_none u
runs_record state agree print base u w _ _ (then_next {events = es} {outcomes = os} {v = x} event outcome before step) sound =
    records_next u x w es os event outcome (runs_record state agree print base u x es os before sound)
    (steps_add state print event x w outcome
    (agrees_of state print base x (runs_stay_sound state agree print base u x es os before sound)) step)

module _ {D F : Type 0} (state : D → State) (print : Print) where
  -- a mount makes the files of an image, whatever it is read as
  recovers : (c : List ℕ) (disk d : Disk) (mounted : Volume D F) → StandsFor c disk → StandsFor c d → IsMounted state print d mounted
      → Recovered state (files disk) mounted
  recovers c disk d mounted stands read is = record {
    disk = is.after;
    volume = is.volume;
    files_are = λ name. is.keeps.same name ∙ same name;
    counts = is.exact;
    free = is.free.free;
  }
    where
      same : IsSameFiles (files d) (files disk)
      same = map_one c (files d) (files disk) (record { disk = d; stands_for = read; same = λ name. refl })
          (record { disk = disk; stands_for = stands; same = λ name. refl })

  left_of : (f : Files) (flying : Option Op) (c : List ℕ) → IsOwnImage print f flying c → IsLeftOf D F state print f flying c
  left_of f flying c is = record {
    disk = is.disk;
    stands_for = is.stands_for;
    own = is.own;
    whole = is.files_are;
    recovery = λ d mounted read made. recovers c is.disk d mounted is.stands_for read made;
  }

pub headline_holds : {D F : Type 0} (state : D → State) → HeadlineHolds D F state
headline_holds {D} {F} state agree print base u v w events outcomes event outcome sound empty run running steps =
    let now = runs_stay_sound state agree print base u v events outcomes run sound in
    let was = sound_disk state print base v running now in
    let d = was.0 in
    let told = runs_record state agree print base u v events outcomes run sound in
    let images = steps_leave_images state agree print event v w d outcome was.1 steps in
    let own = was.2.own in
    record {
      history = v.parts.history.items;
      one = refl;
      replies = subst (AreEntries events outcomes) (sym (told.history ∙ ap (λ (h : List Entry). h ++ told.more) empty)) told.entries;
      acknowledged = files d;
      never_shares = was.2.legal;
      inside = λ m c since left. left_of state print (files d) (answers_in v.parts event) c
          (own_of d (answers_in v.parts event) c own (images.during.each m c since left));
      answered = λ c left. left_of state print _ _ c (images.then_left own c left);
    }
  where
    own_of : (d : Disk) (flying : Option Op) (c : List ℕ) → IsOwn print d → IsImageIn print d flying c → IsOwnImage print (files d) flying c
    own_of d flying c own is = record { disk = is.disk; stands_for = is.stands_for; own = is.own own; files_are = is.files_are own }
