-- A volume that was just mounted is sound from the words that it left.
use Rattle.std.proofs.Common.{◌≡◌, inl, ℕ, List, [], refl, sym, ap, subst, arith, Some}
use Rattle.std.specs.Prelude.{slice_get}
use Rattle.pm_device.specs.Past.{moment}
use Rattle.pm_device.specs.State.{State, Agree}
use Rattle.dn_model.specs.Disk.{Disk}
use Rattle.dn_model.specs.Counts.{Exact}
use Rattle.dn_model.specs.Files.{files}
use Rattle.dn_model.specs.Own.{Print, IsOwn}
use Rattle.dn_model.specs.History.{Legal}
use Rattle.dn_model.specs.Course.{Base}
use Rattle.dn_model.specs.OnCourse.{IsOnCourse}
use Rattle.dn_model.specs.declared.op.Entry.{Entry}
use Rattle.dn_model.specs.declared.op.CountChange.{CountChange}
use Rattle.law_course.proofs.Course.{begins}
use Rattle.dn_volume.specs.declared.volume.Parts.{Parts}
use Rattle.dn_volume.specs.Agrees.{IsVolume}
use Rattle.dn_volume.specs.Events.{word_at, word_after}
use Rattle.dn_volume.specs.Sound.{IsSound}
use Rattle.dn_volume.proofs.SoundStays.{image_now, way_here}
use Rattle.dn_mount.specs.Mounted.{HasNoDying}
use Rattle.dn_mount.proofs.FilePages.{row_page}

module _ (print : Print) (d : Disk) (b : Parts) (s : State) (volume : IsVolume d b s) (agree : Agree s.now s.past) (own : IsOwn print d)
    (exact : Exact d) (none : HasNoDying d) (history : b.history.items ≡ []) (trace : b.trace.items ≡ []) where
  abbrev here : Base
  here = record { disk = d; start = moment s.past; faults = s.faults }

  no_entry : (k : ℕ) (entry : Entry) → slice_get b.history.items k ≡ Some entry → ⊥
  no_entry k entry is = let empty : slice_get [] k ≡ Some entry = subst (λ (h : List Entry). slice_get h k ≡ Some entry) history is in
      cc empty

  legal : Legal (files d) b.history.items (files d)
  legal = subst (λ (h : List Entry). Legal (files d) h (files d)) (sym history) (λ name. refl)

  pub sound_now : IsSound print here d b s
  sound_now = record {
    own = own;
    legal = legal;
    course = subst (λ (h : List Entry). IsOnCourse print (files d) (moment s.past) h (files d) s) (sym history)
        (begins print (files d) s (image_now print d b s volume.fast own agree));
    traced = λ slot. ap (λ (xs : List CountChange). word_after xs slot (word_at d slot)) (sym trace);
    short = λ p told. record {
      space = λ k needed free entry is. absurd (no_entry k entry is);
      inode = λ k entry is. absurd (no_entry k entry is);
    };
    alone = λ ino idx m place alone. inl (record { mapping = m; place = place; alone = alone; page_is = refl });
    row_pages = λ row has. (files d, way_here (files d) b.history.items (files d) legal, row_page d volume.fast.valid print own exact none row has);
    begun = omega arith;
    faults = omega arith;
  }
