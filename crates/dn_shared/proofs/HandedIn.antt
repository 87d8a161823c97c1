-- Copies of pages are handed in: what holds of the value holds of it still.
use Rattle.pm_device.specs.State.{State}
use Rattle.dn_model.specs.Own.{Print}
use Rattle.dn_model.specs.Course.{Base}
use Rattle.dn_volume.specs.declared.batch.Batch.{Batch}
use Rattle.dn_volume.specs.declared.volume.Volume.{Volume}
use Rattle.dn_volume.specs.Agrees.{Agrees, agrees_with, is_stopped}
use Rattle.dn_volume.specs.Sound.{Sound, is_sound, was_sound}
use Rattle.dn_shared.specs.declared.site.Site.{Site}
use Rattle.dn_shared.specs.Sites.{IsShared}

module _ {D F : Type 0} (state : D → State) (v : Volume D F) (copies : Batch F) where
  pub agrees_kept : Agrees state v → Agrees state (record v { kept = copies })
  agrees_kept (agrees_with d is) = agrees_with d is
  agrees_kept (is_stopped is) = is_stopped is

  sound_kept : (print : Print) (base : Base) → Sound state print base v → Sound state print base (record v { kept = copies })
  sound_kept print base (is_sound d is sound) = is_sound d is sound
  sound_kept print base (was_sound is sound) = was_sound is sound

-- the value with these copies
abbrev pub handed_in : {D F : Type 0} → Site D F → Batch F → Site D F
handed_in x copies = record x { volume = record x.volume { kept = copies } }

pub shared_kept : {D F : Type 0} (state : D → State) (print : Print) (base x : Site D F) (copies : Batch F) → IsShared state print base x
    → IsShared state print base (handed_in x copies)
shared_kept state print base x copies is = record {
  agrees = agrees_kept state x.volume copies is.agrees;
  clients = is.clients;
  few = is.few;
  others = is.others;
  landed = is.landed;
  faults = is.faults;
  rose = is.rose;
  opening_is = is.opening_is;
  geometry = is.geometry;
  long = is.long;
  words = is.words;
  keeps = λ from sound. sound_kept state x.volume copies print from (is.keeps from sound);
}
