-- Only room was made.
use Rattle.std.proofs.Common.{◌≡◌, ◌⊎◌, inl, ℕ, ◌≤◌, refl, sym, ◌∙◌, ap, subst}
use Rattle.std.specs.Prelude.{slice_get}
use Rattle.pm_device.specs.State.{State, IsSame}
use Rattle.dn_volume.specs.declared.volume.Parts.{Parts}
use Rattle.dn_volume.specs.declared.volume.Volume.{Volume}
use Rattle.begin_steps.specs.Room.{MakesRoom, MakesPlaceRoom, HasPlaceRoom}
use Rattle.begin_steps.proofs.Answered.{keeps_but_history}
use Rattle.begin_steps.proofs.Opened.{keeps_made_room, keeps_place_room, keeps_both}
use Rattle.data_begins.specs.Ready.{OnlyMakesRoom}

module _ {D F : Type 0} (state : D → State) (v : Volume D F) where
  pub only_none : OnlyMakesRoom state v v
  only_none = record {
    device = record { now = refl; past = refl; faults = refl };
    spare = inl refl;
    keeps = keeps_but_history v.parts v.parts refl (λ le. le);
    history = refl;
    made = refl;
  }

  module _ (v1 : Volume D F) (device : v1.device ≡ v.device) (places : MakesPlaceRoom v.parts v1.parts) where
    pub only_places : OnlyMakesRoom state v v1
    only_places = record {
      device = subst (λ (x : D). IsSame (state v.device) (state x)) (sym device) (record { now = refl; past = refl; faults = refl });
      spare = inl (ap (λ (x : D). (state x).spare) device);
      keeps = keeps_place_room v.parts v1.parts places;
      history = ap (λ (p : Parts). p.history.items) places.parts;
      made = ap (λ (p : Parts). p.made) places.parts;
    }

    module _ (v2 : Volume D F) (same : IsSame (state v1.device) (state v2.device))
        (spare : ((state v2.device).spare ≡ (state v1.device).spare) ⊎ (v1.parts.owed.units ≤ (state v2.device).spare))
        (room : MakesRoom v1.parts v2.parts) where
      pub only_both : OnlyMakesRoom state v v2
      only_both = record {
        device = subst (λ (x : D). IsSame (state x) (state v2.device)) device same;
        spare = subst (λ (x : D). ((state v2.device).spare ≡ (state x).spare) ⊎ (v.parts.owed.units ≤ (state v2.device).spare)) device
            (subst (λ (n : ℕ). ((state v2.device).spare ≡ (state v1.device).spare) ⊎ (n ≤ (state v2.device).spare))
            (ap (λ (p : Parts). p.owed.units) places.parts) spare);
        keeps = keeps_both v.parts v1.parts v2.parts (keeps_place_room v.parts v1.parts places) (keeps_made_room v1.parts v2.parts room);
        history = room.history ∙ ap (λ (p : Parts). p.history.items) places.parts;
        made = ap (λ (p : Parts). p.made) room.parts ∙ ap (λ (p : Parts). p.made) places.parts;
      }

pub places_stay : (b b' : Parts) (ino places : ℕ) → MakesRoom b b' → HasPlaceRoom ino places b → HasPlaceRoom ino places b'
places_stay b b' ino places made has n at = has n (sym (ap (λ (p : Parts). slice_get p.inodes.items ino) made.parts) ∙ at)
