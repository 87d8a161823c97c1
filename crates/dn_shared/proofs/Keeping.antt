-- An event keeps what holds of a shared volume.
use Rattle.std.proofs.Common.{◌≡◌, ◌⊎◌, inl, inr, ⊎_elim, ℕ, ◌<◌, ◌≤◌, Bool, true, false, List, length, refl, sym, ◌∙◌, ap, subst, arith}
use Rattle.std.specs.Prelude.{Option, Some, None, slice_index}
use Rattle.pm_device.specs.State.{State, Rose}
use Rattle.pm_layout.specs.Geometry.{slots}
use Rattle.law_unique.proofs.OneImage.{disk_one}
use Rattle.law_unique.proofs.SameMeaning.{means_the_same}
use Rattle.dn_model.specs.Disk.{Disk}
use Rattle.dn_model.specs.Own.{Print}
use Rattle.dn_model.specs.Course.{Base}
use Rattle.dn_volume.specs.declared.flight.Flight.{Flight}
use Rattle.dn_volume.specs.declared.volume.Parts.{Parts}
use Rattle.dn_volume.specs.Parties.{Flies, flight_of}
use Rattle.dn_volume.specs.Events.{word_in, word_at, word_after}
use Rattle.dn_volume.specs.Agrees.{Agrees, IsVolume}
use Rattle.dn_volume.specs.Sound.{Sound}
use Rattle.dn_volume.proofs.SoundStays.{stands_now, after_more}
use Rattle.count_board.specs.declared.told.Hand.TheVariants.{Fly}
use Rattle.count_board.specs.Told.{GoesOn, IsPast}
use Rattle.dn_shared.specs.declared.site.Site.{Site}
use Rattle.dn_shared.specs.Left.{has_left}
use Rattle.dn_shared.specs.Sites.{IsShared, told_of, mark_of, hand_in, hand_of}
use Rattle.dn_shared.proofs.Hands.{of_flies, to_flies}
use Rattle.dn_shared.proofs.Going.{Goes}

-- words stand for one disk's counts at most
pub one_count : (d e : Disk) (b : Parts) (s : State) → IsVolume d b s → IsVolume e b s → (slot : ℕ) → word_at d slot ≡ word_at e slot
one_count d e b s here there slot = ap (λ rs. word_in rs slot)
    (means_the_same d e here.fast.valid (disk_one s.now d e (stands_now d b s here.fast) (stands_now e b s there.fast))).rows

pub rose_on : (a b c : ℕ) → a ≤ b → Rose b c → Rose a c
rose_on a b c le (inl lt) = inl (omega (arith, le, lt))
rose_on a b c le (inr top) = inr top

-- a number that has an operation in flight had one
pub flew : (b b' : Parts) (who : ℕ) (f' : Flight) → hand_in (flight_of b' who) ≡ hand_in (flight_of b who) → Flies b' who f'
    → (f : Flight) × Flies b who f
flew b b' who f' same flies = pick (flight_of b who) refl
  where
    clash : Some (Fly f'.op) ≡ None → ⊥
    clash e = cc

    pick : (o : Option Flight) → flight_of b who ≡ o → (f : Flight) × Flies b who f
    pick None is = absurd (clash (sym (ap hand_in (of_flies b' who f' flies)) ∙ same ∙ ap hand_in is))
    pick (Some f) is = (f, to_flies b who f is)

module _ {D F : Type 0} (state : D → State) (print : Print) (base x y : Site D F) (shared : IsShared state print base x)
    (gone : y.gone.items ≡ x.gone.items) (opening : y.opening.items ≡ x.opening.items)
    (mine : ℕ → Type 0) (mine_or : (k : ℕ) → mine k ⊎ (mine k → ⊥))
    (client : (k : ℕ) → mine k → (k ≤ length x.gone.items) × (has_left x.gone.items k ≡ false))
    (agrees : Agrees state y.volume)
    (sound : (b : Base) → Sound state print b x.volume → Sound state print b y.volume)
    (d : Disk) (volume : IsVolume d x.volume.parts (state x.volume.device)) (goes : Goes state mine x.volume y.volume d) where
  others_on : (who : ℕ) (f : Flight) → Flies y.volume.parts who f → who ≤ length y.gone.items
  others_on who f flies = subst (λ (l : List Bool). who ≤ length l) (sym gone) (⊎_elim (λ is. (client who is).0)
      (λ not. let was = flew x.volume.parts y.volume.parts who f (goes.hands who not) flies in shared.others who was.0 was.1) (mine_or who))

  landed_on : (who : ℕ) (f : Flight) → Flies y.volume.parts who f → has_left y.gone.items who ≡ false
  landed_on who f flies = subst (λ (l : List Bool). has_left l who ≡ false) (sym gone) (⊎_elim (λ is. (client who is).1)
      (λ not. let was = flew x.volume.parts y.volume.parts who f (goes.hands who not) flies in shared.landed who was.0 was.1) (mine_or who))

  words_on : (e : Disk) (slot : ℕ) → IsVolume e y.volume.parts (state y.volume.device) → slot < length y.opening.items
      → word_at e slot ≡ word_after y.volume.parts.trace.items slot (slice_index y.opening.items slot)
  words_on e slot now lt =
      let w = goes.words now.running in
      let inside : slot < length x.opening.items = subst (λ (l : List ℕ). slot < length l) opening lt in
      one_count e w.0 y.volume.parts (state y.volume.device) now w.1 slot ∙ (w.2 slot
      ∙ (ap (word_after goes.changes slot) (shared.words d slot volume inside)
      ∙ (sym (after_more x.volume.parts.trace.items goes.changes slot (slice_index x.opening.items slot))
      ∙ (ap (λ t. word_after t slot (slice_index x.opening.items slot)) (sym goes.trace)
      ∙ ap (λ (l : List ℕ). word_after y.volume.parts.trace.items slot (slice_index l slot)) (sym opening)))))

  pub shared_on : IsShared state print base y
  shared_on = record {
    agrees = agrees;
    clients = ap length gone ∙ shared.clients;
    few = subst (λ (l : List Bool). length l ≤ 14) (sym gone) shared.few;
    others = others_on;
    landed = landed_on;
    faults = let was = shared.faults in let more = goes.faults in omega (arith, was, more);
    rose = λ is. rose_on (state base.volume.device).faults (state x.volume.device).faults (state y.volume.device).faults shared.faults (goes.rose is);
    opening_is = opening ∙ shared.opening_is;
    geometry = goes.geometry ∙ shared.geometry;
    long = ap length opening ∙ (shared.long ∙ ap slots (sym goes.geometry));
    words = words_on;
    keeps = λ from was. sound from (shared.keeps from was);
  }

  hands_on : (k : ℕ) → (mine k → ⊥)
      → hand_of (has_left y.gone.items k) (flight_of y.volume.parts k) ≡ hand_of (has_left x.gone.items k) (flight_of x.volume.parts k)
  hands_on k not = ap (λ (l : List Bool). hand_of (has_left l k) (flight_of y.volume.parts k)) gone
      ∙ by (has_left x.gone.items k) (flight_of y.volume.parts k) (flight_of x.volume.parts k) (goes.hands k not)
    where
      by : (b : Bool) (o' o : Option Flight) → hand_in o' ≡ hand_in o → hand_of b o' ≡ hand_of b o
      by true o' o same = refl
      by false o' o same = same

  pub goes_on : (number : ℕ) → ((k : ℕ) → mine k → k ≡ number)
      → IsPast (mark_of x.gone.items x.volume.parts) (mark_of x.gone.items y.volume.parts) → GoesOn number (told_of x) (told_of y)
  goes_on number only past = record {
    more = goes.more;
    added = goes.history;
    own = λ k ne. goes.own k (λ is. ne (only k is));
    hands = λ k ne. hands_on k (λ is. ne (only k is));
    one_event = goes.made;
    past = subst (λ (l : List Bool). IsPast (mark_of x.gone.items x.volume.parts) (mark_of l y.volume.parts)) (sym gone) past;
  }
