-- A volume whose threads have ended.
use Rattle.std.proofs.Common.{◌≡◌, ℕ, zero, suc, ◌<◌, Bool, true, false, List, [], ◌∷◌, length, map, refl, sym, ap, subst, arith, All}
use Rattle.std.specs.Prelude.{Option, Some, None, slice_index}
use Rattle.pm_device.specs.State.{State}
use Rattle.dn_model.specs.Own.{Print}
use Rattle.dn_volume.specs.declared.flight.Flight.{Flight}
use Rattle.dn_volume.specs.Parties.{flight_of}
use Rattle.dn_volume.specs.Events.{word_at, word_after}
use Rattle.count_board.specs.declared.told.Hand.{Hand}
use Rattle.count_board.specs.declared.view.Account.{Account}
use Rattle.count_board.specs.declared.pass.Pass.{Pass}
use Rattle.count_board.specs.Told.{Told}
use Rattle.count_board.specs.Passes.{account}
use Rattle.count_board.specs.Ends.{Settles, AllSettle, Closes}
use Rattle.dn_shared.specs.declared.site.Site.{Site}
use Rattle.dn_shared.specs.Sites.{IsShared, told_of, hand_in, hand_of}
use Rattle.dn_shared.specs.Ends.{HasCalls, HasNoOthers, HasInHand, HasRead, HasSeenPast, OfEach, CountsAsTraced, flying}
use Rattle.dn_shared.proofs.Hands.{to_flies}
use Rattle.dn_shared.proofs.Telling.{none_hand}

high_low : true ≡ false → ⊥
high_low e = cc

hand_flying : (b : Bool) (o : Option Flight) (h : Option Hand) → ((f : Flight) → o ≡ Some f → b ≡ false) → hand_of b o ≡ h → hand_in o ≡ flying h
hand_flying true None h landed is = ap flying is
hand_flying true (Some f) h landed is = absurd (high_low (landed f refl))
hand_flying false None h landed is = ap flying is
hand_flying false (Some f) h landed is = ap flying is

module _ {D F : Type 0} (state : D → State) (print : Print) (base x : Site D F) (passes : List (Pass (Site D F))) where
  abbrev words_of : Site D F → List ℕ
  words_of s = s.opening.items

  abbrev told_by : Site D F → Told
  told_by s = told_of s

  abbrev fact : Site D F → Site D F → Type 0
  fact b s = IsShared state print b s

  all_each : (P : Account → Type 0) → ((a : Account) → Settles words_of told_by fact base x a → P a) → (ps : List (Pass (Site D F)))
      → AllSettle words_of told_by fact base x (map account ps) → All (λ (p : Pass (Site D F)). P (account p)) ps
  all_each P each [] all k d lt = absurd (omega (arith, lt))
  all_each P each (p ∷ ps) all zero d lt = each (account p) all.0
  all_each P each (p ∷ ps) all (suc k) d lt = all_each P each ps all.1 k d (omega (arith, lt))

  module _ (closes : Closes words_of told_by fact base x passes) where
    pub calls_end : OfEach (HasCalls x.volume) passes
    calls_end = all_each (HasCalls x.volume) (λ a s. s.calls) passes closes.each

    pub hands_end : OfEach (HasInHand x.volume) passes
    hands_end = all_each (HasInHand x.volume)
        (λ a s. hand_flying _ (flight_of x.volume.parts a.number) a.hand
        (λ f is. closes.holds.landed a.number f (to_flies x.volume.parts a.number f is)) s.hand) passes closes.each

    pub reads_end : OfEach (HasRead base.opening.items x.volume) passes
    reads_end = all_each (HasRead base.opening.items x.volume) (λ a s. s.reads) passes closes.each

    pub marks_end : OfEach (HasSeenPast x.gone.items x.volume) passes
    marks_end = all_each (HasSeenPast x.gone.items x.volume) (λ a s. s.marks) passes closes.each

    pub others_end : HasNoOthers x.volume (length passes)
    others_end who not = let none = closes.others who not in (none.0, (none_hand _ (flight_of x.volume.parts who) none.1).1)

    pub counts_end : CountsAsTraced state base.opening.items x.volume
    counts_end e slot now lt =
        subst (λ (l : List ℕ). word_at e slot ≡ word_after x.volume.parts.trace.items slot (slice_index l slot)) closes.holds.opening_is
        (closes.holds.words e slot now (subst (λ (l : List ℕ). slot < length l) (sym closes.holds.opening_is) lt))
