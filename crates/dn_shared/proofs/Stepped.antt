-- A value with which one event was made goes on, and keeps what holds of it.
use Rattle.std.proofs.Common.{◌≡◌, ◌≢◌, ◌⊎◌, inl, inr, ⊎_elim, ℕ, ◌+◌, ◌≤◌, Bool, true, false, List, [], ◌++◌, length, refl, sym, ◌∙◌, ap, subst, arith, append-nil}
use Rattle.std.specs.Prelude.{Option, Some}
use Rattle.std.proofs.lemmas.Bool.{cases_eq}
use Rattle.pm_device.specs.State.{State}
use Rattle.dn_model.specs.Disk.{Disk}
use Rattle.dn_model.specs.Own.{Print}
use Rattle.dn_model.specs.Course.{Base}
use Rattle.dn_model.specs.declared.op.CountChange.{CountChange}
use Rattle.dn_volume.specs.declared.flight.Flight.{Flight}
use Rattle.dn_volume.specs.declared.outcome.Outcome.{Outcome}
use Rattle.dn_volume.specs.declared.volume.Volume.{Volume}
use Rattle.dn_volume.specs.Parties.{flight_of}
use Rattle.dn_volume.specs.Agrees.{Agrees, agrees_with, is_stopped, IsVolume}
use Rattle.dn_volume.specs.Sound.{Sound}
use Rattle.dn_core.specs.declared.event.Event.{Event}
use Rattle.dn_core.specs.declared.event.Event.TheVariants.{Begin, Advance, Daemon, Reclaim}
use Rattle.dn_core.specs.Steps.{Steps, Serves, IsNotYours}
use Rattle.dn_core.proofs.Sounds.{yours_or_not}
use Rattle.count_board.specs.declared.told.Hand.TheVariants.{Gone}
use Rattle.count_board.specs.declared.view.Account.{Account}
use Rattle.count_board.specs.Told.{Told, GoesOn, IsPast}
use Rattle.count_board.proofs.Fitting.{past_refl}
use Rattle.dn_shared.specs.declared.site.Site.{Site}
use Rattle.dn_shared.specs.Left.{has_left}
use Rattle.dn_shared.specs.Sites.{IsKept, IsShared, told_as, told_of, mark_of, hand_of}
use Rattle.dn_shared.specs.Turns.{IsClient, MayMake}
use Rattle.dn_shared.proofs.Going.{Goes, serves_go}
use Rattle.dn_shared.proofs.Past.{work_past, client_past, not_all_left}
use Rattle.dn_shared.proofs.Quiet.{daemon_quiet, reclaim_quiet}
use Rattle.dn_shared.proofs.Keeping.{shared_on, goes_on}

-- the value after an event, as the board asks it
pub record KeepsOn {D F : Type 0} (state : D → State) (print : Print) (number : ℕ) (base x y : Site D F) : Type 0 where
  pub on : GoesOn number (told_of x) (told_of y)
  pub holds : IsShared state print base y
  pub changes : List CountChange
  pub traced : y.volume.parts.trace.items ≡ x.volume.parts.trace.items ++ changes

pub here_if : (b : Bool) (o : Option Flight) → hand_of b o ≢ Some Gone → b ≡ false
here_if true o not = absurd (not refl)
here_if false o not = refl

goes_same : (number : ℕ) (t : Told) → GoesOn number t t
goes_same number t = record {
  more = [];
  added = sym (append-nil t.entries);
  own = λ k ne. refl;
  hands = λ k ne. refl;
  one_event = inl refl;
  past = past_refl t.mark;
}

module _ {D F : Type 0} (state : D → State) (print : Print) (base x y : Site D F) (gone : y.gone.items ≡ x.gone.items)
    (opening : y.opening.items ≡ x.opening.items) (shared : IsShared state print base x) where
  -- only the counts of events differ
  pub shared_same : y.volume ≡ x.volume → IsShared state print base y
  shared_same same =
      subst (λ (o : List ℕ). IsKept state print base y.volume y.gone.items o) (sym opening)
      (subst (λ (g : List Bool). IsKept state print base y.volume g x.opening.items) (sym gone)
      (subst (λ (v : Volume D F). IsKept state print base v x.gone.items x.opening.items) (sym same) shared))

  told_same : y.volume ≡ x.volume → told_of y ≡ told_of x
  told_same same = λ i. told_as (same i).parts (gone i)

  pub unchanged : (number : ℕ) → y.volume ≡ x.volume → KeepsOn state print number base x y
  unchanged number same = record {
    on = subst (λ (t : Told). GoesOn number (told_of x) t) (sym (told_same same)) (goes_same number (told_of x));
    holds = shared_same same;
    changes = [];
    traced = ap (λ (v : Volume D F). v.parts.trace.items) same ∙ sym (append-nil x.volume.parts.trace.items);
  }

  module _ (a : Account) (hand : (told_of x).hand a.number ≡ a.hand) where
    module _ (agrees : Agrees state y.volume) (sound : (b : Base) → Sound state print b x.volume → Sound state print b y.volume)
        (d : Disk) (volume : IsVolume d x.volume.parts (state x.volume.device)) where
      made_on : (n m : ℕ) → (m ≡ n) ⊎ (m ≡ n + 1) → n ≤ m
      made_on n m (inl is) = omega (arith, is)
      made_on n m (inr is) = omega (arith, is)

      stops_on : x.volume.parts.stopped ≡ true → y.volume.parts.stopped ≡ true
      stops_on is = absurd (no x.volume.parts.stopped volume.running is)
        where
          no : (b : Bool) → b ≡ false → b ≡ true → ⊥
          no b low high = cc

      client_here : (who : ℕ) → IsClient (length base.gone.items) a who → (k : ℕ) → k ≡ who
          → (k ≤ length x.gone.items) × (has_left x.gone.items k ≡ false)
      client_here who is k same =
          let number : a.number ≡ k = sym is.own ∙ sym same in
          let few = is.few in let long = shared.clients in (
            omega (arith, same, few, long),
            subst (λ (n : ℕ). has_left x.gone.items n ≡ false) number
                (here_if (has_left x.gone.items a.number) (flight_of x.volume.parts a.number) (λ left. is.here (sym hand ∙ left))),
          )

      of_client : (who : ℕ) → IsClient (length base.gone.items) a who → Goes state (λ k. k ≡ who) x.volume y.volume d
          → KeepsOn state print a.number base x y
      of_client who is goes =
          let mine = λ (k : ℕ). k ≡ who in
          let at = client_here who is who refl in
          let past : IsPast (mark_of x.gone.items x.volume.parts) (mark_of x.gone.items y.volume.parts) =
          client_past x.gone.items x.volume.parts y.volume.parts stops_on
          (made_on x.volume.parts.made y.volume.parts.made goes.made)
          (not_all_left x.gone.items who is.some at.0 at.1) in record {
            on = goes_on state print base x y shared gone opening mine (λ k. cases_eq k who) (client_here who is) agrees sound d volume goes a.number
                (λ k same. same ∙ is.own) past;
            holds = shared_on state print base x y shared gone opening mine (λ k. cases_eq k who) (client_here who is) agrees sound d volume goes;
            changes = goes.changes;
            traced = goes.trace;
          }

      of_worker : Goes state (λ k. ⊥) x.volume y.volume d
          → IsPast (mark_of x.gone.items x.volume.parts) (mark_of x.gone.items y.volume.parts) → KeepsOn state print a.number base x y
      of_worker goes past = record {
        on = goes_on state print base x y shared gone opening (λ k. ⊥) (λ k. inr (λ is. is)) (λ k is. absurd is) agrees sound d volume goes a.number
            (λ k is. absurd is) past;
        holds = shared_on state print base x y shared gone opening (λ k. ⊥) (λ k. inr (λ is. is)) (λ k is. absurd is) agrees sound d volume goes;
        changes = goes.changes;
        traced = goes.trace;
      }

      served : (event : Event) (outcome : Outcome) → MayMake (length base.gone.items) a event
          → Serves state print event x.volume y.volume d outcome → KeepsOn state print a.number base x y
      served (Begin who op) outcome may is =
          of_client who may (serves_go state print x.volume y.volume d volume (Begin who op) outcome is)
      served (Advance who) outcome may is =
          of_client who may (serves_go state print x.volume y.volume d volume (Advance who) outcome is)
      served Daemon outcome may is = let goes = serves_go state print x.volume y.volume d volume Daemon outcome is in of_worker goes
          (work_past x.gone.items x.volume.parts y.volume.parts stops_on (made_on x.volume.parts.made y.volume.parts.made goes.made)
          (daemon_quiet state print x.volume y.volume d outcome is))
      served Reclaim outcome may is = let goes = serves_go state print x.volume y.volume d volume Reclaim outcome is in of_worker goes
          (work_past x.gone.items x.volume.parts y.volume.parts stops_on (made_on x.volume.parts.made y.volume.parts.made goes.made)
          (reclaim_quiet state print x.volume y.volume d outcome is))

    pub stepped : Agrees state y.volume → ((b : Base) → Sound state print b x.volume → Sound state print b y.volume) → (event : Event)
        (outcome : Outcome) → MayMake (length base.gone.items) a event → Steps state print event x.volume y.volume outcome
        → KeepsOn state print a.number base x y
    stepped agrees sound event outcome may steps = by shared.agrees
      where
        by : Agrees state x.volume → KeepsOn state print a.number base x y
        by (is_stopped is) = unchanged a.number (steps.stopped is.stopped).1
        by (agrees_with d volume) = ⊎_elim (λ (not : IsNotYours x.volume.parts event). unchanged a.number (steps.not_yours volume.running not).1)
            (λ yours. served agrees sound d volume event outcome may (steps.serves d volume yours)) (yours_or_not x.volume.parts event)
