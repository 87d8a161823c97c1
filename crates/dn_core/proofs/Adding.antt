-- What an event adds to the history.
use Rattle.std.proofs.Common.{◌≡◌, ⊎_elim, ℕ, List, [], ◌∷◌, ◌++◌, refl, sym, ◌∙◌, ap, subst}
use Rattle.std.proofs.lemmas.List.{append-nil, append_assoc}
use Rattle.pm_device.specs.State.{State}
use Rattle.dn_model.specs.Disk.{Disk}
use Rattle.dn_model.specs.Own.{Print}
use Rattle.dn_model.specs.Course.{Base}
use Rattle.pm_device.specs.State.{Agree}
use Rattle.dn_model.specs.declared.op.Op.{Op}
use Rattle.dn_model.specs.declared.op.Entry.{Entry}
use Rattle.dn_volume.specs.declared.outcome.Outcome.{Outcome}
use Rattle.dn_volume.specs.declared.outcome.Outcome.TheVariants as told
use Rattle.dn_volume.specs.declared.volume.Parts.{Parts}
use Rattle.dn_volume.specs.declared.volume.Volume.{Volume}
use Rattle.dn_volume.specs.Agrees.{Agrees, agrees_with, is_stopped}
use Rattle.dn_volume.specs.Events.{Advances}
use Rattle.dn_volume.specs.Works.{Works, Stand, daemon_stand, DaemonLowers, reclaim_stand, ReclaimLowers}
use Rattle.dn_volume.specs.Flights.{left_of}
use Rattle.dn_volume.specs.Sound.{Sound}
use Rattle.dn_core.specs.declared.event.Event.{Event}
use Rattle.dn_core.specs.declared.event.Event.TheVariants.{Begin, Advance, Daemon, Reclaim}
use Rattle.dn_core.specs.Steps.{Steps, Serves, Opens, IsNotYours}
use Rattle.dn_core.specs.Run.{Run, at_first, then_next, Adds, none_yet, added, Records}
use Rattle.dn_core.proofs.Sounds.{yours_or_not, steps_stay_sound}

-- what one event adds
pub record AddsSome (event : Event) (outcome : Outcome) (old new : List Entry) : Type 0 where
  pub entries : List Entry
  pub history : new ≡ old ++ entries
  pub adds : Adds event outcome entries

module _ (event : Event) (old new : List Entry) (same : new ≡ old) where
  none_more : (outcome : Outcome) → Adds event outcome [] → AddsSome event outcome old new
  none_more outcome adds = record { entries = []; history = same ∙ sym (append-nil old); adds = adds }

module _ {D F : Type 0} (state : D → State) (print : Print) (v v' : Volume D F) (d : Disk) where
  abbrev old : List Entry
  old = v.parts.history.items

  abbrev new : List Entry
  new = v'.parts.history.items

  works_add : (event : Event) (who : ℕ) (stand : Stand) (lowers : Parts → Parts → ℕ → Type 0) (outcome : Outcome)
      → Works state print who stand lowers v v' d outcome → AddsSome event outcome old new
  works_add event who stand lowers (told.Running left) is = none_more event old new is.0.history (told.Running left) refl
  works_add event who stand lowers (told.Done reply) is = absurd is
  works_add event who stand lowers (told.Busy holder) is = none_more event old new is.0.history (told.Busy holder) refl
  works_add event who stand lowers (told.Released waiting) is = absurd is
  works_add event who stand lowers told.Idle is = none_more event old new is.0.history told.Idle refl
  works_add event who stand lowers told.NotYours is = absurd is
  works_add event who stand lowers told.NoMemory is = none_more event old new is.0.history told.NoMemory refl
  works_add event who stand lowers told.Stopped is = none_more event old new is.0.history told.Stopped refl

  opens_add : (who : ℕ) (op : Op) (outcome : Outcome) → Opens state print who op v v' d outcome → AddsSome (Begin who op) outcome old new
  opens_add who op (told.Running left) is = none_more (Begin who op) old new is.history (told.Running left) refl
  opens_add who op (told.Done reply) is = record {
    entries = is.entry ∷ [];
    history = is.history;
    adds = (is.entry, record { who_is = is.who_is; op_is = λ w o same. is.op_is ∙ op_same w o same; reply_is = is.reply_is }, refl);
  }
    where
      op_same : (w : ℕ) (o : Op) → Begin who op ≡ Begin w o → op ≡ o
      op_same w o same = cc
  opens_add who op (told.Busy holder) is = none_more (Begin who op) old new is.0.history (told.Busy holder) refl
  opens_add who op (told.Released left) is = none_more (Begin who op) old new is.moves.history (told.Released left) refl
  opens_add who op told.Idle is = absurd is
  opens_add who op told.NotYours is = absurd is
  opens_add who op told.NoMemory is = none_more (Begin who op) old new is.0.history told.NoMemory refl
  opens_add who op told.Stopped is = none_more (Begin who op) old new is.breaks.history told.Stopped refl

  advances_add : (who : ℕ) (op : Op) (left : ℕ) (outcome : Outcome) → Advances state print who op left v v' d outcome
      → AddsSome (Advance who) outcome old new
  advances_add who op left (told.Running n) is = none_more (Advance who) old new is.0.history (told.Running n) refl
  advances_add who op left (told.Done reply) is = record {
    entries = is.0.entry ∷ [];
    history = is.0.history;
    adds = (is.0.entry, record { who_is = is.0.who_is; op_is = λ w o same. absurd (clash w o same); reply_is = is.0.reply_is }, refl);
  }
    where
      clash : (w : ℕ) (o : Op) → Advance who ≡ Begin w o → ⊥
      clash w o same = cc
  advances_add who op left (told.Busy holder) is = absurd is
  advances_add who op left (told.Released waiting) is = absurd is
  advances_add who op left told.Idle is = absurd is
  advances_add who op left told.NotYours is = absurd is
  advances_add who op left told.NoMemory is = absurd is
  advances_add who op left told.Stopped is = none_more (Advance who) old new is.history told.Stopped refl

  serves_add : (event : Event) (outcome : Outcome) → Serves state print event v v' d outcome → AddsSome event outcome old new
  serves_add (Begin who op) outcome is = opens_add who op outcome is.1
  serves_add (Advance who) outcome is = advances_add who is.flight.op (left_of is.flight) outcome is.advances
  serves_add Daemon outcome is = works_add Daemon 15 (daemon_stand d v.parts) DaemonLowers outcome is
  serves_add Reclaim outcome is = works_add Reclaim 16 (reclaim_stand v.parts) ReclaimLowers outcome is

pub steps_add : {D F : Type 0} (state : D → State) (print : Print) (event : Event) (v v' : Volume D F) (outcome : Outcome) → Agrees state v
    → Steps state print event v v' outcome → AddsSome event outcome v.parts.history.items v'.parts.history.items
steps_add state print event v v' outcome (is_stopped is) steps =
    let said = steps.stopped is.stopped in
    subst (λ (o : Outcome). AddsSome event o v.parts.history.items v'.parts.history.items) (sym said.0)
    (none_more event v.parts.history.items v'.parts.history.items (ap (λ (w : Volume _ _). w.parts.history.items) said.1) told.Stopped refl)
steps_add state print event v v' outcome (agrees_with d volume) steps =
    ⊎_elim refused (λ yours. serves_add state print v v' d event outcome (steps.serves d volume yours)) (yours_or_not v.parts event)
  where
    refused : IsNotYours v.parts event → AddsSome event outcome v.parts.history.items v'.parts.history.items
    refused not =
        let said = steps.not_yours volume.running not in
        subst (λ (o : Outcome). AddsSome event o v.parts.history.items v'.parts.history.items) (sym said.0)
        (none_more event v.parts.history.items v'.parts.history.items (ap (λ (w : Volume _ _). w.parts.history.items) said.1) told.NotYours refl)

-- none yet, and one event more
pub records_none : {D F : Type 0} (v : Volume D F) → Records v v [] []
records_none v = record { more = []; history = sym (append-nil v.parts.history.items); entries = none_yet }

pub records_next : {D F : Type 0} (u v w : Volume D F) (events : List Event) (outcomes : List Outcome) (event : Event) (outcome : Outcome)
    → Records u v events outcomes → AddsSome event outcome v.parts.history.items w.parts.history.items
    → Records u w (events ++ event ∷ []) (outcomes ++ outcome ∷ [])
records_next u v w events outcomes event outcome was some = record {
  more = was.more ++ some.entries;
  history = some.history ∙ ap (λ (h : List Entry). h ++ some.entries) was.history ∙ append_assoc u.parts.history.items was.more some.entries;
  entries = added event outcome some.entries was.entries some.adds;
}

-- a run keeps a volume sound
pub runs_stay_sound : {D F : Type 0} (state : D → State) → ((x : D) → Agree (state x).now (state x).past) → (print : Print) (base : Base)
    (u v : Volume D F) (events : List Event) (outcomes : List Outcome) → Run state print u events outcomes v → Sound state print base u
    → Sound state print base v
runs_stay_sound state agree print base u _ _ _ at_first sound = sound
runs_stay_sound state agree print base u w _ _ (then_next {events = es} {outcomes = os} {v = x} event outcome before step) sound =
    steps_stay_sound state agree print base event x w outcome step (runs_stay_sound state agree print base u x es os before sound)
