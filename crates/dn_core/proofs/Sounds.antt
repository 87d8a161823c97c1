-- An event keeps a volume sound.
use Rattle.std.proofs.Common.{◌≡◌, ◌⊎◌, inl, inr, ⊎_elim, ℕ, ◌-◌, ◌≤◌, Bool, true, false, refl, sym, ◌∙◌, subst, arith}
use Rattle.std.specs.Prelude.{Option, Some, None}
use Rattle.std.proofs.lemmas.Bool.{cases_lt}
use Rattle.pm_device.specs.State.{State, Agree}
use Rattle.dn_model.specs.Disk.{Disk}
use Rattle.dn_model.specs.Own.{Print}
use Rattle.dn_model.specs.Course.{Base}
use Rattle.dn_model.specs.declared.op.Op.{Op}
use Rattle.dn_volume.specs.declared.outcome.Outcome.{Outcome}
use Rattle.dn_volume.specs.declared.outcome.Outcome.TheVariants as told
use Rattle.dn_volume.specs.declared.flight.Flight.{Flight}
use Rattle.dn_volume.specs.declared.volume.Parts.{Parts}
use Rattle.dn_volume.specs.declared.volume.Volume.{Volume}
use Rattle.dn_volume.specs.Parties.{Flies, flight_at}
use Rattle.dn_volume.specs.Flights.{left_of}
use Rattle.dn_volume.specs.Agrees.{IsVolume}
use Rattle.dn_volume.specs.Begins.{MayBegin}
use Rattle.dn_volume.specs.Events.{Advances, answered_by}
use Rattle.dn_volume.specs.Works.{Works, Stand, daemon_stand, DaemonLowers, reclaim_stand, ReclaimLowers}
use Rattle.dn_volume.specs.Sound.{Sound}
use Rattle.dn_volume.proofs.Shorts.{one_flight}
use Rattle.dn_volume.proofs.Soundness.{sound_disk, moves_stay_sound, answers_stay_sound, breaks_stay_sound}
use Rattle.dn_volume.proofs.Begun.{begins_stay_sound, untouched_stays_sound}
use Rattle.dn_core.specs.declared.event.Event.{Event}
use Rattle.dn_core.specs.declared.event.Event.TheVariants.{Begin, Advance, Daemon, Reclaim}
use Rattle.dn_core.specs.Steps.{Steps, Serves, Opens, GoesOn, IsNotYours}
use Rattle.dn_core.specs.Run.{StepsStaySound}

-- whether a client has an operation in flight
flies_or_not : (b : Parts) (who : ℕ) → ((f : Flight) × Flies b who f) ⊎ ((f : Flight) → Flies b who f → ⊥)
flies_or_not b who = elim (cases_lt 0 who) [
  | inl some ↦ pick (omega (arith, some)) (flight_at b.flights.items (who - 1)) refl
  | inr none ↦ inr (λ f flies. let one = flies.client in omega (arith, none, one))
]
  where
    pick : 1 ≤ who → (o : Option Flight) → flight_at b.flights.items (who - 1) ≡ o
        → ((f : Flight) × Flies b who f) ⊎ ((f : Flight) → Flies b who f → ⊥)
    pick some None is = inr (λ f flies. clash f (sym is ∙ flies.is))
      where
        clash : (f : Flight) → None ≡ Some f → ⊥
        clash f e = cc
    pick some (Some f) is = inl (f, record { client = some; is = is })

idle_if : (b : Parts) (who : ℕ) → 1 ≤ who → ((f : Flight) → Flies b who f → ⊥) → flight_at b.flights.items (who - 1) ≡ None
idle_if b who some none = pick (flight_at b.flights.items (who - 1)) refl
  where
    pick : (o : Option Flight) → flight_at b.flights.items (who - 1) ≡ o → o ≡ None
    pick None is = refl
    pick (Some f) is = absurd (none f (record { client = some; is = is }))

may_or_not : (b : Parts) (who : ℕ) → MayBegin b who ⊎ (MayBegin b who → ⊥)
may_or_not b who = elim (cases_lt 0 who) [
  | inr none ↦ inr (λ may. let one = may.some in omega (arith, none, one))
  | inl some ↦ elim (cases_lt 14 who) [
    | inl far ↦ inr (λ may. let few = may.few in omega (arith, far, few))
    | inr few ↦ ⊎_elim (λ flies. inr (λ may. clash flies.0 (sym may.idle ∙ flies.1.is)))
        (λ none. inl (record { some = omega (arith, some); few = few; idle = idle_if b who (omega (arith, some)) none })) (flies_or_not b who)
  ]
]
  where
    clash : (f : Flight) → None ≡ Some f → ⊥
    clash f e = cc

pub yours_or_not : (b : Parts) (event : Event) → IsNotYours b event ⊎ (IsNotYours b event → ⊥)
yours_or_not b (Begin who op) = ⊎_elim (λ may. inr (λ not. not may)) (λ not. inl not) (may_or_not b who)
yours_or_not b (Advance who) = ⊎_elim (λ flies. inr (λ not. not flies.0 flies.1)) (λ not. inl not) (flies_or_not b who)
yours_or_not b Daemon = inr (λ is. is)
yours_or_not b Reclaim = inr (λ is. is)

module _ {D F : Type 0} (state : D → State) (agree : (x : D) → Agree (state x).now (state x).past) (print : Print) (base : Base) (v v' : Volume D F)
    (running : v.parts.stopped ≡ false) (sound : Sound state print base v) where
  some_disk : (d : Disk) × IsVolume d v.parts (state v.device)
  some_disk = let was = sound_disk state print base v running sound in (was.0, was.1)

  never : (P : Disk → Type 0) → ((d : Disk) → P d → ⊥) → ((d : Disk) → IsVolume d v.parts (state v.device) → P d) → Sound state print base v'
  never P not is = let d = some_disk in absurd (not d.0 (is d.0 d.1))

  -- what a background actor does
  works_sound : (who : ℕ) (stand : Disk → Stand) (lowers : Parts → Parts → ℕ → Type 0) (outcome : Outcome)
      → ((d : Disk) → IsVolume d v.parts (state v.device) → Works state print who (stand d) lowers v v' d outcome) → Sound state print base v'
  works_sound who stand lowers (told.Running left) is =
      moves_stay_sound state print base who v v' running sound (λ d volume. (is d volume).0)
  works_sound who stand lowers (told.Done reply) is = let d = some_disk in absurd (is d.0 d.1)
  works_sound who stand lowers (told.Busy holder) is = untouched_stays_sound state print base v v' running sound (λ d volume. (is d volume).0)
  works_sound who stand lowers (told.Released left) is = let d = some_disk in absurd (is d.0 d.1)
  works_sound who stand lowers told.Idle is = untouched_stays_sound state print base v v' running sound (λ d volume. (is d volume).0)
  works_sound who stand lowers told.NotYours is = let d = some_disk in absurd (is d.0 d.1)
  works_sound who stand lowers told.NoMemory is = untouched_stays_sound state print base v v' running sound (λ d volume. (is d volume).0)
  works_sound who stand lowers told.Stopped is = breaks_stay_sound state print base who None v v' running sound (λ d volume. (is d volume).0)

  -- what a client does that goes on
  advances_sound : (who : ℕ) (op : Op) (left : ℕ) (outcome : Outcome)
      → ((d : Disk) → IsVolume d v.parts (state v.device) → Advances state print who op left v v' d outcome) → Sound state print base v'
  advances_sound who op left (told.Running n) is = moves_stay_sound state print base who v v' running sound (λ d volume. (is d volume).0)
  advances_sound who op left (told.Done reply) is =
      answers_stay_sound state agree print base who op reply v v' running sound (λ d volume. (is d volume).0)
  advances_sound who op left (told.Busy holder) is = let d = some_disk in absurd (is d.0 d.1)
  advances_sound who op left (told.Released waiting) is = let d = some_disk in absurd (is d.0 d.1)
  advances_sound who op left told.Idle is = let d = some_disk in absurd (is d.0 d.1)
  advances_sound who op left told.NotYours is = let d = some_disk in absurd (is d.0 d.1)
  advances_sound who op left told.NoMemory is = let d = some_disk in absurd (is d.0 d.1)
  advances_sound who op left told.Stopped is = breaks_stay_sound state print base who (answered_by left op) v v' running sound is

  -- what a client begins
  opens_sound : (who : ℕ) (op : Op) (outcome : Outcome) → 1 ≤ who
      → ((d : Disk) → IsVolume d v.parts (state v.device) → Opens state print who op v v' d outcome) → Sound state print base v'
  opens_sound who op (told.Running left) some is =
      begins_stay_sound state agree print base who op v v' (told.Running left) some running sound is
  opens_sound who op (told.Done reply) some is = begins_stay_sound state agree print base who op v v' (told.Done reply) some running sound is
  opens_sound who op (told.Busy holder) some is = begins_stay_sound state agree print base who op v v' (told.Busy holder) some running sound is
  opens_sound who op (told.Released left) some is =
      moves_stay_sound state print base 16 v v' running sound (λ d volume. (is d volume).moves)
  opens_sound who op told.Idle some is = let d = some_disk in absurd (is d.0 d.1)
  opens_sound who op told.NotYours some is = let d = some_disk in absurd (is d.0 d.1)
  opens_sound who op told.NoMemory some is = untouched_stays_sound state print base v v' running sound (λ d volume. (is d volume).0)
  opens_sound who op told.Stopped some is =
      breaks_stay_sound state print base 16 None v v' running sound (λ d volume. (is d volume).breaks)

  -- the flight that goes on is the client's one
  one_goes_on : (who : ℕ) (f : Flight) (outcome : Outcome) → Flies v.parts who f
      → (d : Disk) → GoesOn state print who v v' d outcome → Advances state print who f.op (left_of f) v v' d outcome
  one_goes_on who f outcome flies d on =
      subst (λ (g : Flight). Advances state print who g.op (left_of g) v v' d outcome) (one_flight v.parts who on.flight f on.flies flies) on.advances

  served : (event : Event) (outcome : Outcome) → (IsNotYours v.parts event → ⊥)
      → ((d : Disk) → IsVolume d v.parts (state v.device) → Serves state print event v v' d outcome) → Sound state print base v'
  served (Begin who op) outcome yours is =
      let d = some_disk in opens_sound who op outcome (is d.0 d.1).0.some (λ e volume. (is e volume).1)
  served (Advance who) outcome yours is =
      let d = some_disk in
      let on = is d.0 d.1 in
      advances_sound who on.flight.op (left_of on.flight) outcome (λ e volume. one_goes_on who on.flight outcome on.flies e (is e volume))
  served Daemon outcome yours is = works_sound 15 (λ d. daemon_stand d v.parts) DaemonLowers outcome is
  served Reclaim outcome yours is = works_sound 16 (λ d. reclaim_stand v.parts) ReclaimLowers outcome is

  running_step : (event : Event) (outcome : Outcome) → Steps state print event v v' outcome → Sound state print base v'
  running_step event outcome steps = ⊎_elim (λ not. subst (Sound state print base) (sym (steps.not_yours running not).1) sound)
      (λ yours. served event outcome yours (λ d volume. steps.serves d volume yours)) (yours_or_not v.parts event)

-- so does any event, also of a stopped volume
pub steps_stay_sound : {D F : Type 0} (state : D → State) → StepsStaySound D F state
steps_stay_sound state agree print base event v v' outcome steps sound = by v.parts.stopped refl
  where
    by : (b : Bool) → v.parts.stopped ≡ b → Sound state print base v'
    by true is = subst (Sound state print base) (sym (steps.stopped is).1) sound
    by false is = running_step state agree print base v v' is sound event outcome steps
