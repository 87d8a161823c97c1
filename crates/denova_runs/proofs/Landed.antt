-- Events of the daemon and of reclaim put no operation in flight, and faults don't fall in them.
use Rattle.std.proofs.Common.{◌≡◌, ⊎_elim, ℕ, ◌-◌, ◌≤◌, List, [], ◌∷◌, ◌++◌, sym, ◌∙◌, ap, subst, arith}
use Rattle.std.specs.Prelude.{Option, Contains}
use Rattle.std.proofs.lemmas.List.Elements.{Contains-append_left, Contains-append_cases, Contains-push}
use Rattle.pm_device.specs.State.{State}
use Rattle.dn_model.specs.Disk.{Disk}
use Rattle.dn_model.specs.Own.{Print}
use Rattle.law_unique.proofs.Listings.{none_listed, cons_cases}
use Rattle.dn_volume.specs.declared.flight.Flight.{Flight}
use Rattle.dn_volume.specs.declared.outcome.Outcome.{Outcome}
use Rattle.dn_volume.specs.declared.outcome.Outcome.TheVariants as told
use Rattle.dn_volume.specs.declared.volume.Parts.{Parts}
use Rattle.dn_volume.specs.declared.volume.Volume.{Volume}
use Rattle.dn_volume.specs.Parties.{KeepsOps, flight_at}
use Rattle.dn_volume.specs.Agrees.{Agrees, agrees_with, is_stopped}
use Rattle.dn_volume.specs.Begins.{IsUntouched}
use Rattle.dn_volume.specs.Resting.{AllLanded}
use Rattle.dn_volume.specs.Works.{Works, Stand, daemon_stand, DaemonLowers, reclaim_stand, ReclaimLowers}
use Rattle.dn_core.specs.declared.event.Event.{Event}
use Rattle.dn_core.specs.declared.event.Event.TheVariants.{Begin, Advance, Daemon, Reclaim}
use Rattle.dn_core.specs.Steps.{Steps, Serves, IsNotYours}
use Rattle.dn_core.specs.Run.{Run, at_first, then_next}
use Rattle.dn_core.specs.Rest.{IsWork, AreFullRounds, AreRounds, no_round, one_more, full, half, Rounds}

-- what stands after such events
pub record StaysLanded {D F : Type 0} (state : D → State) (u v : Volume D F) : Type 0 where
  pub agrees : Agrees state v
  pub landed : AllLanded v.parts
  pub faults : (state u.device).faults ≤ (state v.device).faults

kept_landed : (b b' : Parts) → KeepsOps b b' → AllLanded b → AllLanded b'
kept_landed b b' ops landed who f flies = let was = ops.only who f flies in landed who was.0 was.1

same_landed : (b b' : Parts) → b'.flights.items ≡ b.flights.items → AllLanded b → AllLanded b'
same_landed b b' same landed who f flies = landed who f (record {
  client = flies.client;
  is = ap (λ (fs : List (Option Flight)). flight_at fs (who - 1)) (sym same) ∙ flies.is;
})

module _ {D F : Type 0} (state : D → State) (print : Print) (v w : Volume D F) (landed : AllLanded v.parts) where
  untouched : (d : Disk) → IsUntouched state v w d → StaysLanded state v w
  untouched d is = record {
    agrees = agrees_with d is.volume;
    landed = same_landed v.parts w.parts is.same.flights landed;
    faults = let same = is.device.faults in omega (arith, same);
  }

  works_on : (d : Disk) (who : ℕ) (stand : Stand) (lowers : Parts → Parts → ℕ → Type 0) (outcome : Outcome)
      → Works state print who stand lowers v w d outcome → StaysLanded state v w
  works_on d who stand lowers (told.Running left) is = record {
    agrees = agrees_with is.0.after is.0.moves.volume;
    landed = kept_landed v.parts w.parts is.0.ops landed;
    faults = is.0.moves.faults;
  }
  works_on d who stand lowers (told.Done reply) is = absurd is
  works_on d who stand lowers (told.Busy holder) is = untouched d is.0
  works_on d who stand lowers (told.Released waiting) is = absurd is
  works_on d who stand lowers told.Idle is = untouched d is.0
  works_on d who stand lowers told.NotYours is = absurd is
  works_on d who stand lowers told.NoMemory is = untouched d is.0
  works_on d who stand lowers told.Stopped is = record {
    agrees = is_stopped is.0.stopped;
    landed = kept_landed v.parts w.parts is.0.ops landed;
    faults = is.0.faults;
  }

  served : (event : Event) → IsWork event → (d : Disk) (outcome : Outcome) → Serves state print event v w d outcome → StaysLanded state v w
  served (Begin who op) work d outcome is = absurd work
  served (Advance who) work d outcome is = absurd work
  served Daemon work d outcome is = works_on d 15 (daemon_stand d v.parts) DaemonLowers outcome is
  served Reclaim work d outcome is = works_on d 16 (reclaim_stand v.parts) ReclaimLowers outcome is

  is_yours : (event : Event) → IsWork event → IsNotYours v.parts event → ⊥
  is_yours (Begin who op) work not = work
  is_yours (Advance who) work not = work
  is_yours Daemon work not = not
  is_yours Reclaim work not = not

  steps_on : (event : Event) → IsWork event → (outcome : Outcome) → Agrees state v → Steps state print event v w outcome → StaysLanded state v w
  steps_on event work outcome (agrees_with d volume) steps = served event work d outcome (steps.serves d volume (is_yours event work))
  steps_on event work outcome (is_stopped is) steps =
      subst (StaysLanded state v) (sym (steps.stopped is.stopped).1) (record { agrees = is_stopped is; landed = landed; faults = omega arith })

-- only such events
abbrev AreWork : List Event → Type 0
AreWork events = (event : Event) → Contains events event → IsWork event

more_work : (events : List Event) (last : Event) → AreWork events → IsWork last → AreWork (events ++ last ∷ [])
more_work events last all work event has = ⊎_elim (λ there. all event there)
    (λ one. ⊎_elim (λ same. subst IsWork same work) (λ none. absurd (none_listed event none)) (cons_cases last event [] one))
    (Contains-append_cases events (last ∷ []) event has)

full_work : (events : List Event) → AreFullRounds events → AreWork events
full_work _ no_round = λ event has. absurd (none_listed event has)
full_work _ (one_more {events = es} rounds) = more_work (es ++ Reclaim ∷ []) Daemon (more_work es Reclaim (full_work es rounds) tt) tt

rounds_work : (events : List Event) → AreRounds events → AreWork events
rounds_work events (full rounds) = full_work events rounds
rounds_work _ (half {events = es} rounds) = more_work es Reclaim (full_work es rounds) tt

runs_on : {D F : Type 0} (state : D → State) (print : Print) (u v : Volume D F) (events : List Event) (outcomes : List Outcome)
    → Run state print u events outcomes v → AreWork events → Agrees state u → AllLanded u.parts → StaysLanded state u v
runs_on state print u _ _ _ at_first work agrees landed = record { agrees = agrees; landed = landed; faults = omega arith }
runs_on state print u w _ _ (then_next {events = es} {outcomes = os} {v = v} event outcome before step) work agrees landed =
    let was = runs_on state print u v es os before (λ e has. work e (Contains-append_left es (event ∷ []) e has)) agrees landed in
    let now = steps_on state print v w was.landed event (work event (Contains-push es event)) outcome was.agrees step in
    let early = was.faults in
    let late = now.faults in
    record { agrees = now.agrees; landed = now.landed; faults = omega (arith, early, late) }

pub rounds_on : {D F : Type 0} (state : D → State) (print : Print) (u v : Volume D F) → Rounds state print u v → Agrees state u
    → AllLanded u.parts → StaysLanded state u v
rounds_on state print u v rounds agrees landed =
    runs_on state print u v rounds.events rounds.outcomes rounds.run (rounds_work rounds.events rounds.rounds) agrees landed
