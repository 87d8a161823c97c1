-- What the mark after an event says.
use Rattle.std.proofs.Common.{◌≡◌, ⊎_elim, ℕ, suc, ◌≤◌, Bool, true, false, List, [], ◌∷◌, ◌++◌, length, refl, sym, ◌∙◌, ap, subst, arith}
use Rattle.std.specs.Prelude.{Option, Some, None, is_none, ◌&&◌, ◌==◌}
use Rattle.pm_device.specs.State.{State}
use Rattle.dn_model.specs.Disk.{Disk}
use Rattle.dn_model.specs.Own.{Print}
use Rattle.dn_model.specs.declared.op.Op.{Op}
use Rattle.dn_volume.specs.declared.flight.Flight.{Flight}
use Rattle.dn_volume.specs.declared.outcome.Outcome.{Outcome}
use Rattle.dn_volume.specs.declared.outcome.Outcome.TheVariants as told
use Rattle.dn_volume.specs.declared.volume.Parts.{Parts}
use Rattle.dn_volume.specs.declared.volume.Volume.{Volume}
use Rattle.dn_volume.specs.Parties.{Flies, flight_at}
use Rattle.dn_volume.specs.Flights.{left_of}
use Rattle.dn_volume.specs.Agrees.{Agrees, agrees_with, is_stopped}
use Rattle.dn_volume.specs.Events.{Advances}
use Rattle.dn_volume.specs.Begins.{IsUntouched}
use Rattle.dn_volume.specs.Works.{Works, Stand, daemon_stand, DaemonLowers, DaemonRests, reclaim_stand, ReclaimLowers, ReclaimRests}
use Rattle.dn_core.specs.declared.event.Event.{Event}
use Rattle.dn_core.specs.declared.event.Event.TheVariants.{Begin, Advance, Daemon, Reclaim}
use Rattle.dn_core.specs.Steps.{Steps, Serves, Opens, IsNotYours}
use Rattle.dn_core.proofs.Sounds.{yours_or_not}
use Rattle.dn_core.proofs.Cleaned.{none_may_same}
use Rattle.dn_volume.specs.declared.background.Cleaning.{Cleaning}
use Rattle.dn_volume.specs.Cleans.{none_may_clean}
use Rattle.count_board.specs.declared.told.Mark.{Mark}
use Rattle.count_board.specs.declared.view.Seen.{Seen}
use Rattle.count_board.specs.declared.view.Seen.TheVariants.{Count, Front, Turn}
use Rattle.count_board.specs.Told.{IsPast}
use Rattle.count_board.specs.Reads.{AllPast}
use Rattle.dn_shared.specs.Left.{has_left, all_left}
use Rattle.dn_shared.specs.Marks.{last_mark_or}
use Rattle.dn_shared.specs.Sites.{mark_of, is_landed, is_empty, daemon_rests, none_released, reclaim_rests, hand_in}
use Rattle.dn_shared.specs.Turns.{stops, IsOver}
use Rattle.dn_shared.proofs.Hands.{all_none}
use Rattle.dn_shared.proofs.Past.{not_all_left, or_right, and_both, same_daemon}

-- the last mark, after a turn and after a read
pub last_turn : (o : Option Mark) (xs : List Seen) (n : ℕ) (m : Mark) → last_mark_or o (xs ++ Turn n m ∷ []) ≡ Some m
unfolding last_mark_or
last_turn o [] n m = refl
last_turn o (Count slot word ∷ xs) n m = last_turn o xs n m
last_turn o (Front front ∷ xs) n m = last_turn o xs n m
last_turn o (Turn k u ∷ xs) n m = last_turn (Some u) xs n m

one_mark : (m u : Mark) → Some m ≡ Some u → m ≡ u
one_mark m u e = cc

-- it has no more than the present one
pub past_last : (now : Mark) (xs : List Seen) (o : Option Mark) → ((m : Mark) → o ≡ Some m → IsPast m now) → AllPast now xs
    → (m : Mark) → last_mark_or o xs ≡ Some m → IsPast m now
unfolding last_mark_or
past_last now [] o before all m is = before m is
past_last now (Count slot word ∷ xs) o before all m is = past_last now xs o before all.1 m is
past_last now (Front front ∷ xs) o before all m is = past_last now xs o before all.1 m is
past_last now (Turn k u ∷ xs) o before all m is =
    past_last now xs (Some u) (λ t e. subst (λ (s : Mark). IsPast s now) (one_mark u t e) all.0) all.1 m is

-- where all clients have left, nothing is in flight
pub landed_if : (gone : List Bool) (b : Parts) → ((who : ℕ) (f : Flight) → Flies b who f → who ≤ length gone)
    → ((who : ℕ) (f : Flight) → Flies b who f → has_left gone who ≡ false) → all_left gone ≡ true → is_landed b ≡ true
landed_if gone b others landed all = all_none b.flights.items (λ k. at k (flight_at b.flights.items k) refl)
  where
    at : (k : ℕ) (o : Option Flight) → flight_at b.flights.items k ≡ o → hand_in (flight_at b.flights.items k) ≡ None
    at k None is = ap hand_in is
    at k (Some f) is =
        let flies : Flies b (suc k) f = record { client = omega arith; is = ap (flight_at b.flights.items) (omega arith) ∙ is } in
        absurd (not_all_left gone (suc k) (omega arith) (others (suc k) f flies) (landed (suc k) f flies) all)

rests_daemon : (b : Parts) → DaemonRests b → daemon_rests b ≡ true
rests_daemon b is = λ i. is_none (is.none_begun i) && is_empty (is.none_waits i)

rests_released : (b : Parts) → b.reclaiming.waiting ≡ 0 → none_released b ≡ true
rests_released b is = ap (λ (n : ℕ). n == 0) is

rests_reclaim : (b : Parts) → ReclaimRests b → reclaim_rests b ≡ true
rests_reclaim b is =
    and_both (none_released b && is_none b.reclaiming.cleaning) (none_may_clean b)
    (and_both (none_released b) (is_none b.reclaiming.cleaning) (rests_released b is.none_waits)
    (ap (λ (c : Option Cleaning). is_none c) is.none_begun)) is.none_may

not_idle : told.Stopped ≡ told.Idle → ⊥
not_idle e = cc

not_idle_yours : told.NotYours ≡ told.Idle → ⊥
not_idle_yours e = cc

module _ {D F : Type 0} (state : D → State) (print : Print) (v w : Volume D F) where
  opens_stops : (d : Disk) (who : ℕ) (op : Op) (outcome : Outcome) → Opens state print who op v w d outcome → w.parts.stopped ≡ stops outcome
  opens_stops d who op (told.Running left) is = is.volume.running
  opens_stops d who op (told.Done reply) is = is.volume.running
  opens_stops d who op (told.Busy holder) is = is.0.volume.running
  opens_stops d who op (told.Released left) is = is.moves.moves.volume.running
  opens_stops d who op told.Idle is = absurd is
  opens_stops d who op told.NotYours is = absurd is
  opens_stops d who op told.NoMemory is = is.0.volume.running
  opens_stops d who op told.Stopped is = is.breaks.stopped.stopped

  advances_stops : (d : Disk) (who : ℕ) (op : Op) (left : ℕ) (outcome : Outcome) → Advances state print who op left v w d outcome
      → w.parts.stopped ≡ stops outcome
  advances_stops d who op left (told.Running n) is = is.0.moves.volume.running
  advances_stops d who op left (told.Done reply) is = is.0.moves.volume.running
  advances_stops d who op left (told.Busy holder) is = absurd is
  advances_stops d who op left (told.Released waiting) is = absurd is
  advances_stops d who op left told.Idle is = absurd is
  advances_stops d who op left told.NotYours is = absurd is
  advances_stops d who op left told.NoMemory is = absurd is
  advances_stops d who op left told.Stopped is = is.stopped.stopped

  works_stops : (d : Disk) (who : ℕ) (stand : Stand) (lowers : Parts → Parts → ℕ → Type 0) (outcome : Outcome)
      → Works state print who stand lowers v w d outcome → w.parts.stopped ≡ stops outcome
  works_stops d who stand lowers (told.Running left) is = is.0.moves.volume.running
  works_stops d who stand lowers (told.Done reply) is = absurd is
  works_stops d who stand lowers (told.Busy holder) is = is.0.volume.running
  works_stops d who stand lowers (told.Released waiting) is = absurd is
  works_stops d who stand lowers told.Idle is = is.0.volume.running
  works_stops d who stand lowers told.NotYours is = absurd is
  works_stops d who stand lowers told.NoMemory is = is.0.volume.running
  works_stops d who stand lowers told.Stopped is = is.0.stopped.stopped

  serves_stops : (d : Disk) (event : Event) (outcome : Outcome) → Serves state print event v w d outcome → w.parts.stopped ≡ stops outcome
  serves_stops d (Begin who op) outcome is = opens_stops d who op outcome is.1
  serves_stops d (Advance who) outcome is = advances_stops d who is.flight.op (left_of is.flight) outcome is.advances
  serves_stops d Daemon outcome is = works_stops d 15 (daemon_stand d v.parts) DaemonLowers outcome is
  serves_stops d Reclaim outcome is = works_stops d 16 (reclaim_stand v.parts) ReclaimLowers outcome is

  pub stops_as : (event : Event) (outcome : Outcome) → Agrees state v → Steps state print event v w outcome → w.parts.stopped ≡ stops outcome
  stops_as event outcome (is_stopped is) steps = let e = steps.stopped is.stopped in
      ap (λ (u : Volume D F). u.parts.stopped) e.1 ∙ (is.stopped ∙ sym (ap stops e.0))
  stops_as event outcome (agrees_with d volume) steps = ⊎_elim (λ (not : IsNotYours v.parts event). let e = steps.not_yours volume.running not in
      ap (λ (u : Volume D F). u.parts.stopped) e.1 ∙ (volume.running ∙ sym (ap stops e.0)))
      (λ yours. serves_stops d event outcome (steps.serves d volume yours)) (yours_or_not v.parts event)

  module _ (gone : List Bool) (all : all_left gone ≡ true) (landed : is_landed w.parts ≡ true) where
    daemon_over : (d : Disk) → IsUntouched state v w d → DaemonRests v.parts → IsOver Daemon (mark_of gone w.parts)
    daemon_over d un rests = or_right w.parts.stopped ((all_left gone && is_landed w.parts) && daemon_rests w.parts)
        (and_both (all_left gone && is_landed w.parts) (daemon_rests w.parts) (and_both (all_left gone) (is_landed w.parts) all landed)
        (same_daemon v.parts w.parts un.same.work.sharing un.same.work.queue (rests_daemon v.parts rests)))

    reclaim_over : (d : Disk) → IsUntouched state v w d → ReclaimRests v.parts → IsOver Reclaim (mark_of gone w.parts)
    reclaim_over d un rests =
        let now : ReclaimRests w.parts = record {
          none_waits = un.same.work.waiting ∙ rests.none_waits;
          none_begun = un.same.work.cleaning ∙ rests.none_begun;
          none_may = none_may_same v.parts w.parts un.same ∙ rests.none_may;
        } in (
          or_right w.parts.stopped ((all_left gone && is_landed w.parts) && none_released w.parts)
              (and_both (all_left gone && is_landed w.parts) (none_released w.parts) (and_both (all_left gone) (is_landed w.parts) all landed)
              (rests_released w.parts now.none_waits)),
          rests_reclaim w.parts now,
        )

    serves_over : (d : Disk) (event : Event) → Serves state print event v w d told.Idle → IsOver event (mark_of gone w.parts)
    serves_over d (Begin who op) is = tt
    serves_over d (Advance who) is = tt
    serves_over d Daemon is = daemon_over d is.0 is.1
    serves_over d Reclaim is = reclaim_over d is.0 is.1

    pub over_as : (event : Event) (outcome : Outcome) → Agrees state v → Steps state print event v w outcome → outcome ≡ told.Idle
        → IsOver event (mark_of gone w.parts)
    over_as event outcome (is_stopped is) steps idle = absurd (not_idle (sym (steps.stopped is.stopped).0 ∙ idle))
    over_as event outcome (agrees_with d volume) steps idle =
        ⊎_elim (λ (not : IsNotYours v.parts event). absurd (not_idle_yours (sym (steps.not_yours volume.running not).0 ∙ idle)))
        (λ yours. serves_over d event (subst (Serves state print event v w d) idle (steps.serves d volume yours))) (yours_or_not v.parts event)
