-- How a run goes on, event by event.
use Rattle.std.proofs.Common.{◌≡◌, ◌≢◌, inr, ℕ, zero, suc, ◌+◌, ◌-◌, ◌^◌, ◌<◌, ◌≤◌, Bool, true, false, List, [], ◌∷◌, ◌++◌, length, get_or, refl, sym, ◌∙◌, ap, subst, arith}
use Rattle.std.specs.Prelude.{Option, Some, None, IsSome}
use Rattle.std.proofs.lemmas.Option.{none-some, same_Some}
use Rattle.pm_device.specs.State.{State, Rose}
use Rattle.dn_model.specs.Disk.{Disk}
use Rattle.dn_model.specs.Files.{files}
use Rattle.dn_model.specs.History.{Legal}
use Rattle.dn_model.specs.Own.{Print}
use Rattle.dn_model.specs.Course.{Base, base_files}
use Rattle.dn_model.specs.declared.op.Op.{Op}
use Rattle.dn_model.specs.declared.op.Entry.{Entry}
use Rattle.dn_volume.specs.declared.flight.Flight.{Flight}
use Rattle.dn_volume.specs.declared.outcome.Outcome.{Outcome}
use Rattle.dn_volume.specs.declared.outcome.Outcome.TheVariants as told
use Rattle.dn_volume.specs.declared.volume.Parts.{Parts}
use Rattle.dn_volume.specs.declared.volume.Volume.{Volume}
use Rattle.dn_volume.specs.Parties.{flight_at, flight_of}
use Rattle.dn_volume.specs.Agrees.{IsVolume, Agrees, agrees_with, is_stopped}
use Rattle.dn_volume.specs.Sound.{Sound}
use Rattle.dn_volume.specs.Resting.{AllLanded}
use Rattle.dn_volume.specs.declared.background.Cleaning.{Cleaning}
use Rattle.dn_volume.specs.Works.{sharing_events}
use Rattle.dn_volume.proofs.SoundStays.{rose_since}
use Rattle.dn_volume.proofs.Soundness.{sound_disk}
use Rattle.dn_core.specs.declared.event.Event.{Event}
use Rattle.dn_core.specs.declared.event.Event.TheVariants.{Begin, Advance, Daemon, Reclaim}
use Rattle.dn_core.specs.Steps.{Steps, actor_of}
use Rattle.job_runs.specs.Reaching.{WasStopped}
use Rattle.job_runs.specs.declared.plan.Order.{Order}
use Rattle.job_runs.specs.declared.turn.Turn.{Turn}
use Rattle.job_runs.specs.Turns.{Played, Upcoming, next_op, upcoming, at_start, after}
use Rattle.job_runs.specs.Plays.{Move, Plays, at_first, then_next}
use Rattle.job_runs.specs.Scripts.{Rises, Suits}
use Rattle.job_runs.specs.Playing.{IsNew, FlyNext, Fits, flight_left, PlaysSo, PlaysWhole}
use Rattle.job_runs.specs.Answering.{GoesWell, BreaksOff, AnswersNext}
use Rattle.job_runs.specs.Player.{Standing, IsPlayer, IsBefore, GoesTo, HasOp, HasPlace, Notes, turn_for}
use Rattle.job_runs.proofs.Turned.{IsTurn, next_turn, client_of}
use Rattle.job_runs.proofs.Counting.{op_there, few_entries, few_own}
use Rattle.job_runs.proofs.Ending.{over_none}
use Rattle.job_runs.proofs.MayAnswer.{events_may_answer}

-- scripts were played on a volume so far, in so many events at most
pub record IsPlayed {D F : Type 0} (state : D → State) (print : Print) (order : Order) (scripts : List (ℕ × List Op)) (turns : List ℕ)
    (made : ℕ) (u v : Volume D F) (p : Played) : Type 0 where
  pub fits : Fits scripts p v.parts
  pub few : length p.entries ≤ made
  pub running : v.parts.stopped ≡ false
  pub faults : (state u.device).faults ≤ (state v.device).faults
  pub plays : (base : Base) → Sound state print base u → (moves : List Move) × Plays order scripts turns (base_files base) moves p

-- and a player stands there
pub record Stands {D F : Type 0} (state : D → State) (print : Print) (order : Order) (scripts : List (ℕ × List Op)) (turns : List ℕ)
    (made : ℕ) (u v : Volume D F) (s : Standing) : Type 0 where
  pub so_far : Played
  pub played : IsPlayed state print order scripts turns made u v so_far
  pub player : IsPlayer so_far s

-- such an outcome is none of those that end a run
goes_well : {D F : Type 0} (state : D → State) (order : Order) (scripts : List (ℕ × List Op)) (p : Played) (next : Upcoming) (v v' : Volume D F)
    (d : Disk) (outcome : Outcome) → (outcome ≡ told.NoMemory → ⊥) → (outcome ≡ told.Stopped → ⊥)
    → AnswersNext state order scripts p next v v' d outcome → GoesWell state order scripts p next v v' d outcome
goes_well state order scripts p next v v' d (told.Running left) memory stopped is = is
goes_well state order scripts p next v v' d (told.Done reply) memory stopped is = is
goes_well state order scripts p next v v' d (told.Busy holder) memory stopped is = is
goes_well state order scripts p next v v' d (told.Released waiting) memory stopped is = is
goes_well state order scripts p next v v' d told.Idle memory stopped is = is
goes_well state order scripts p next v v' d told.NotYours memory stopped is = absurd is
goes_well state order scripts p next v v' d told.NoMemory memory stopped is = absurd (memory refl)
goes_well state order scripts p next v v' d told.Stopped memory stopped is = absurd (stopped refl)

some_op : (o : Option Op) (op : Op) → o ≡ Some op → IsSome o
some_op None op is = absurd (none-some op is)
some_op (Some x) op is = refl

none_left : (b : Parts) → AllLanded b → (who : ℕ) → flight_left (flight_of b who) ≡ 0
none_left b landed zero = refl
none_left b landed (suc k) = by (flight_at b.flights.items k) refl
  where
    by : (o : Option Flight) → flight_at b.flights.items k ≡ o → flight_left o ≡ 0
    by None is = refl
    by (Some f) is = absurd (landed (suc k) f (record {
      client = omega arith;
      is = ap (flight_at b.flights.items) (back k) ∙ is;
    }))
      where
        back : (n : ℕ) → suc n - 1 ≡ n
        back n = omega arith

no_cleaning : (c : Option Cleaning) → c ≡ None → IsSome c → ⊥
no_cleaning None is some = cc
no_cleaning (Some x) is some = cc

-- nothing was played yet
start_fits : (scripts : List (ℕ × List Op)) (turns : List ℕ) (b : Parts) → IsNew b → Fits scripts (at_start turns) b
start_fits scripts turns b new = record {
  entries = sym new.history;
  clients = λ who no_daemon no_reclaim. sym (none_left b new.landed who);
  daemon = sym (ap sharing_events new.none_begun);
  waiting = λ n e. absurd (none-some n e);
  cleaning = λ some. absurd (no_cleaning b.reclaiming.cleaning new.none_cleaned some);
  flying = record { next = λ who f flies. absurd (new.landed who f flies) };
}

module _ {D F : Type 0} (state : D → State) (print : Print) (order : Order) (scripts : List (ℕ × List Op)) (turns : List ℕ) (u : Volume D F)
    (new : IsNew u.parts) where
  pub stands_first : (s : Standing) → IsPlayer (at_start turns) s → Stands state print order scripts turns 0 u u s
  stands_first s player = record {
    so_far = at_start turns;
    played = record {
      fits = start_fits scripts turns u.parts new;
      few = omega arith;
      running = new.running;
      faults = omega arith;
      plays = λ base sound. ([], at_first);
    };
    player = player;
  }

  pub none_so : (base : Base) → PlaysSo order scripts turns base u.parts
  none_so base = record {
    moves = [];
    so_far = at_start turns;
    plays = at_first;
    entries = sym new.history;
    flying = (start_fits scripts turns u.parts new).flying;
  }

-- what was played is so still on a volume on which nothing more was answered
so_still : {D F : Type 0} (state : D → State) (print : Print) (order : Order) (scripts : List (ℕ × List Op)) (turns : List ℕ) (made : ℕ)
    (u v v' : Volume D F) (p : Played) → IsPlayed state print order scripts turns made u v p → v'.parts.history.items ≡ v.parts.history.items
    → FlyNext scripts v'.parts → (base : Base) → Sound state print base u → PlaysSo order scripts turns base v'.parts
so_still state print order scripts turns made u v v' p was history flying base sound =
    let so = was.plays base sound in
    record { moves = so.0; so_far = p; plays = so.1; entries = was.fits.entries ∙ sym history; flying = flying }

module _ {D F : Type 0} {state : D → State} {print : Print} {order : Order} {scripts : List (ℕ × List Op)} {turns : List ℕ}
    {made : ℕ} {u v : Volume D F} {s : Standing} (stands : Stands state print order scripts turns made u v s) where
  -- where the run gives up
  pub stands_so : (base : Base) → Sound state print base u → PlaysSo order scripts turns base v.parts
  stands_so base sound =
      so_still state print order scripts turns made u v v stands.so_far stands.played refl stands.played.fits.flying base sound

  -- where nothing is next
  pub all_landed : Suits order scripts → upcoming order scripts stands.so_far ≡ None → AllLanded v.parts
  all_landed suits over who f flies =
      let fits = stands.played.fits in
      let some = ap (λ (es : List Entry). next_op scripts es who) fits.entries ∙ fits.flying.next who f flies in
      none-some f.op (sym (over_none scripts stands.so_far order suits over who) ∙ some)

  pub plays_whole : Suits order scripts → upcoming order scripts stands.so_far ≡ None → (base : Base) → Sound state print base u
      → PlaysWhole order scripts turns base v.parts
  plays_whole suits over base sound =
      let so = stands.played.plays base sound in
      record {
        moves = so.0;
        end = stands.so_far;
        played = record { plays = so.1; over = over };
        entries = stands.played.fits.entries;
        landed = all_landed suits over;
      }

-- what is next where an event is, and where none is
pub record IsNext (order : Order) (scripts : List (ℕ × List Op)) (p : Played) (s : Standing) (event : Event) : Type 0 where
  pub next : Upcoming
  pub is_next : upcoming order scripts p ≡ Some next
  pub event_is : event ≡ next.event
  pub before : IsBefore p next s

some_next : (order : Order) (scripts : List (ℕ × List Op)) (p : Played) (s : Standing) (event : Event)
    → GoesTo (upcoming order scripts p) p s (Some event) → IsNext order scripts p s event
some_next order scripts p s event goes = by (upcoming order scripts p) refl goes
  where
    by : (o : Option Upcoming) → upcoming order scripts p ≡ o → GoesTo o p s (Some event) → IsNext order scripts p s event
    by None at goes = absurd (none-some event (sym goes))
    by (Some next) at goes = record { next = next; is_next = at; event_is = same_Some event next.event goes.0; before = goes.1 }

pub none_next : (order : Order) (scripts : List (ℕ × List Op)) (p : Played) (s : Standing) (o : Option Event)
    → GoesTo (upcoming order scripts p) p s o → ((event : Event) → o ≡ Some event → ⊥) → upcoming order scripts p ≡ None
none_next order scripts p s o goes none = by (upcoming order scripts p) goes
  where
    by : (x : Option Upcoming) → GoesTo x p s o → x ≡ None
    by None goes = refl
    by (Some next) goes = absurd (none next.event goes.0)

-- one event more is made
pub record IsMade {D F : Type 0} (state : D → State) (print : Print) (order : Order) (scripts : List (ℕ × List Op)) (turns : List ℕ)
    (made : ℕ) (u v v' : Volume D F) (old s : Standing) (event : Event) (outcome : Outcome) : Type 0 where
  pub agrees : Agrees state v
  pub sounds : (base : Base) → Sound state print base u → Sound state print base v
  pub stands : Stands state print order scripts turns made u v old
  pub goes : (p : Played) → IsPlayer p old → GoesTo (upcoming order scripts p) p s (Some event)
  pub rises : Rises 0 scripts
  pub steps : Steps state print event v v' outcome

pub makes : {D F : Type 0} {state : D → State} {print : Print} {order : Order} {scripts : List (ℕ × List Op)} {turns : List ℕ} {made : ℕ}
    {u v v' : Volume D F} {old : Standing} {event : Event} {outcome : Outcome} (s : Standing) (o : Option Event) → Agrees state v
    → ((base : Base) → Sound state print base u → Sound state print base v) → Stands state print order scripts turns made u v old
    → ((p : Played) → IsPlayer p old → GoesTo (upcoming order scripts p) p s o) → o ≡ Some event → Rises 0 scripts
    → Steps state print event v v' outcome → IsMade state print order scripts turns made u v v' old s event outcome
makes {order = order} {scripts = scripts} s o agrees sounds stands goes is rises steps = record {
  agrees = agrees;
  sounds = sounds;
  stands = stands;
  goes = λ p player. subst (GoesTo (upcoming order scripts p) p s) is (goes p player);
  rises = rises;
  steps = steps;
}

-- that it is the next one
next_of : {D F : Type 0} {state : D → State} {print : Print} {order : Order} {scripts : List (ℕ × List Op)} {turns : List ℕ}
    {made : ℕ} {u v : Volume D F} {old s : Standing} {event : Event} (stands : Stands state print order scripts turns made u v old)
    → ((p : Played) → IsPlayer p old → GoesTo (upcoming order scripts p) p s (Some event)) → IsNext order scripts stands.so_far s event
next_of {order = order} {scripts = scripts} {s = s} {event = event} stands goes =
    some_next order scripts stands.so_far s event (goes stands.so_far stands.player)

-- the turn of the next event has a place, and its client a next operation
module _ {D F : Type 0} {state : D → State} {print : Print} {order : Order} {scripts : List (ℕ × List Op)} {turns : List ℕ}
    {made : ℕ} {u v : Volume D F} {old s : Standing} {event : Event} (stands : Stands state print order scripts turns made u v old)
    (is : IsNext order scripts stands.so_far s event) where
  abbrev p : Played
  p = stands.so_far

  back : (n : ℕ) → suc n - 1 ≡ n
  back n = omega arith

  own_op : (who : ℕ) → 0 < p.left who → who ≢ 15 → who ≢ 16 → IsSome (next_op scripts p.entries who)
  own_op who some no_daemon no_reclaim = by who some (stands.played.fits.clients who no_daemon no_reclaim)
    where
      found : (k : ℕ) (o : Option Flight) → flight_at v.parts.flights.items k ≡ o → 0 < flight_left o → IsSome (next_op scripts p.entries (suc k))
      found k None at some = absurd (omega (arith, some))
      found k (Some f) at some = some_op (next_op scripts p.entries (suc k)) f.op
          (ap (λ (es : List Entry). next_op scripts es (suc k)) stands.played.fits.entries
          ∙ stands.played.fits.flying.next (suc k) f (record { client = omega arith; is = ap (flight_at v.parts.flights.items) (back k) ∙ at }))

      by : (who : ℕ) → 0 < p.left who → p.left who ≡ flight_left (flight_of v.parts who) → IsSome (next_op scripts p.entries who)
      by zero some is = absurd (omega (arith, some, is))
      by (suc k) some is = found k (flight_at v.parts.flights.items k) refl (subst (λ (n : ℕ). 0 < n) is some)

  pub has_op : HasOp scripts p is.next.event
  has_op = by is.next.event (next_turn scripts p order is.next is.is_next)
    where
      by : (event : Event) → IsTurn scripts p event → HasOp scripts p event
      by (Begin who op) turn = some_op (next_op scripts p.entries who) op turn.next
      by (Advance who) turn = own_op who turn.some_left turn.no_daemon turn.no_reclaim
      by Daemon turn = tt
      by Reclaim turn = tt

  room : (who : ℕ) → Rises 0 scripts → made + 1 < 2 ^ 64 → IsSome (next_op scripts p.entries who)
      → (who < 15) × (get_or s.answered who 0 + 1 < 2 ^ 64)
  room who rises less some =
      let found = op_there (next_op scripts p.entries who) some in
      let is_client = client_of scripts p.entries who found.0 rises found.1 in
      let few = is_client.1 in
      let place : who < 15 = omega (arith, few) in
      let counted = is.before.counts.answers who place in
      let own = few_own who p.entries in
      let all = stands.played.few in
      (place, omega (arith, counted, own, all, less))

  pub has_place : Rises 0 scripts → made + 1 < 2 ^ 64 → HasPlace (turn_for event) s
  has_place rises less = subst (λ (e : Event). HasPlace (turn_for e) s) (sym is.event_is) (by is.next.event has_op)
    where
      by : (event : Event) → HasOp scripts p event → HasPlace (turn_for event) s
      by (Begin who op) has = room who rises less has
      by (Advance who) has = room who rises less has
      by Daemon has = tt
      by Reclaim has = tt

-- what it answers
module _ {D F : Type 0} {state : D → State} {print : Print} {order : Order} {scripts : List (ℕ × List Op)} {turns : List ℕ}
    {made : ℕ} {u v v' : Volume D F} {old s : Standing} {event : Event} {outcome : Outcome}
    (is : IsMade state print order scripts turns made u v v' old s event outcome) where
  abbrev so_far : Played
  so_far = is.stands.so_far

  at_next : IsNext order scripts so_far s event
  at_next = next_of is.stands is.goes

  told_by : (d : Disk) → IsVolume d v.parts (state v.device) → AnswersNext state order scripts so_far at_next.next v v' d outcome
  told_by d volume = events_may_answer state print order scripts so_far at_next.next v v' d outcome is.rises at_next.is_next is.stands.played.fits
      volume (subst (λ (e : Event). Steps state print e v v' outcome) at_next.event_is is.steps)

  disk_of : Agrees state v → (d : Disk) × IsVolume d v.parts (state v.device)
  disk_of (agrees_with d volume) = (d, volume)
  disk_of (is_stopped stopped) = absurd (apart v.parts.stopped is.stands.played.running stopped.stopped)
    where
      apart : (b : Bool) → b ≡ false → b ≡ true → ⊥
      apart b low high = cc

  told_some : (d : Disk) × AnswersNext state order scripts so_far at_next.next v v' d outcome
  told_some = let at = disk_of is.agrees in (at.0, told_by at.0 at.1)

  pub never_others : outcome ≡ told.NotYours → ⊥
  never_others said = subst (AnswersNext state order scripts so_far at_next.next v v' told_some.0) said told_some.1

  off_memory : outcome ≡ told.NoMemory → BreaksOff state scripts v v'
  off_memory said = subst (AnswersNext state order scripts so_far at_next.next v v' told_some.0) said told_some.1

  off_stopped : outcome ≡ told.Stopped → BreaksOff state scripts v v' × Rose (state v.device).faults (state v'.device).faults
  off_stopped said = subst (AnswersNext state order scripts so_far at_next.next v v' told_some.0) said told_some.1

  -- where it ends the run
  off_so : BreaksOff state scripts v v' → (base : Base) → Sound state print base u → PlaysSo order scripts turns base v'.parts
  off_so off base sound =
      so_still state print order scripts turns made u v v' so_far is.stands.played off.history off.flying base sound

  off_faults : BreaksOff state scripts v v' → (state u.device).faults ≤ (state v'.device).faults
  off_faults off = let before = is.stands.played.faults in let now = off.faults in omega (arith, before, now)

  pub memory_so : outcome ≡ told.NoMemory → (base : Base) → Sound state print base u → PlaysSo order scripts turns base v'.parts
  memory_so said = off_so (off_memory said)

  pub memory_faults : outcome ≡ told.NoMemory → (state u.device).faults ≤ (state v'.device).faults
  memory_faults said = off_faults (off_memory said)

  pub stopped_so : outcome ≡ told.Stopped → (base : Base) → Sound state print base u → PlaysSo order scripts turns base v'.parts
  stopped_so said = off_so (off_stopped said).0

  pub stopped_faults : outcome ≡ told.Stopped → (state u.device).faults ≤ (state v'.device).faults
  stopped_faults said = off_faults (off_stopped said).0

  pub was_stopped : outcome ≡ told.Stopped → WasStopped state u v'
  was_stopped said =
      inr (rose_since (state u.device).faults (state v.device).faults (state v'.device).faults is.stands.played.faults (off_stopped said).1)

  -- the turn has a place
  pub turn_place : (turn : Turn) → turn ≡ turn_for event → made + 1 < 2 ^ 64 → HasPlace turn s
  turn_place turn turn_is less = subst (λ (t : Turn). HasPlace t s) (sym turn_is) (has_place is.stands at_next is.rises less)

  -- where the run goes on
  module _ (memory : outcome ≡ told.NoMemory → ⊥) (stopped : outcome ≡ told.Stopped → ⊥) where
    well : (d : Disk) → IsVolume d v.parts (state v.device) → GoesWell state order scripts so_far at_next.next v v' d outcome
    well d volume = goes_well state order scripts so_far at_next.next v v' d outcome memory stopped (told_by d volume)

    abbrev then_far : Played
    then_far = after order scripts so_far at_next.next (actor_of at_next.next.event) outcome

    plays_then : (base : Base) → Sound state print base u → (moves : List Move) × Plays order scripts turns (base_files base) moves then_far
    plays_then base sound =
        let so = is.stands.played.plays base sound in
        let here = sound_disk state print base v is.stands.played.running (is.sounds base sound) in
        let move : Move = record { event = at_next.next.event; outcome = outcome } in (
          so.0 ++ move ∷ [],
          then_next move so.1 (record {
            next = at_next.next;
            is_next = at_next.is_next;
            event_is = refl;
            f = files here.0;
            files_are = subst (λ (es : List Entry). Legal (base_files base) es (files here.0)) (sym is.stands.played.fits.entries) here.2.legal;
            may = (well here.0 here.1).may;
            then_is = refl;
          }),
        )

    played_then : IsPlayed state print order scripts turns (made + 1) u v' then_far
    played_then =
        let at = disk_of is.agrees in
        let goes = well at.0 at.1 in
        record {
          fits = goes.fits;
          few = let more = few_entries scripts so_far (actor_of at_next.next.event) outcome in
              let all = is.stands.played.few in omega (arith, more, all);
          running = goes.running;
          faults = let before = is.stands.played.faults in let now = goes.faults in omega (arith, before, now);
          plays = plays_then;
        }

    pub then_so : (base : Base) → Sound state print base u → PlaysSo order scripts turns base v'.parts
    then_so = so_still state print order scripts turns (made + 1) u v' v' then_far played_then refl played_then.fits.flying

    pub then_faults : (state u.device).faults ≤ (state v'.device).faults
    then_faults = played_then.faults

    pub then_stands : (turn : Turn) → turn ≡ turn_for event → (t : Standing) → Notes order turn outcome s t
        → Stands state print order scripts turns (made + 1) u v' t
    then_stands turn turn_is t notes = record {
      so_far = then_far;
      played = played_then;
      player = notes scripts so_far at_next.next at_next.before
          (turn_is ∙ ap turn_for at_next.event_is) (has_op is.stands at_next);
    }
