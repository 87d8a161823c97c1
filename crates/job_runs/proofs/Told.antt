-- What a begin and an advance tell while nobody else has anything in flight.
use Rattle.std.proofs.Common.{◌≡◌, inl, inr, ℕ, zero, suc, ◌-◌, ◌≤◌, Bool, true, false, List, [], ◌∷◌, ◌++◌, refl, sym, ◌∙◌, ap, subst, arith}
use Rattle.std.specs.Prelude.{Option, Some, None}
use Rattle.std.proofs.lemmas.Bool.{cases_eq}
use Rattle.pm_device.specs.State.{State}
use Rattle.dn_model.specs.Disk.{Disk}
use Rattle.dn_model.specs.Own.{Print}
use Rattle.dn_model.specs.declared.op.Op.{Op}
use Rattle.dn_model.specs.declared.op.Reply.{Reply}
use Rattle.dn_model.specs.declared.op.Entry.{Entry}
use Rattle.dn_volume.specs.declared.background.Sharing.{Sharing}
use Rattle.dn_volume.specs.declared.background.Cleaning.{Cleaning}
use Rattle.dn_volume.specs.declared.flight.Flight.{Flight}
use Rattle.dn_volume.specs.declared.outcome.Outcome.{Outcome}
use Rattle.dn_volume.specs.declared.outcome.Outcome.TheVariants as told
use Rattle.dn_volume.specs.declared.volume.Parts.{Parts}
use Rattle.dn_volume.specs.declared.volume.Volume.{Volume}
use Rattle.dn_volume.specs.Parties.{Flies, Holds, by_client, by_daemon, by_cleaning, KeepsOps, flight_at, flight_of}
use Rattle.dn_volume.proofs.Replaced.{flies_new, others_same}
use Rattle.dn_volume.specs.Flights.{left_of}
use Rattle.dn_volume.specs.Agrees.{IsVolume, Agrees, agrees_with, is_stopped}
use Rattle.dn_volume.specs.Events.{Advances}
use Rattle.dn_volume.specs.Resting.{AllLanded}
use Rattle.dn_core.specs.declared.event.Event.TheVariants.{Begin, Advance}
use Rattle.dn_core.specs.Steps.{Steps, Opens}
use Rattle.job_runs.specs.Reaching.{IsLoose, FliesAlone, AddsEntry, IsSteady}
use Rattle.job_runs.specs.Telling.{flight_left, BeginTells, AdvanceTells}

no_flight : (b : Parts) → AllLanded b → (who : ℕ) → 1 ≤ who → flight_at b.flights.items (who - 1) ≡ None
no_flight b landed who some = by (flight_at b.flights.items (who - 1)) refl
  where
    by : (o : Option Flight) → flight_at b.flights.items (who - 1) ≡ o → o ≡ None
    by None is = refl
    by (Some f) is = absurd (landed who f (record { client = some; is = is }))

entry_is : (entry : Entry) (who : ℕ) (op : Op) → entry.who ≡ who → entry.op ≡ op → entry ≡ record { who = who; op = op; reply = entry.reply }
entry_is entry who op who_is op_is =
    ap (λ (w : ℕ). record { who = w; op = entry.op; reply = entry.reply }) who_is
    ∙ ap (λ (o : Op). record { who = who; op = o; reply = entry.reply }) op_is

adds : (who : ℕ) (op : Op) (old new : List Entry) (entry : Entry) → new ≡ old ++ entry ∷ [] → entry.who ≡ who → entry.op ≡ op
    → AddsEntry who op old new
adds who op old new entry more who_is op_is = record {
  reply = entry.reply;
  history = more ∙ ap (λ (e : Entry). old ++ e ∷ []) (entry_is entry who op who_is op_is);
}

same_loose : (b b' : Parts) → b'.flights.items ≡ b.flights.items → b'.sharing ≡ b.sharing
    → b'.reclaiming.cleaning ≡ b.reclaiming.cleaning → IsLoose b → IsLoose b'
same_loose b b' flights sharing cleaning loose = record {
  landed = λ q f flies. loose.landed q f (record {
    client = flies.client;
    is = ap (λ (fs : List (Option Flight)). flight_at fs (q - 1)) (sym flights) ∙ flies.is;
  });
  none_begun = sharing ∙ loose.none_begun;
  none_cleaned = cleaning ∙ loose.none_cleaned;
}

kept_loose : (b b' : Parts) → KeepsOps b b' → b'.sharing ≡ b.sharing → b'.reclaiming.cleaning ≡ b.reclaiming.cleaning → IsLoose b → IsLoose b'
kept_loose b b' ops sharing cleaning loose = record {
  landed = λ q f flies. let was = ops.only q f flies in loose.landed q was.0 was.1;
  none_begun = sharing ∙ loose.none_begun;
  none_cleaned = cleaning ∙ loose.none_cleaned;
}

no_item : (x : Sharing) → None ≡ Some x → ⊥
no_item x e = cc

no_cleaning : (c : Cleaning) → None ≡ Some c → ⊥
no_cleaning c e = cc

never_held : (b : Parts) → IsLoose b → (q ino : ℕ) → Holds b q ino → ⊥
never_held b loose q ino (by_client f flies has) = loose.landed q f flies
never_held b loose q ino (by_daemon sharing is some at) = no_item sharing (sym loose.none_begun ∙ some)
never_held b loose q ino (by_cleaning cleaning is some at) = no_cleaning cleaning (sym loose.none_cleaned ∙ some)

clash : (x : Bool) → x ≡ false → x ≡ true → ⊥
clash x low high = cc

module _ {D F : Type 0} (state : D → State) (print : Print) (who : ℕ) (op : Op) (v v' : Volume D F) (few : who ≤ 14) where
  steady : v'.parts.stopped ≡ false → (state v.device).faults ≤ (state v'.device).faults → IsSteady state v v'
  steady running faults = record { stopped = λ is. absurd (clash v'.parts.stopped running is); faults = faults }

  -- a begin
  opens_tell : (d : Disk) → IsVolume d v.parts (state v.device) → IsLoose v.parts → (outcome : Outcome) → Opens state print who op v v' d outcome
      → BeginTells state who op v v' outcome
  opens_tell d volume loose (told.Running left) is = (
    record {
      flight = is.flight;
      flies = flies_new who is.opens.client None (Some is.flight) v.parts v'.parts is.opens.replaces is.flight refl;
      op_is = is.opens.op_is;
      only = λ q f flies. elim (cases_eq q who) [
        | inl e ↦ e
        | inr ne ↦ absurd (loose.landed q f (record {
          client = flies.client;
          is = sym ((others_same who is.opens.client None (Some is.flight) v.parts v'.parts is.opens.replaces).flights q flies.client ne) ∙ flies.is;
        }))
      ];
      none_begun = is.opens.same.work.sharing ∙ loose.none_begun;
      none_cleaned = is.opens.same.work.cleaning ∙ loose.none_cleaned;
    },
    record {
      history = is.history;
      running = is.volume.running;
      faults = let same = is.device.faults in omega (arith, same);
    },
  )
  opens_tell d volume loose (told.Done reply) is = (
    same_loose v.parts v'.parts is.same.flights is.same.work.sharing is.same.work.cleaning loose,
    adds who op v.parts.history.items v'.parts.history.items is.entry is.history is.who_is is.op_is,
    steady is.volume.running (let same = is.device.faults in omega (arith, same)),
  )
  opens_tell d volume loose (told.Busy holder) is = never_held v.parts loose holder is.1.held.ino is.1.held.holds
  opens_tell d volume loose (told.Released left) is = (
    kept_loose v.parts v'.parts is.moves.ops is.lowers.sharing is.lowers.cleaning loose,
    record { history = is.moves.history; running = is.moves.moves.volume.running; faults = is.moves.moves.faults },
    is.lowers.less,
  )
  opens_tell d volume loose told.Idle is = is
  opens_tell d volume loose told.NotYours is = is
  opens_tell d volume loose told.NoMemory is = (same_loose v.parts v'.parts is.0.same.flights is.0.same.work.sharing is.0.same.work.cleaning loose, is.0.history)
  opens_tell d volume loose told.Stopped is = (inr is.breaks.rose, is.breaks.history)

  pub begin_tells : Agrees state v → IsLoose v.parts → 1 ≤ who → (outcome : Outcome) → Steps state print (Begin who op) v v' outcome
      → BeginTells state who op v v' outcome
  begin_tells (agrees_with d volume) loose some outcome steps =
      opens_tell d volume loose outcome (steps.serves d volume (λ not. not (record {
        some = some;
        few = few;
        idle = no_flight v.parts loose.landed who
            some;
      }))).1
  begin_tells (is_stopped is) loose some outcome steps =
      let said = steps.stopped is.stopped in
      subst (BeginTells state who op v v') (sym said.0) (inl is.stopped, ap (λ (w : Volume D F). w.parts.history.items) said.1)

  -- an advance
  left_is : (b : Parts) (f : Flight) → Flies b who f → flight_left (flight_of b who) ≡ left_of f
  left_is b f flies = by who flies
    where
      by : (n : ℕ) → Flies b n f → flight_left (flight_of b n) ≡ left_of f
      by zero is = absurd (let one = is.client in omega (arith, one))
      by (suc k) is = ap flight_left (ap (flight_at b.flights.items) (omega arith) ∙ is.is)

  advances_tell : (d : Disk) → FliesAlone v.parts who op → (outcome : Outcome) → (f : Flight) → Flies v.parts who f → f.op ≡ op
      → Advances state print who f.op (left_of f) v v' d outcome → AdvanceTells state who op v v' outcome
  advances_tell d alone (told.Running n) f flies op_is is = (
    record {
      flight = is.1.flight;
      flies = is.1.flies;
      op_is = is.1.op_is ∙ op_is;
      only = λ q g others. let was = is.0.ops.only q g others in alone.only q was.0 was.1;
      none_begun = is.0.moves.others.sharing (λ e. omega (arith, e, few)) ∙ alone.none_begun;
      none_cleaned = is.0.moves.others.cleaning (λ e. omega (arith, e, few)) ∙ alone.none_cleaned;
    },
    record {
      history = is.0.history;
      running = is.0.moves.volume.running;
      faults = is.0.moves.faults;
    },
    let now = left_is v'.parts is.1.flight is.1.flies in
        let was = left_is v.parts f flies in
        let left_now = is.1.left_is in
        let lower = is.2 in
        omega (arith, now, was, left_now, lower),
  )
  advances_tell d alone (told.Done reply) f flies op_is is = (
    record {
      landed = λ q g others. elim (cases_eq q who) [
        | inl e ↦ no_flight_there g (sym is.0.replaces.now ∙ subst (λ (n : ℕ). flight_at v'.parts.flights.items (n - 1) ≡ Some g) e others.is)
        | inr ne ↦ ne (alone.only q g (record { client = others.client; is = sym (is.0.moves.others.flights q others.client ne) ∙ others.is }))
      ];
      none_begun = is.0.moves.others.sharing (λ e. omega (arith, e, few)) ∙ alone.none_begun;
      none_cleaned = is.0.moves.others.cleaning (λ e. omega (arith, e, few)) ∙ alone.none_cleaned;
    },
    adds who op v.parts.history.items v'.parts.history.items is.0.entry is.0.history is.0.who_is (is.0.op_is ∙ op_is),
    steady is.0.moves.volume.running is.0.moves.faults,
  )
    where
      no_flight_there : (g : Flight) → None ≡ Some g → ⊥
      no_flight_there g e = cc
  advances_tell d alone (told.Busy holder) f flies op_is is = is
  advances_tell d alone (told.Released waiting) f flies op_is is = is
  advances_tell d alone told.Idle f flies op_is is = is
  advances_tell d alone told.NotYours f flies op_is is = is
  advances_tell d alone told.NoMemory f flies op_is is = is
  advances_tell d alone told.Stopped f flies op_is is = (inr is.rose, is.history)

  one_op : (b : Parts) (f g : Flight) → Flies b who f → Flies b who g → f ≡ g
  one_op b f g one other = some_one f g (sym one.is ∙ other.is)
    where
      some_one : (x y : Flight) → Some x ≡ Some y → x ≡ y
      some_one x y e = cc

  pub advance_tells : Agrees state v → FliesAlone v.parts who op → (outcome : Outcome) → Steps state print (Advance who) v v' outcome
      → AdvanceTells state who op v v' outcome
  advance_tells (agrees_with d volume) alone outcome steps =
      let on = steps.serves d volume (λ not. not alone.flight alone.flies) in
      advances_tell d alone outcome on.flight on.flies (ap (λ (f : Flight). f.op) (one_op v.parts on.flight alone.flight on.flies alone.flies) ∙ alone.op_is)
      on.advances
  advance_tells (is_stopped is) alone outcome steps =
      let said = steps.stopped is.stopped in
      subst (AdvanceTells state who op v v') (sym said.0) (inl is.stopped, ap (λ (w : Volume D F). w.parts.history.items) said.1)

  -- no other answer comes
  pub begin_never : (outcome : Outcome) → BeginTells state who op v v' outcome → ((left : ℕ) → outcome ≡ told.Running left → ⊥)
      → ((reply : Reply) → outcome ≡ told.Done reply → ⊥) → ((waiting : ℕ) → outcome ≡ told.Released waiting → ⊥)
      → (outcome ≡ told.NoMemory → ⊥) → (outcome ≡ told.Stopped → ⊥) → ⊥
  begin_never (told.Running left) is running done released memory stopped = running left refl
  begin_never (told.Done reply) is running done released memory stopped = done reply refl
  begin_never (told.Busy holder) is running done released memory stopped = is
  begin_never (told.Released waiting) is running done released memory stopped = released waiting refl
  begin_never told.Idle is running done released memory stopped = is
  begin_never told.NotYours is running done released memory stopped = is
  begin_never told.NoMemory is running done released memory stopped = memory refl
  begin_never told.Stopped is running done released memory stopped = stopped refl

  pub advance_never : (outcome : Outcome) → AdvanceTells state who op v v' outcome → ((left : ℕ) → outcome ≡ told.Running left → ⊥)
      → ((reply : Reply) → outcome ≡ told.Done reply → ⊥) → (outcome ≡ told.Stopped → ⊥) → ⊥
  advance_never (told.Running left) is running done stopped = running left refl
  advance_never (told.Done reply) is running done stopped = done reply refl
  advance_never (told.Busy holder) is running done stopped = is
  advance_never (told.Released waiting) is running done stopped = is
  advance_never told.Idle is running done stopped = is
  advance_never told.NotYours is running done stopped = is
  advance_never told.NoMemory is running done stopped = is
  advance_never told.Stopped is running done stopped = stopped refl
