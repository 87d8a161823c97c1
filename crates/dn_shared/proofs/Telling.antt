-- What an event tells the pass that makes it.
use Rattle.std.proofs.Common.{◌≡◌, ◌≢◌, ⊎_elim, ℕ, zero, suc, ◌-◌, ◌≤◌, Bool, true, false, List, [], ◌∷◌, ◌++◌, length, refl, sym, ◌∙◌, ap, subst, arith}
use Rattle.std.specs.Prelude.{Option, Some, None, ◌==◌}
use Rattle.std.proofs.lemmas.List.Elements.{filter-append}
use Rattle.pm_device.specs.State.{State}
use Rattle.dn_model.specs.Disk.{Disk}
use Rattle.dn_model.specs.Own.{Print}
use Rattle.dn_model.specs.declared.op.Op.{Op}
use Rattle.dn_model.specs.declared.op.Reply.{Reply}
use Rattle.dn_model.specs.declared.op.Entry.{Entry}
use Rattle.dn_volume.specs.declared.flight.Flight.{Flight}
use Rattle.dn_volume.specs.declared.outcome.Outcome.{Outcome}
use Rattle.dn_volume.specs.declared.outcome.Outcome.TheVariants as told
use Rattle.dn_volume.specs.declared.volume.Parts.{Parts}
use Rattle.dn_volume.specs.declared.volume.Volume.{Volume}
use Rattle.dn_volume.specs.Parties.{Flies, flight_of, flight_at}
use Rattle.dn_volume.proofs.Replaced.{flies_new}
use Rattle.dn_volume.specs.Flights.{left_of}
use Rattle.dn_volume.specs.Agrees.{Agrees, agrees_with, is_stopped}
use Rattle.dn_volume.specs.Events.{MovesOn, Breaks, Advances}
use Rattle.dn_volume.specs.Begins.{MayBegin, IsUntouched}
use Rattle.dn_volume.specs.Works.{Works, Stand, daemon_stand, DaemonLowers, reclaim_stand, ReclaimLowers}
use Rattle.dn_core.specs.declared.event.Event.{Event}
use Rattle.dn_core.specs.declared.event.Event.TheVariants.{Begin, Advance, Daemon, Reclaim}
use Rattle.dn_core.specs.Steps.{Steps, Serves, Opens, IsNotYours}
use Rattle.dn_core.proofs.Sounds.{yours_or_not}
use Rattle.count_board.specs.declared.told.Hand.TheVariants.{Fly, Gone}
use Rattle.count_board.specs.declared.view.Account.{Account}
use Rattle.count_board.specs.Told.{entries_by}
use Rattle.dn_shared.specs.declared.site.Site.{Site}
use Rattle.dn_shared.specs.Left.{has_left}
use Rattle.dn_shared.specs.Sites.{IsShared, told_of, hand_in, hand_of}
use Rattle.dn_shared.specs.Turns.{MayMake, Keeps, BeginTells, AdvanceTells, WorkTells, EventTells}
use Rattle.dn_shared.proofs.Hands.{of_flies, to_flies, ops_hands, flights_hands}
use Rattle.dn_shared.proofs.Stepped.{here_if}

clash_some : {A : Type 0} (x : A) → None ≡ Some x → ⊥
clash_some x e = cc

clash_gone : Some Gone ≡ None → ⊥
clash_gone e = cc

clash_fly : (op : Op) → Some (Fly op) ≡ None → ⊥
clash_fly op e = cc

fly_not_gone : (op : Op) → Some Gone ≡ Some (Fly op) → ⊥
fly_not_gone op e = cc

-- a number with nothing in hand
pub none_hand : (b : Bool) (o : Option Flight) → hand_of b o ≡ None → (b ≡ false) × (o ≡ None)
none_hand true o is = absurd (clash_gone is)
none_hand false None is = (refl, refl)
none_hand false (Some f) is = absurd (clash_fly f.op is)

-- and one with an operation in flight
fly_hand : (b : Bool) (o : Option Flight) (op : Op) → hand_of b o ≡ Some (Fly op) → (f : Flight) × (o ≡ Some f)
fly_hand true o op is = absurd (fly_not_gone op is)
fly_hand false None op is = absurd (clash_some (Fly op) is)
fly_hand false (Some f) op is = (f, refl)

-- nothing is in flight at a client's place
pub of_idle : (b : Parts) (who : ℕ) → 1 ≤ who → flight_at b.flights.items (who - 1) ≡ None → flight_of b who ≡ None
of_idle b zero some is = refl
of_idle b (suc k) some is = ap (flight_at b.flights.items) (omega arith) ∙ is

to_idle : (b : Parts) (who : ℕ) → 1 ≤ who → flight_of b who ≡ None → flight_at b.flights.items (who - 1) ≡ None
to_idle b zero some is = absurd (omega (arith, some))
to_idle b (suc k) some is = ap (flight_at b.flights.items) (omega arith) ∙ is

-- one entry more of a number
one_more : (n : ℕ) (es : List Entry) (e : Entry) → e.who ≡ n → entries_by n (es ++ e ∷ []) ≡ entries_by n es ++ e ∷ []
one_more n es e is = filter-append (λ (x : Entry). x.who == n) es (e ∷ []) ∙ ap (λ l. entries_by n es ++ l) (own n e is)
  where
    own : (n : ℕ) (e : Entry) → e.who ≡ n → entries_by n (e ∷ []) ≡ e ∷ []
    own n e is = grind (arith, is)

module _ {D F : Type 0} (state : D → State) (print : Print) (base x y : Site D F) (gone : y.gone.items ≡ x.gone.items)
    (shared : IsShared state print base x) (a b : Account)
    (calls : entries_by a.number (told_of x).entries ≡ a.calls) (hand : (told_of x).hand a.number ≡ a.hand)
    (calls_then : b.calls ≡ entries_by a.number (told_of y).entries) (hand_then : b.hand ≡ (told_of y).hand a.number) where
  abbrev n : ℕ
  n = a.number

  abbrev v : Volume D F
  v = x.volume

  abbrev w : Volume D F
  w = y.volume

  -- what a number has in hand if it hasn't left
  hand_now : b.hand ≡ hand_of (has_left x.gone.items n) (flight_of w.parts n)
  hand_now = hand_then ∙ ap (λ (l : List Bool). hand_of (has_left l n) (flight_of w.parts n)) gone

  keeps_by : w.parts.history.items ≡ v.parts.history.items → hand_in (flight_of w.parts n) ≡ hand_in (flight_of v.parts n) → Keeps a b
  keeps_by history same = (
    calls_then ∙ (ap (entries_by n) history ∙ calls),
    hand_now ∙ (by (has_left x.gone.items n) (flight_of w.parts n) (flight_of v.parts n) same ∙ hand),
  )
    where
      by : (c : Bool) (o' o : Option Flight) → hand_in o' ≡ hand_in o → hand_of c o' ≡ hand_of c o
      by true o' o same = refl
      by false o' o same = same

  keeps_same : w ≡ v → Keeps a b
  keeps_same same = keeps_by (ap (λ (u : Volume D F). u.parts.history.items) same)
      (ap (λ (u : Volume D F). hand_in (flight_of u.parts n)) same)

  keeps_moves : (d : Disk) (who : ℕ) → MovesOn state print who v w d → Keeps a b
  keeps_moves d who m = keeps_by m.history (ops_hands v.parts w.parts m.ops n)

  keeps_breaks : (d : Disk) (who : ℕ) (answers : Option Op) → Breaks state print who answers v w d → Keeps a b
  keeps_breaks d who answers m = keeps_by m.history (ops_hands v.parts w.parts m.ops n)

  keeps_untouched : (d : Disk) → IsUntouched state v w d → Keeps a b
  keeps_untouched d un = keeps_by un.history (flights_hands v.parts w.parts un.same.flights n)

  answered_by_one : (op : Op) (reply : Reply) (entry : Entry) → w.parts.history.items ≡ v.parts.history.items ++ entry ∷ []
      → entry.who ≡ n → entry.op ≡ op → entry.reply ≡ reply
      → b.calls ≡ a.calls ++ record { who = n; op = op; reply = reply } ∷ []
  answered_by_one op reply entry history who_is op_is reply_is =
      let entry_is : entry ≡ record { who = n; op = op; reply = reply } =
      λ i. record { who = who_is i; op = op_is i; reply = reply_is i } in
      calls_then ∙ (ap (entries_by n) history ∙ (one_more n v.parts.history.items entry who_is
      ∙ (ap (λ (l : List Entry). l ++ entry ∷ []) calls ∙ ap (λ (e : Entry). a.calls ++ e ∷ []) entry_is)))

  -- the client is here
  module _ (here : a.hand ≢ Some Gone) where
    not_left : has_left x.gone.items n ≡ false
    not_left = here_if (has_left x.gone.items n) (flight_of v.parts n) (λ left. here (sym hand ∙ left))

    was : a.hand ≡ hand_in (flight_of v.parts n)
    was = sym hand ∙ ap (λ (c : Bool). hand_of c (flight_of v.parts n)) not_left

    is_now : b.hand ≡ hand_in (flight_of w.parts n)
    is_now = hand_now ∙ ap (λ (c : Bool). hand_of c (flight_of w.parts n)) not_left

    module _ (some : 1 ≤ n) (d : Disk) where
      opens_tells : (op : Op) (outcome : Outcome) → MayBegin v.parts n → Opens state print n op v w d outcome → BeginTells op a b outcome
      opens_tells op outcome may is = by outcome is
        where
          idle : a.hand ≡ None
          idle = was ∙ ap hand_in (of_idle v.parts n some may.idle)

          by : (outcome : Outcome) → Opens state print n op v w d outcome → BeginTells op a b outcome
          by (told.Running left) is = (
            calls_then ∙ (ap (entries_by n) is.history ∙ calls),
            is_now ∙ (ap hand_in (of_flies w.parts n is.flight
                (flies_new n is.opens.client None (Some is.flight) v.parts w.parts is.opens.replaces is.flight refl))
                ∙ ap (λ (o : Op). Some (Fly o)) is.opens.op_is),
            idle,
          )
          by (told.Done reply) is = (
            (
              answered_by_one op reply is.entry is.history is.who_is is.op_is is.reply_is,
              is_now ∙ (flights_hands v.parts w.parts is.same.flights n ∙ (sym was ∙ idle)),
            ),
            idle,
          )
          by (told.Busy holder) is = (keeps_untouched d is.0, idle)
          by (told.Released left) is = (keeps_moves d 16 is.moves, idle)
          by told.Idle is = absurd is
          by told.NotYours is = absurd is
          by told.NoMemory is = (keeps_untouched d is.0, idle)
          by told.Stopped is = keeps_breaks d 16 None is.breaks

      advances_tells : (f : Flight) (left : ℕ) (outcome : Outcome) → Flies v.parts n f → Advances state print n f.op left v w d outcome
          → AdvanceTells a b outcome
      advances_tells f left (told.Running m) flies is = keeps_moves d n is.0
      advances_tells f left (told.Done reply) flies is = let done = is.0 in (
        f.op,
        was ∙ ap hand_in (of_flies v.parts n f flies),
        (
          answered_by_one f.op reply done.entry done.history done.who_is done.op_is done.reply_is,
          is_now ∙ ap hand_in (of_idle w.parts n some done.replaces.now),
        ),
      )
      advances_tells f left (told.Busy holder) flies is = absurd is
      advances_tells f left (told.Released waiting) flies is = absurd is
      advances_tells f left told.Idle flies is = absurd is
      advances_tells f left told.NotYours flies is = absurd is
      advances_tells f left told.NoMemory flies is = absurd is
      advances_tells f left told.Stopped flies is = keeps_breaks d n _ is

  works_tells : (d : Disk) (who : ℕ) (stand : Stand) (lowers : Parts → Parts → ℕ → Type 0) (outcome : Outcome)
      → Works state print who stand lowers v w d outcome → WorkTells a b outcome
  works_tells d who stand lowers (told.Running left) is = keeps_moves d who is.0
  works_tells d who stand lowers (told.Done reply) is = absurd is
  works_tells d who stand lowers (told.Busy holder) is = keeps_untouched d is.0
  works_tells d who stand lowers (told.Released waiting) is = absurd is
  works_tells d who stand lowers told.Idle is = keeps_untouched d is.0
  works_tells d who stand lowers told.NotYours is = absurd is
  works_tells d who stand lowers told.NoMemory is = keeps_untouched d is.0
  works_tells d who stand lowers told.Stopped is = keeps_breaks d who None is.0

  serves_tells : (d : Disk) (event : Event) (outcome : Outcome) → MayMake (length base.gone.items) a event
      → Serves state print event v w d outcome → EventTells event a b outcome
  serves_tells d (Begin who op) outcome may is =
      let some : 1 ≤ n = subst (λ (k : ℕ). 1 ≤ k) may.own may.some in
      opens_tells may.here some d op outcome (subst (MayBegin v.parts) may.own is.0)
      (subst (λ (k : ℕ). Opens state print k op v w d outcome) may.own is.1)
  serves_tells d (Advance who) outcome may is =
      let some : 1 ≤ n = subst (λ (k : ℕ). 1 ≤ k) may.own may.some in
      advances_tells may.here some d is.flight (left_of is.flight) outcome
      (subst (λ (k : ℕ). Flies v.parts k is.flight) may.own is.flies)
      (subst (λ (k : ℕ). Advances state print k is.flight.op (left_of is.flight) v w d outcome) may.own is.advances)
  serves_tells d Daemon outcome may is = works_tells d 15 (daemon_stand d v.parts) DaemonLowers outcome is
  serves_tells d Reclaim outcome may is = works_tells d 16 (reclaim_stand v.parts) ReclaimLowers outcome is

  -- a stopped volume answers so
  stopped_tells : (event : Event) → Keeps a b → EventTells event a b told.Stopped
  stopped_tells (Begin who op) keeps = keeps
  stopped_tells (Advance who) keeps = keeps
  stopped_tells Daemon keeps = keeps
  stopped_tells Reclaim keeps = keeps

  not_yours_tells : (event : Event) → MayMake (length base.gone.items) a event → IsNotYours v.parts event → Keeps a b
      → EventTells event a b told.NotYours
  not_yours_tells (Begin who op) may not keeps = (keeps, λ idle. not (may_begin idle))
    where
      may_begin : a.hand ≡ None → MayBegin v.parts who
      may_begin idle =
          let few = may.few in let long = shared.clients in let least = shared.few in record {
            some = may.some;
            few = omega (arith, few, long, least);
            idle = to_idle v.parts who may.some (subst (λ (k : ℕ). flight_of v.parts k ≡ None) (sym may.own)
                (none_hand (has_left x.gone.items n) (flight_of v.parts n) (hand ∙ idle)).1);
          }
  not_yours_tells (Advance who) may not keeps = (keeps, λ op is. absurd (flew op is))
    where
      flew : (op : Op) → a.hand ≡ Some (Fly op) → ⊥
      flew op is = let f = fly_hand (has_left x.gone.items n) (flight_of v.parts n) op (hand ∙ is) in
          not f.0 (to_flies v.parts who f.0 (subst (λ (k : ℕ). flight_of v.parts k ≡ Some f.0) (sym may.own) f.1))
  not_yours_tells Daemon may not keeps = absurd not
  not_yours_tells Reclaim may not keeps = absurd not

  pub tells : (event : Event) (outcome : Outcome) → MayMake (length base.gone.items) a event → Steps state print event v w outcome
      → EventTells event a b outcome
  tells event outcome may steps = by shared.agrees
    where
      by : Agrees state v → EventTells event a b outcome
      by (is_stopped is) = let e = steps.stopped is.stopped in
          subst (EventTells event a b) (sym e.0) (stopped_tells event (keeps_same e.1))
      by (agrees_with d volume) = ⊎_elim (λ (not : IsNotYours v.parts event). let e = steps.not_yours volume.running not in
          subst (EventTells event a b) (sym e.0) (not_yours_tells event may not (keeps_same e.1)))
          (λ yours. serves_tells d event outcome may (steps.serves d volume yours)) (yours_or_not v.parts event)
