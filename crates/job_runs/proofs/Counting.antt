-- What a player's counts say of a run, and that an answer keeps them so.
use Rattle.std.proofs.Common.{◌≡◌, ◌≢◌, ◌⊎◌, inl, inr, ℕ, suc, ◌+◌, ◌<◌, ◌≤◌, Bool, true, false, List, [], ◌∷◌, ◌++◌, length, get_or, set, refl, sym, ◌∙◌, ap, subst, arith, append-nil}
use Rattle.std.specs.Prelude.{Option, Some, None, IsSome, if◌then◌else◌, ◌==◌, nat_lt}
use Rattle.std.proofs.lemmas.Bool.{cases_eq, ne_eqb}
use Rattle.std.proofs.lemmas.List.{length-set, length-append, get_or-set_same, get_or-set_other}
use Rattle.dn_model.specs.declared.op.Op.{Op}
use Rattle.dn_model.specs.declared.op.Entry.{Entry}
use Rattle.dn_model.specs.declared.op.Reply.{Reply}
use Rattle.dn_volume.specs.declared.outcome.Outcome.{Outcome}
use Rattle.dn_volume.specs.declared.outcome.Outcome.TheVariants as told
use Rattle.dn_core.specs.declared.event.Event.TheVariants.{Advance, Daemon, Reclaim}
use Rattle.job_runs.specs.declared.plan.Order.{Order}
use Rattle.job_runs.specs.Turns.{Played, Upcoming, entries_of, next_op, begin_of, event_of, set_left, entry_for, entry_after, left_after, after}
use Rattle.job_runs.specs.Scripts.{Rises}
use Rattle.job_runs.specs.Player.{HasCounts, answers_then, flights_then}
use Rattle.job_runs.proofs.Turned.{client_of, other_entries}

-- the operation that there is
pub op_there : (o : Option Op) → IsSome o → (op : Op) × (o ≡ Some op)
op_there None some = cc
op_there (Some op) some = (op, refl)

-- an entry more of this client's
own_entries : (who : ℕ) (entries : List Entry) (entry : Entry) → entry.who ≡ who
    → length (entries_of who (entries ++ entry ∷ [])) ≡ length (entries_of who entries) + 1
own_entries who [] entry own = ap (λ (t : Bool). length (if t then entry ∷ [] else [])) (eqb_same entry.who who own)
  where
    eqb_same : (a b : ℕ) → a ≡ b → (a == b) ≡ true
    eqb_same a b same = grind arith
own_entries who (e ∷ entries) entry own = by (e.who == who) (own_entries who entries entry own)
  where
    by : (t : Bool) → length (entries_of who (entries ++ entry ∷ [])) ≡ length (entries_of who entries) + 1
        → length (if t then e ∷ entries_of who (entries ++ entry ∷ []) else entries_of who (entries ++ entry ∷ []))
        ≡ length (if t then e ∷ entries_of who entries else entries_of who entries) + 1
    by true later = omega (arith, later)
    by false later = later

-- what an actor that is neither the daemon nor reclaim does in its turn
module _ (scripts : List (ℕ × List Op)) (p : Played) (who : ℕ) (no_daemon : who ≢ 15) (no_reclaim : who ≢ 16) where
  client_turn : event_of scripts p who ≡ (if nat_lt 0 (p.left who) then Some (Advance who) else begin_of who (next_op scripts p.entries who))
  client_turn = by (who == 15) (who == 16) (ne_eqb who 15 no_daemon) (ne_eqb who 16 no_reclaim)
    where
      by : (s t : Bool) → s ≡ false → t ≡ false
          → (if s then Some Daemon else if t then Some Reclaim else if nat_lt 0 (p.left who) then Some (Advance who)
          else begin_of who (next_op scripts p.entries who))
          ≡ (if nat_lt 0 (p.left who) then Some (Advance who) else begin_of who (next_op scripts p.entries who))
      by true t e f = cc
      by false true e f = cc
      by false false e f = refl

  pub advance_is : nat_lt 0 (p.left who) ≡ true → event_of scripts p who ≡ Some (Advance who)
  advance_is flies =
      client_turn ∙ ap (λ (t : Bool). if t then Some (Advance who) else begin_of who (next_op scripts p.entries who)) flies

  pub begin_is : nat_lt 0 (p.left who) ≡ false → (o : Option Op) → next_op scripts p.entries who ≡ o → event_of scripts p who ≡ begin_of who o
  begin_is flies o next =
      client_turn ∙ ap (λ (t : Bool). if t then Some (Advance who) else begin_of who (next_op scripts p.entries who)) flies ∙ ap (begin_of who) next

  -- nobody there is a client
  pub outside_none : Rises 0 scripts → 17 ≤ who → p.left who ≡ 0 → event_of scripts p who ≡ None
  outside_none rises far none = begin_is (ap (nat_lt 0) none) None (by (next_op scripts p.entries who) refl)
    where
      by : (o : Option Op) → next_op scripts p.entries who ≡ o → o ≡ None
      by None is = refl
      by (Some op) is = let few = (client_of scripts p.entries who op rises is).1 in absurd (omega (arith, far, few))

set_same : (who n : ℕ) (left : ℕ → ℕ) (q : ℕ) → q ≡ who → set_left who n left q ≡ n
set_same who n left q same = by (q == who) (eqb_same q who same)
  where
    eqb_same : (a b : ℕ) → a ≡ b → (a == b) ≡ true
    eqb_same a b is = grind arith

    by : (t : Bool) → t ≡ true → (if t then n else left q) ≡ n
    by true e = refl
    by false e = cc

set_other : (who n : ℕ) (left : ℕ → ℕ) (q : ℕ) → q ≢ who → set_left who n left q ≡ left q
set_other who n left q other = ap (λ (t : Bool). if t then n else left q) (ne_eqb q who other)

-- what others have left stays
left_other : (who : ℕ) (outcome : Outcome) (left : ℕ → ℕ) (q : ℕ) → q ≢ who → left_after who outcome left q ≡ left q
left_other who (told.Running n) left q other = set_other who n left q other
left_other who (told.Done reply) left q other = set_other who 0 left q other
left_other who (told.Busy holder) left q other = refl
left_other who (told.Released waiting) left q other = refl
left_other who told.Idle left q other = set_other who 0 left q other
left_other who told.NotYours left q other = refl
left_other who told.NoMemory left q other = refl
left_other who told.Stopped left q other = refl

-- and so do their entries
entries_other : (scripts : List (ℕ × List Op)) (p : Played) (who : ℕ) (outcome : Outcome) (q : ℕ) → q ≢ who
    → entries_of q (p.entries ++ entry_after scripts p who outcome) ≡ entries_of q p.entries
entries_other scripts p who outcome q other = by outcome
  where
    none : entries_of q (p.entries ++ []) ≡ entries_of q p.entries
    none = ap (entries_of q) (append-nil p.entries)

    by_op : (reply : Reply) (o : Option Op) → entries_of q (p.entries ++ entry_for who reply o) ≡ entries_of q p.entries
    by_op reply None = none
    by_op reply (Some op) = other_entries q p.entries (record { who = who; op = op; reply = reply }) (λ e. other (sym e))

    by : (o : Outcome) → entries_of q (p.entries ++ entry_after scripts p who o) ≡ entries_of q p.entries
    by (told.Running n) = none
    by (told.Done reply) = by_op reply (next_op scripts p.entries who)
    by (told.Busy holder) = none
    by (told.Released waiting) = none
    by told.Idle = none
    by told.NotYours = none
    by told.NoMemory = none
    by told.Stopped = none

-- an answer adds one entry at most
pub few_entries : (scripts : List (ℕ × List Op)) (p : Played) (who : ℕ) (outcome : Outcome)
    → length (p.entries ++ entry_after scripts p who outcome) ≤ length p.entries + 1
few_entries scripts p who outcome = by outcome
  where
    none : length (p.entries ++ []) ≤ length p.entries + 1
    none = let same = ap length (append-nil p.entries) in omega (arith, same)

    by_op : (reply : Reply) (o : Option Op) → length (p.entries ++ entry_for who reply o) ≤ length p.entries + 1
    by_op reply None = none
    by_op reply (Some op) =
        let more = length-append p.entries (record { who = who; op = op; reply = reply } ∷ []) in omega (arith, more)

    by : (o : Outcome) → length (p.entries ++ entry_after scripts p who o) ≤ length p.entries + 1
    by (told.Running n) = none
    by (told.Done reply) = by_op reply (next_op scripts p.entries who)
    by (told.Busy holder) = none
    by (told.Released waiting) = none
    by told.Idle = none
    by told.NotYours = none
    by told.NoMemory = none
    by told.Stopped = none

-- a client has no more entries than there are
pub few_own : (who : ℕ) (entries : List Entry) → length (entries_of who entries) ≤ length entries
few_own who [] = omega arith
few_own who (e ∷ entries) = by (e.who == who) (few_own who entries)
  where
    by : (t : Bool) → length (entries_of who entries) ≤ length entries
        → length (if t then e ∷ entries_of who entries else entries_of who entries) ≤ suc (length entries)
    by true less = omega (arith, less)
    by false less = omega (arith, less)

module _ (order : Order) (scripts : List (ℕ × List Op)) (p : Played) (up : Upcoming) (answered : List ℕ) (flying : List Bool)
    (counts : HasCounts p answered flying) (who : ℕ) where
  -- an answer to the daemon or to reclaim
  pub counts_beside : (outcome : Outcome) → 15 ≤ who → who < 17 → HasCounts (after order scripts p up who outcome) answered flying
  counts_beside outcome beyond few = record {
    places = counts.places;
    seats = counts.seats;
    answers = λ q place. counts.answers q place
        ∙ sym (ap length (entries_other scripts p who outcome q (λ e. omega (arith, beyond, place, e))));
    flights = λ q place. counts.flights q place
        ∙ sym (ap (nat_lt 0) (left_other who outcome p.left q (λ e. omega (arith, beyond, place, e))));
    outside = λ q far. left_other who outcome p.left q (λ e. omega (arith, few, far, e)) ∙ counts.outside q far;
  }

  -- an answer to a client
  module _ (place : who < 15) (op : Op) (next : next_op scripts p.entries who ≡ Some op) where
    put_flight : (n q : ℕ) → q < 15 → get_or (set flying who (nat_lt 0 n)) q false ≡ nat_lt 0 (set_left who n p.left q)
    put_flight n q few = by (cases_eq q who)
      where
        within : who < length flying
        within = let many = counts.seats in omega (arith, place, many)

        by : (q ≡ who) ⊎ (q ≢ who) → get_or (set flying who (nat_lt 0 n)) q false ≡ nat_lt 0 (set_left who n p.left q)
        by (inl same) = subst (λ (k : ℕ). get_or (set flying who (nat_lt 0 n)) k false ≡ nat_lt 0 (set_left who n p.left k)) (sym same)
            (get_or-set_same flying who (nat_lt 0 n) false within ∙ sym (ap (nat_lt 0) (set_same who n p.left who refl)))
        by (inr other) = get_or-set_other flying who q (nat_lt 0 n) false other ∙ counts.flights q few
            ∙ sym (ap (nat_lt 0) (set_other who n p.left q other))

    put_answer : (reply : Reply) (q : ℕ) → q < 15 → get_or (set answered who (get_or answered who 0 + 1)) q 0
        ≡ length (entries_of q (p.entries ++ entry_for who reply (next_op scripts p.entries who)))
    put_answer reply q few = by (cases_eq q who) ∙ sym (ap (λ (o : Option Op). length (entries_of q (p.entries ++ entry_for who reply o))) next)
      where
        within : who < length answered
        within = let many = counts.places in omega (arith, place, many)

        by : (q ≡ who) ⊎ (q ≢ who) → get_or (set answered who (get_or answered who 0 + 1)) q 0
            ≡ length (entries_of q (p.entries ++ record { who = who; op = op; reply = reply } ∷ []))
        by (inl same) = subst (λ (k : ℕ). get_or (set answered who (get_or answered who 0 + 1)) k 0
            ≡ length (entries_of k (p.entries ++ record { who = who; op = op; reply = reply } ∷ []))) (sym same)
            (get_or-set_same answered who (get_or answered who 0 + 1) 0 within ∙ ap (λ (n : ℕ). n + 1) (counts.answers who place)
            ∙ sym (own_entries who p.entries (record { who = who; op = op; reply = reply }) refl))
        by (inr other) = get_or-set_other answered who q (get_or answered who 0 + 1) 0 other ∙ counts.answers q few
            ∙ sym (ap length (other_entries q p.entries (record { who = who; op = op; reply = reply }) (λ e. other (sym e))))

    kept_answers : (q : ℕ) → q < 15 → get_or answered q 0 ≡ length (entries_of q (p.entries ++ []))
    kept_answers q few = counts.answers q few ∙ sym (ap (λ (es : List Entry). length (entries_of q es)) (append-nil p.entries))

    apart : (q : ℕ) → 17 ≤ q → q ≢ who
    apart q far e = omega (arith, place, far, e)

    outside_set : (n q : ℕ) → 17 ≤ q → set_left who n p.left q ≡ 0
    outside_set n q far = set_other who n p.left q (apart q far) ∙ counts.outside q far

    many_set : (n : ℕ) → length (set flying who (nat_lt 0 n)) ≡ 15
    many_set n = length-set flying who (nat_lt 0 n) ∙ counts.seats

    pub counts_then : (outcome : Outcome)
        → HasCounts (after order scripts p up who outcome) (answers_then who outcome answered) (flights_then who outcome flying)
    counts_then (told.Running n) = record {
      places = counts.places;
      seats = many_set n;
      answers = kept_answers;
      flights = put_flight n;
      outside = outside_set n;
    }
    counts_then (told.Done reply) = record {
      places = length-set answered who (get_or answered who 0 + 1) ∙ counts.places;
      seats = many_set 0;
      answers = put_answer reply;
      flights = put_flight 0;
      outside = outside_set 0;
    }
    counts_then (told.Busy holder) = record {
      places = counts.places;
      seats = counts.seats;
      answers = kept_answers;
      flights = counts.flights;
      outside = counts.outside;
    }
    counts_then (told.Released waiting) = record {
      places = counts.places;
      seats = counts.seats;
      answers = kept_answers;
      flights = counts.flights;
      outside = counts.outside;
    }
    counts_then told.Idle = record {
      places = counts.places;
      seats = many_set 0;
      answers = kept_answers;
      flights = put_flight 0;
      outside = outside_set 0;
    }
    counts_then told.NotYours = record {
      places = counts.places;
      seats = counts.seats;
      answers = kept_answers;
      flights = counts.flights;
      outside = counts.outside;
    }
    counts_then told.NoMemory = record {
      places = counts.places;
      seats = counts.seats;
      answers = kept_answers;
      flights = counts.flights;
      outside = counts.outside;
    }
    counts_then told.Stopped = record {
      places = counts.places;
      seats = counts.seats;
      answers = kept_answers;
      flights = counts.flights;
      outside = counts.outside;
    }
