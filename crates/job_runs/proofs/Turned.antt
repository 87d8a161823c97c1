-- Whose turn comes next, and what is known of an event that does.
use Rattle.std.proofs.Common.{◌≡◌, ◌≢◌, ℕ, ◌<◌, ◌≤◌, Bool, true, false, List, [], ◌∷◌, ◌++◌, length, refl, ap, subst, ◌∙◌, arith}
use Rattle.std.specs.Prelude.{Option, Some, None, slice_get, if◌then◌else◌, ◌==◌, nat_lt}
use Rattle.std.proofs.lemmas.Bool.{eqb-true, eqb-false, ne_eqb, ltb-true, ltb-false}
use Rattle.std.proofs.lemmas.Option.{none-some, same_Some}
use Rattle.dn_model.specs.declared.op.Op.{Op}
use Rattle.dn_model.specs.declared.op.Entry.{Entry}
use Rattle.dn_core.specs.declared.event.Event.{Event}
use Rattle.dn_core.specs.declared.event.Event.TheVariants.{Begin, Advance, Daemon, Reclaim}
use Rattle.job_runs.specs.declared.plan.Order.{Order}
use Rattle.job_runs.specs.Turns.{Played, Upcoming, script_of, entries_of, next_op, begin_of, event_of}
use Rattle.job_runs.specs.Turns.{or_later, first_in, round_of, is_over, or_round, upcoming}
use Rattle.job_runs.specs.Scripts.{Rises}

-- a client that has nothing left begins the next operation of its script
pub record IsBeginTurn (scripts : List (ℕ × List Op)) (p : Played) (who : ℕ) (op : Op) : Type 0 where
  pub no_daemon : who ≢ 15
  pub no_reclaim : who ≢ 16
  pub none_left : p.left who ≡ 0
  pub next : next_op scripts p.entries who ≡ Some op

-- one that has goes on
pub record IsAdvanceTurn (p : Played) (who : ℕ) : Type 0 where
  pub no_daemon : who ≢ 15
  pub no_reclaim : who ≢ 16
  pub some_left : 0 < p.left who

abbrev pub IsTurn : List (ℕ × List Op) → Played → Event → Type 0
IsTurn scripts p (Begin who op) = IsBeginTurn scripts p who op
IsTurn scripts p (Advance who) = IsAdvanceTurn p who
IsTurn scripts p Daemon = Unit {0}
IsTurn scripts p Reclaim = Unit {0}

module _ (scripts : List (ℕ × List Op)) (p : Played) where
  turn_of : (who : ℕ) (event : Event) → event_of scripts p who ≡ Some event → IsTurn scripts p event
  turn_of who event is = by_daemon (who == 15) refl is
    where
      by_next : who ≢ 15 → who ≢ 16 → p.left who ≡ 0 → (o : Option Op) → next_op scripts p.entries who ≡ o → begin_of who o ≡ Some event
          → IsTurn scripts p event
      by_next no_daemon no_reclaim none None at e = absurd (none-some event e)
      by_next no_daemon no_reclaim none (Some op) at e = subst (IsTurn scripts p) (same_Some (Begin who op) event e)
          (record { no_daemon = no_daemon; no_reclaim = no_reclaim; none_left = none; next = at })

      by_left : who ≢ 15 → who ≢ 16 → (t : Bool) → nat_lt 0 (p.left who) ≡ t
          → (if t then Some (Advance who) else begin_of who (next_op scripts p.entries who)) ≡ Some event → IsTurn scripts p event
      by_left no_daemon no_reclaim true test e = subst (IsTurn scripts p) (same_Some (Advance who) event e)
          (record { no_daemon = no_daemon; no_reclaim = no_reclaim; some_left = ltb-true 0 (p.left who) test })
      by_left no_daemon no_reclaim false test e =
          let few = ltb-false 0 (p.left who) test in
          by_next no_daemon no_reclaim (omega (arith, few)) (next_op scripts p.entries who) refl e

      by_reclaim : who ≢ 15 → (t : Bool) → (who == 16) ≡ t
          → (if t then Some Reclaim else if nat_lt 0 (p.left who) then Some (Advance who) else begin_of who (next_op scripts p.entries who))
          ≡ Some event
          → IsTurn scripts p event
      by_reclaim no_daemon true test e = subst (IsTurn scripts p) (same_Some Reclaim event e) tt
      by_reclaim no_daemon false test e = by_left no_daemon (eqb-false who 16 test) (nat_lt 0 (p.left who)) refl e

      by_daemon : (t : Bool) → (who == 15) ≡ t
          → (if t then Some Daemon else if who == 16 then Some Reclaim else if nat_lt 0 (p.left who) then Some (Advance who)
          else begin_of who (next_op scripts p.entries who)) ≡ Some event
          → IsTurn scripts p event
      by_daemon true test e = subst (IsTurn scripts p) (same_Some Daemon event e) tt
      by_daemon false test e = by_reclaim (eqb-false who 15 test) (who == 16) refl e

  first_turn : (next : Upcoming) (idle : Bool) (due : List ℕ) → first_in scripts p idle due ≡ Some next → IsTurn scripts p next.event
  first_turn next idle [] is = absurd (none-some next is)
  first_turn next idle (who ∷ due) is = by (first_turn next idle due) (event_of scripts p who) refl is
    where
      by : (first_in scripts p idle due ≡ Some next → IsTurn scripts p next.event) → (o : Option Event) → event_of scripts p who ≡ o
          → or_later o due idle (first_in scripts p idle due) ≡ Some next → IsTurn scripts p next.event
      by later None at e = later e
      by later (Some event) at e =
          let same = same_Some (record { event = event; due = due; idle = idle }) next e in
          turn_of who next.event (at ∙ ap (λ (u : Upcoming). Some u.event) same)

  -- so it is with the next event of a run
  pub next_turn : (order : Order) (next : Upcoming) → upcoming order scripts p ≡ Some next → IsTurn scripts p next.event
  next_turn order next is = by (first_in scripts p p.idle p.due) refl (is_over order scripts p) is
    where
      by : (o : Option Upcoming) → first_in scripts p p.idle p.due ≡ o → (over : Bool)
          → or_round o over (first_in scripts p true (round_of order scripts)) ≡ Some next → IsTurn scripts p next.event
      by (Some first) at over e = first_turn next p.idle p.due (at ∙ e)
      by None at true e = absurd (none-some next e)
      by None at false e = first_turn next true (round_of order scripts) e

-- who has an operation in its script is a client
client_above : (low : ℕ) (scripts : List (ℕ × List Op)) (who k : ℕ) (op : Op) → Rises low scripts → slice_get (script_of scripts who) k ≡ Some op
    → (low < who) × (who ≤ 14)
client_above low [] who k op rises is = absurd (none-some op is)
client_above low (c ∷ cs) who k op rises is = by (client_above c.0 cs who k op rises.2) (c.0 == who) refl is
  where
    by : (slice_get (script_of cs who) k ≡ Some op → (c.0 < who) × (who ≤ 14)) → (t : Bool) → (c.0 == who) ≡ t
        → slice_get (if t then c.1 else script_of cs who) k ≡ Some op → (low < who) × (who ≤ 14)
    by later true test e =
        let same = eqb-true c.0 who test in
        let above = rises.0 in
        let few = rises.1 in
        (omega (arith, same, above), omega (arith, same, few))
    by later false test e =
        let rest = later e in
        let above = rises.0 in
        let more = rest.0 in
        (omega (arith, above, more), rest.1)

pub client_of : (scripts : List (ℕ × List Op)) (entries : List Entry) (who : ℕ) (op : Op) → Rises 0 scripts → next_op scripts entries who ≡ Some op
    → (0 < who) × (who ≤ 14)
client_of scripts entries who op rises is = client_above 0 scripts who (length (entries_of who entries)) op rises is

-- an entry of another client is none of this one's
pub other_entries : (who : ℕ) (entries : List Entry) (entry : Entry) → entry.who ≢ who
    → entries_of who (entries ++ entry ∷ []) ≡ entries_of who entries
other_entries who [] entry other = ap (λ (t : Bool). if t then entry ∷ [] else []) (ne_eqb entry.who who other)
other_entries who (e ∷ entries) entry other =
    ap (λ (rest : List Entry). if e.who == who then e ∷ rest else rest) (other_entries who entries entry other)
