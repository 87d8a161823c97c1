-- Once nothing is next, no script has an operation left.
use Rattle.std.proofs.Common.{◌≡◌, inl, inr, ℕ, Bool, true, false, List, [], ◌∷◌, ◌++◌, length, refl, sym, ◌∙◌, ap, subst, arith}
use Rattle.std.specs.Prelude.{Option, Some, None, slice_get, if◌then◌else◌, ◌==◌, ◌&&◌, nat_lt}
use Rattle.std.proofs.lemmas.Bool.{eqb-true}
use Rattle.std.proofs.lemmas.Option.{slice_get_past}
use Rattle.dn_model.specs.declared.op.Op.{Op}
use Rattle.dn_model.specs.declared.op.Entry.{Entry}
use Rattle.dn_core.specs.declared.event.Event.{Event}
use Rattle.dn_core.specs.declared.event.Event.TheVariants.{Advance}
use Rattle.job_runs.specs.declared.plan.Order.{Order}
use Rattle.job_runs.specs.declared.plan.Order.TheVariants.{Alone, InTurns, WithRest}
use Rattle.job_runs.specs.Turns.{
  Played,
  Upcoming,
  script_of,
  entries_of,
  next_op,
  begin_of,
  event_of,
  or_later,
  first_in,
  is_answered,
  numbers_in,
  round_of,
  is_over,
  or_round,
  upcoming,
}
use Rattle.job_runs.specs.Scripts.{IsAlone, Suits}

both_true : (a b : Bool) → (a && b) ≡ true → (a ≡ true) × (b ≡ true)
both_true true b is = (refl, is)
both_true false b is = absurd (apart is)
  where
    apart : false ≡ true → ⊥
    apart e = cc

-- a script whose operations are answered has no next one
answered_none : (scripts : List (ℕ × List Op)) (entries : List Entry) (who : ℕ) → is_answered scripts entries ≡ true
    → next_op scripts entries who ≡ None
answered_none [] entries who is = refl
answered_none (c ∷ cs) entries who is =
    let parts = both_true (length (entries_of c.0 entries) == length c.1) (is_answered cs entries) is in
    by (answered_none cs entries who parts.1) (eqb-true (length (entries_of c.0 entries)) (length c.1) parts.0) (c.0 == who) refl
  where
    by : next_op cs entries who ≡ None → length (entries_of c.0 entries) ≡ length c.1 → (t : Bool) → (c.0 == who) ≡ t
        → slice_get (if t then c.1 else script_of cs who) (length (entries_of who entries)) ≡ None
    by later full true test =
        let same = ap (λ (w : ℕ). length (entries_of w entries)) (eqb-true c.0 who test) in
        slice_get_past c.1 (length (entries_of who entries)) (omega (arith, same, full))
    by later full false test = later

module _ (scripts : List (ℕ × List Op)) (p : Played) where
  -- in a round of all, the daemon always comes
  never_none : (clients rest : List ℕ) → first_in scripts p true (clients ++ 15 ∷ rest) ≡ None → ⊥
  never_none [] rest is = cc
  never_none (who ∷ clients) rest is = by (never_none clients rest) (event_of scripts p who) is
    where
      by : (first_in scripts p true (clients ++ 15 ∷ rest) ≡ None → ⊥) → (o : Option Event)
          → or_later o (clients ++ 15 ∷ rest) true (first_in scripts p true (clients ++ 15 ∷ rest)) ≡ None → ⊥
      by later None e = later e
      by later (Some event) e = cc

  -- client 1 has nothing to do
  first_none : first_in scripts p true (1 ∷ []) ≡ None → next_op scripts p.entries 1 ≡ None
  first_none is = by_left (nat_lt 0 (p.left 1)) is
    where
      by_next : (o : Option Op) → or_later (begin_of 1 o) [] true None ≡ None → o ≡ None
      by_next None e = refl
      by_next (Some op) e = cc

      by_left : (t : Bool) → or_later (if t then Some (Advance 1) else begin_of 1 (next_op scripts p.entries 1)) [] true None ≡ None
          → next_op scripts p.entries 1 ≡ None
      by_left true e = cc
      by_left false e = by_next (next_op scripts p.entries 1) e

  -- and nobody else has a script
  alone_none : IsAlone scripts → next_op scripts p.entries 1 ≡ None → (who : ℕ) → next_op scripts p.entries who ≡ None
  alone_none (inl is) first who = ap (λ (cs : List (ℕ × List Op)). next_op cs p.entries who) is
  alone_none (inr (own, is)) first who = ap (λ (cs : List (ℕ × List Op)). next_op cs p.entries who) is ∙ by (1 == who) refl
    where
      by : (t : Bool) → (1 == who) ≡ t → slice_get (if t then own else []) (length (entries_of who p.entries)) ≡ None
      by true test =
          let same = eqb-true 1 who test in
          subst (λ (w : ℕ). slice_get own (length (entries_of w p.entries)) ≡ None) same
          (sym (ap (λ (cs : List (ℕ × List Op)). next_op cs p.entries 1) is) ∙ first)
      by false test = refl

  over_answers : (order : Order) → is_over order scripts p ≡ true → is_answered scripts p.entries ≡ true
  over_answers Alone is = is
  over_answers InTurns is = (both_true (is_answered scripts p.entries) p.idle is).0
  over_answers WithRest is = is

  round_none : (order : Order) → Suits order scripts → first_in scripts p true (round_of order scripts) ≡ None → (who : ℕ)
      → next_op scripts p.entries who ≡ None
  round_none Alone alone is who = alone_none alone (first_none is) who
  round_none InTurns suits is who = absurd (never_none (numbers_in scripts) (16 ∷ []) is)
  round_none WithRest alone is who = alone_none alone (first_none is) who

  pub over_none : (order : Order) → Suits order scripts → upcoming order scripts p ≡ None → (who : ℕ) → next_op scripts p.entries who ≡ None
  over_none order suits is who = by (first_in scripts p p.idle p.due) (is_over order scripts p) refl is
    where
      by : (o : Option Upcoming) (over : Bool) → is_over order scripts p ≡ over
          → or_round o over (first_in scripts p true (round_of order scripts)) ≡ None → next_op scripts p.entries who ≡ None
      by (Some first) over at e = cc
      by None true at e = answered_none scripts p.entries who (over_answers order at)
      by None false at e = round_none order suits e who
