-- Walks over scripts and over the turns that are due.
use Rattle.std.proofs.Common.{◌≡◌, ◌≢◌, ℕ, ◌+◌, ◌<◌, ◌≤◌, Bool, true, false, List, [], ◌∷◌, ◌++◌, length, get_or, drop, refl, sym, ◌∙◌, ap, subst, arith}
use Rattle.std.specs.Prelude.{Option, Some, None, IsSome, MatchOption, slice_get, if◌then◌else◌, ◌==◌, ◌&&◌}
use Rattle.std.proofs.lemmas.Bool.{ne_eqb}
use Rattle.std.proofs.lemmas.List.{drop_more}
use Rattle.std.proofs.lemmas.Option.{slice_get_past, slice_get-get_or}
use Rattle.std.specs.List.{HoldsAt}
use Rattle.std.specs.Option.{option_copied}
use denote.Bor.{Bor}
use Rattle.dn_model.specs.declared.op.Op.{Op}
use Rattle.dn_volume.specs.declared.outcome.Outcome.{Outcome}
use Rattle.dn_core.specs.declared.event.Event.{Event}
use Rattle.dn_core.specs.declared.event.Event.TheVariants.{Begin, Advance, Daemon, Reclaim}
use Rattle.dn_core.specs.Steps.{actor_of}
use Rattle.job_runs.specs.declared.plan.Order.{Order}
use Rattle.job_runs.specs.declared.turn.Turn.{Turn}
use Rattle.job_runs.specs.Turns.{Played, Upcoming, script_of, entries_of, next_op, is_answered, rest_after, is_idle, idle_after, after}
use Rattle.job_runs.specs.Scripts.{Rises}
use Rattle.job_runs.specs.Player.{Standing, IsPlayer, IsBefore, HasOp, HasPlace, Notes, answers_then, flights_then, noted, turn_for}
use Rattle.job_runs.proofs.Counting.{counts_beside, counts_then, op_there}

eqb_same : (a b : ℕ) → a ≡ b → (a == b) ≡ true
eqb_same a b is = grind arith

-- what a look-up by a number finds
pub copied_got : (o : Option (Bor Op)) (xs : List Op) (n : ℕ)
    → MatchOption o (length xs ≤ n) (λ (x : Bor Op). (n < length xs) × HoldsAt (λ (y : Op). x.now ≡ y) xs n) → option_copied o ≡ slice_get xs n
copied_got None xs n is = sym (slice_get_past xs n is)
copied_got (Some x) xs n is = sym (slice_get-get_or xs n x.now is.0 ∙ ap (λ (y : Op). Some y) (sym (is.1 x.now)))

module _ (scripts : List (ℕ × List Op)) (i : ℕ) (item : ℕ × List Op) (within : i < length scripts) (is : item ≡ get_or scripts i item) where
  here : drop i scripts ≡ item ∷ drop (i + 1) scripts
  here = drop_more scripts i item within ∙ ap (λ (c : ℕ × List Op). c ∷ drop (i + 1) scripts) (sym is)

  -- the first script of a client is its own
  pub found_script : (who : ℕ) → script_of (drop i scripts) who ≡ script_of scripts who → item.0 ≡ who → item.1 ≡ script_of scripts who
  found_script who rest own =
      sym (ap (λ (t : Bool). if t then item.1 else script_of (drop (i + 1) scripts) who) (eqb_same item.0 who own))
      ∙ sym (ap (λ (cs : List (ℕ × List Op)). script_of cs who) here) ∙ rest

  pub few_client : (low : ℕ) → Rises low (drop i scripts) → item.0 < 15
  few_client low rises = let few = (subst (Rises low) here rises).1 in omega (arith, few)

  pub rises_next : (low : ℕ) → Rises low (drop i scripts) → Rises item.0 (drop (i + 1) scripts)
  rises_next low rises = (subst (Rises low) here rises).2

  -- one more that is answered
  pub answered_next : (p : Played) → length (entries_of item.0 p.entries) ≡ length item.1
      → is_answered (drop (i + 1) scripts) p.entries ≡ is_answered (drop i scripts) p.entries
  answered_next p full =
      sym (ap (λ (t : Bool). t && is_answered (drop (i + 1) scripts) p.entries)
      (eqb_same (length (entries_of item.0 p.entries)) (length item.1) full))
      ∙ sym (ap (λ (cs : List (ℕ × List Op)). is_answered cs p.entries) here)

  -- and one that isn't
  pub answered_not : (p : Played) → (length (entries_of item.0 p.entries) ≢ length item.1)
      → is_answered (drop i scripts) p.entries ≡ false
  answered_not p part =
      ap (λ (cs : List (ℕ × List Op)). is_answered cs p.entries) here
      ∙ ap (λ (t : Bool). t && is_answered (drop (i + 1) scripts) p.entries) (ne_eqb (length (entries_of item.0 p.entries)) (length item.1) part)

-- an answer is noted
module _ (order : Order) (outcome : Outcome) (s : Standing) (rest : List ℕ) (scripts : List (ℕ × List Op)) (p : Played) where
  by_client : (next : Upcoming) (who : ℕ) → IsBefore p next s → IsSome (next_op scripts p.entries who) → who < 15
      → rest_after order next.event outcome ≡ rest → idle_after next.event outcome next.idle ≡ next.idle
      → IsPlayer (after order scripts p next who outcome)
      (record s { answered = answers_then who outcome s.answered; flying = flights_then who outcome s.flying; due = rest ++ s.due })
  by_client next who before some place rest_is idle_is =
      let op = op_there (next_op scripts p.entries who) some in
      record {
        counts = counts_then order scripts p next s.answered s.flying before.counts who place op.0 op.1 outcome;
        due = due_is;
        idle = before.idle ∙ sym idle_is;
      }
    where
      due_is : rest ++ s.due ≡ rest_after order next.event outcome ++ next.due
      due_is = ap (λ (xs : List ℕ). xs ++ s.due) (sym rest_is) ∙ ap (λ (xs : List ℕ). rest_after order next.event outcome ++ xs) before.due

  by_rest : (next : Upcoming) (who : ℕ) → IsBefore p next s → 15 ≤ who → who < 17
      → rest_after order next.event outcome ≡ rest → idle_after next.event outcome next.idle ≡ (next.idle && is_idle outcome)
      → IsPlayer (after order scripts p next who outcome) (record s { idle = s.idle && is_idle outcome; due = rest ++ s.due })
  by_rest next who before beyond few rest_is idle_is = record {
    counts = counts_beside order scripts p next s.answered s.flying before.counts who outcome beyond few;
    due = due_is;
    idle = ap (λ (t : Bool). t && is_idle outcome) before.idle ∙ sym idle_is;
  }
    where
      due_is : rest ++ s.due ≡ rest_after order next.event outcome ++ next.due
      due_is = ap (λ (xs : List ℕ). xs ++ s.due) (sym rest_is) ∙ ap (λ (xs : List ℕ). rest_after order next.event outcome ++ xs) before.due

  notes_event : (event : Event) (due : List ℕ) (idle : Bool) → IsBefore p (record { event = event; due = due; idle = idle }) s
      → HasOp scripts p event → HasPlace (turn_for event) s → rest_after order event outcome ≡ rest
      → IsPlayer (after order scripts p (record { event = event; due = due; idle = idle }) (actor_of event) outcome)
      (record (noted (turn_for event) outcome s) { due = rest ++ (noted (turn_for event) outcome s).due })
  notes_event (Begin who op) due idle before has place rest_is =
      by_client (record { event = Begin who op; due = due; idle = idle }) who before has place.0 rest_is refl
  notes_event (Advance who) due idle before has place rest_is =
      by_client (record { event = Advance who; due = due; idle = idle }) who before has place.0 rest_is refl
  notes_event Daemon due idle before has place rest_is =
      by_rest (record { event = Daemon; due = due; idle = idle }) 15 before (omega arith) (omega arith) rest_is refl
  notes_event Reclaim due idle before has place rest_is =
      by_rest (record { event = Reclaim; due = due; idle = idle }) 16 before (omega arith) (omega arith) rest_is refl

pub notes_by : (order : Order) (turn : Turn) (outcome : Outcome) (s : Standing) (rest : List ℕ) → HasPlace turn s
    → ((event : Event) → turn ≡ turn_for event → rest_after order event outcome ≡ rest)
    → Notes order turn outcome s (record (noted turn outcome s) { due = rest ++ (noted turn outcome s).due })
notes_by order turn outcome s rest place rest_is scripts p next before turn_is has =
    subst (λ (t : Turn). IsPlayer (after order scripts p next (actor_of next.event) outcome)
    (record (noted t outcome s) { due = rest ++ (noted t outcome s).due })) (sym turn_is)
    (notes_event order outcome s rest scripts p next.event next.due next.idle before has (subst (λ (t : Turn). HasPlace t s) turn_is place)
    (rest_is next.event turn_is))

-- where nothing is due behind it
pub notes_alone : (order : Order) (turn : Turn) (outcome : Outcome) (s : Standing) → HasPlace turn s
    → ((event : Event) → turn ≡ turn_for event → rest_after order event outcome ≡ []) → Notes order turn outcome s (noted turn outcome s)
notes_alone order turn outcome s place rest_is = notes_by order turn outcome s [] place rest_is
