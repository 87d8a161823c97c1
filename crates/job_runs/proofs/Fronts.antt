-- What was played is the front of each script, and all of it once nothing is next.
use Rattle.std.proofs.Common.{◌≡◌, ◌≢◌, ◌⊎◌, inl, inr, ℕ, zero, suc, ◌<◌, Bool, true, false, List, [], ◌∷◌, ◌++◌, length, get_or, refl, sym, ◌∙◌, ap, subst, arith, append-nil}
use Rattle.std.specs.Prelude.{Option, Some, None, Contains, slice_get, if◌then◌else◌, ◌==◌}
use Rattle.std.proofs.lemmas.Bool.{cases_eq, eqb-true, eq-eqb}
use Rattle.std.proofs.lemmas.List.{append_assoc, map-append}
use Rattle.std.proofs.lemmas.Option.{none-some}
use Rattle.dn_model.specs.declared.op.Op.{Op}
use Rattle.dn_model.specs.declared.op.Entry.{Entry}
use Rattle.dn_model.specs.declared.op.Reply.{Reply}
use Rattle.dn_volume.specs.declared.outcome.Outcome.{Outcome}
use Rattle.dn_volume.specs.declared.outcome.Outcome.TheVariants as told
use Rattle.dn_core.specs.Steps.{actor_of}
use Rattle.job_runs.specs.Turns.{Played, script_of, entries_of, next_op, numbers_in, entry_for, entry_after}
use Rattle.job_runs.specs.Plays.{at_first, then_next}
use Rattle.job_runs.specs.Scripts.{ops_of, IsFront}
use Rattle.job_runs.specs.Laws.{PlaysAreFronts, WholePlaysAreScripted, NextOpsFollow, EntriesAreOfClients}
use Rattle.job_runs.proofs.Turned.{other_entries}
use Rattle.job_runs.proofs.Ending.{over_none}

-- what stands behind a front
next_at : (es : List Entry) (rest : List Op) (op : Op) → slice_get (ops_of es ++ rest) (length es) ≡ Some op → (more : List Op) × (rest ≡ op ∷ more)
next_at [] [] op is = absurd (none-some op is)
next_at [] (first ∷ more) op is = let same : first ≡ op = cc in (more, ap (λ (o : Op). o ∷ more) same)
next_at (e ∷ es) rest op is = next_at es rest op is

none_at : (es : List Entry) (rest : List Op) → slice_get (ops_of es ++ rest) (length es) ≡ None → rest ≡ []
none_at [] [] is = refl
none_at [] (first ∷ more) is = cc
none_at (e ∷ es) rest is = none_at es rest is

own_more : (who : ℕ) (es : List Entry) (e : Entry) → e.who ≡ who → entries_of who (es ++ e ∷ []) ≡ entries_of who es ++ e ∷ []
own_more who [] e own = ap (λ (t : Bool). if t then e ∷ [] else []) (eq-eqb e.who who own)
own_more who (x ∷ es) e own = by (x.who == who) (own_more who es e own)
  where
    by : (t : Bool) → entries_of who (es ++ e ∷ []) ≡ entries_of who es ++ e ∷ []
        → (if t then x ∷ entries_of who (es ++ e ∷ []) else entries_of who (es ++ e ∷ []))
        ≡ (if t then x ∷ entries_of who es else entries_of who es) ++ e ∷ []
    by true later = ap (λ (xs : List Entry). x ∷ xs) later
    by false later = later

module _ (scripts : List (ℕ × List Op)) where
  abbrev Front : List Entry → ℕ → Type 0
  Front es who = (rest : List Op) × (script_of scripts who ≡ ops_of (entries_of who es) ++ rest)

  behind : (es : List Entry) (who : ℕ) (op : Op) → IsFront scripts es → next_op scripts es who ≡ Some op
      → (more : List Op) × (script_of scripts who ≡ ops_of (entries_of who es) ++ op ∷ more)
  behind es who op front next =
      let f = front.each who in
      let found = next_at (entries_of who es) f.0 op
      (subst (λ (ops : List Op). slice_get ops (length (entries_of who es)) ≡ Some op) f.1 next) in
      (found.0, f.1 ∙ ap (λ (ops : List Op). ops_of (entries_of who es) ++ ops) found.1)

  -- one entry more
  front_more : (es : List Entry) (e : Entry) → IsFront scripts es → next_op scripts es e.who ≡ Some e.op → IsFront scripts (es ++ e ∷ [])
  front_more es e front next = record { each = λ who. by who (cases_eq e.who who) }
    where
      own : Front (es ++ e ∷ []) e.who
      own =
          let found = behind es e.who e.op front next in
          let ops : ops_of (entries_of e.who (es ++ e ∷ [])) ≡ ops_of (entries_of e.who es) ++ e.op ∷ [] =
          ap ops_of (own_more e.who es e refl) ∙ map-append (λ (x : Entry). x.op) (entries_of e.who es) (e ∷ []) in (
            found.0,
            found.1 ∙ sym (append_assoc (ops_of (entries_of e.who es)) (e.op ∷ []) found.0)
                ∙ ap (λ (xs : List Op). xs ++ found.0) (sym ops),
          )

      by : (who : ℕ) → (e.who ≡ who) ⊎ (e.who ≢ who) → Front (es ++ e ∷ []) who
      by who (inl same) = subst (Front (es ++ e ∷ [])) same own
      by who (inr other) =
          let f = front.each who in (f.0, f.1 ∙ ap (λ (xs : List Entry). ops_of xs ++ f.0) (sym (other_entries who es e other)))

  front_same : (es : List Entry) → IsFront scripts es → IsFront scripts (es ++ [])
  front_same es front = subst (IsFront scripts) (sym (append-nil es)) front

  front_for : (es : List Entry) (who : ℕ) (reply : Reply) → IsFront scripts es → (o : Option Op) → next_op scripts es who ≡ o
      → IsFront scripts (es ++ entry_for who reply o)
  front_for es who reply front None is = front_same es front
  front_for es who reply front (Some op) is = front_more es (record { who = who; op = op; reply = reply }) front is

  front_after : (p : Played) (who : ℕ) (outcome : Outcome) → IsFront scripts p.entries
      → IsFront scripts (p.entries ++ entry_after scripts p who outcome)
  front_after p who (told.Running left) front = front_same p.entries front
  front_after p who (told.Done reply) front = front_for p.entries who reply front (next_op scripts p.entries who) refl
  front_after p who (told.Busy holder) front = front_same p.entries front
  front_after p who (told.Released waiting) front = front_same p.entries front
  front_after p who told.Idle front = front_same p.entries front
  front_after p who told.NotYours front = front_same p.entries front
  front_after p who told.NoMemory front = front_same p.entries front
  front_after p who told.Stopped front = front_same p.entries front

  ended : (es : List Entry) (who : ℕ) → IsFront scripts es → next_op scripts es who ≡ None → ops_of (entries_of who es) ≡ script_of scripts who
  ended es who front none =
      let f = front.each who in
      let done = none_at (entries_of who es) f.0 (subst (λ (ops : List Op). slice_get ops (length (entries_of who es)) ≡ None) f.1 none) in
      sym (f.1 ∙ ap (λ (xs : List Op). ops_of (entries_of who es) ++ xs) done ∙ append-nil (ops_of (entries_of who es)))

pub plays_front : PlaysAreFronts
plays_front order scripts turns old _ _ at_first = record { each = λ who. (script_of scripts who, refl) }
plays_front order scripts turns old _ q (then_next {moves = ms} {p = p} move before on) =
    subst (IsFront scripts) (sym (ap (λ (x : Played). x.entries) on.then_is))
    (front_after scripts p (actor_of move.event) move.outcome (plays_front order scripts turns old ms p before))

pub played_scripted : WholePlaysAreScripted
played_scripted order scripts turns old moves p suits played = record {
  each = λ who. ended scripts p.entries who (plays_front order scripts turns old moves p played.plays)
      (over_none scripts p order suits played.over who);
}

pub next_op_is : NextOpsFollow
next_op_is scripts entries who op front next =
    let found = behind scripts entries who op front next in record { who = who; rest = found.0; next = found.1 }

-- whose entry there is
own_some : (es : List Entry) (k : ℕ) (e : Entry) → k < length es → get_or es k e ≡ e → entries_of e.who es ≡ [] → ⊥
own_some [] k e within is none = omega (arith, within)
own_some (x ∷ es) zero e within is none = by (x.who == e.who) (eq-eqb x.who e.who (ap (λ (y : Entry). y.who) is)) none
  where
    by : (t : Bool) → t ≡ true → (if t then x ∷ entries_of e.who es else entries_of e.who es) ≡ [] → ⊥
    by true own is = cc
    by false own is = cc
own_some (x ∷ es) (suc k) e within is none = by (own_some es k e (omega (arith, within)) is) (x.who == e.who) none
  where
    by : (entries_of e.who es ≡ [] → ⊥) → (t : Bool) → (if t then x ∷ entries_of e.who es else entries_of e.who es) ≡ [] → ⊥
    by later true rest = cc
    by later false rest = later rest

numbered : (scripts : List (ℕ × List Op)) (who : ℕ) → (script_of scripts who ≡ [] → ⊥) → Contains (numbers_in scripts) who
numbered [] who some = absurd (some refl)
numbered (c ∷ cs) who some = by (numbered cs who) (c.0 == who) refl some
  where
    by : ((script_of cs who ≡ [] → ⊥) → Contains (numbers_in cs) who) → (t : Bool) → (c.0 == who) ≡ t
        → ((if t then c.1 else script_of cs who) ≡ [] → ⊥) → Contains (numbers_in (c ∷ cs)) who
    by later true test some = (0, omega arith, eqb-true c.0 who test)
    by later false test some = let found = later some in let lt = found.1 in (suc found.0, omega (arith, lt), found.2)

pub entries_of_clients : EntriesAreOfClients
entries_of_clients scripts entries entry front (k, within, is) = numbered scripts entry.who some
  where
    none_of : (xs : List Entry) (rest : List Op) → ops_of xs ++ rest ≡ [] → xs ≡ []
    none_of [] rest is = refl
    none_of (x ∷ xs) rest is = cc

    some : script_of scripts entry.who ≡ [] → ⊥
    some none =
        let f = front.each entry.who in
        own_some entries k entry within is (none_of (entries_of entry.who entries) f.0 (sym f.1 ∙ none))
