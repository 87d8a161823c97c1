-- Events of one client, one after another.
use Rattle.std.proofs.Common.{◌≡◌, inl, inr, ℕ, Bool, true, false, List, [], ◌∷◌, ◌++◌, refl, sym, ◌∙◌, ap, subst, arith}
use Rattle.std.specs.Prelude.{Result, Ok, Err}
use Rattle.std.proofs.lemmas.List.{append-nil, append_assoc, map-append}
use Rattle.pm_device.specs.State.{State}
use Rattle.dn_model.specs.Own.{Print}
use Rattle.dn_model.specs.declared.op.Op.{Op}
use Rattle.dn_model.specs.declared.op.Entry.{Entry}
use Rattle.dn_volume.specs.declared.outcome.Outcome.{Outcome}
use Rattle.dn_volume.specs.declared.volume.Volume.{Volume}
use Rattle.dn_volume.proofs.SoundStays.{rose_since}
use Rattle.dn_core.specs.declared.event.Event.{Event}
use Rattle.dn_core.specs.Steps.{Steps}
use Rattle.dn_core.specs.Run.{Run, at_first, then_next}
use Rattle.job_runs.specs.declared.script.RunFault.TheVariants as fault
use Rattle.job_runs.specs.declared.script.RunFault.{RunFault}
use Rattle.job_runs.specs.Reaching.{Reaches, WasStopped, AddsEntry, RunsOp, RunsScript, RunsFront, RunsAll, IsSteady}
use Rattle.job_runs.specs.Telling.{GoesQuietly, SoFar}

module _ {D F : Type 0} (state : D → State) (print : Print) where
  pub reach_none : (u : Volume D F) → Reaches state print u u
  reach_none u = record { events = []; outcomes = []; run = at_first }

  pub reach_next : (u v w : Volume D F) (event : Event) (outcome : Outcome) → Reaches state print u v → Steps state print event v w outcome
      → Reaches state print u w
  reach_next u v w event outcome was step = record {
    events = was.events ++ event ∷ [];
    outcomes = was.outcomes ++ outcome ∷ [];
    run = then_next event outcome was.run step;
  }

  -- a run behind a run is a run
  joins : (u v w : Volume D F) (events more : List Event) (outcomes others : List Outcome) → Run state print u events outcomes v
      → Run state print v more others w → Run state print u (events ++ more) (outcomes ++ others) w
  joins u v w events more outcomes others run at_first =
      subst (λ (es : List Event). Run state print u es (outcomes ++ []) v) (sym (append-nil events))
      (subst (λ (os : List Outcome). Run state print u events os v) (sym (append-nil outcomes)) run)
  joins u v w events more outcomes others run (then_next {events = es} {outcomes = os} {v = x} event outcome before step) =
      subst (λ (all : List Event). Run state print u all (outcomes ++ (os ++ outcome ∷ [])) w) (append_assoc events es (event ∷ []))
      (subst (λ (all : List Outcome). Run state print u ((events ++ es) ++ event ∷ []) all w) (append_assoc outcomes os (outcome ∷ []))
      (then_next event outcome (joins u v x events es outcomes os run before) step))

  pub reach_then : (u v w : Volume D F) → Reaches state print u v → Reaches state print v w → Reaches state print u w
  reach_then u v w first next = record {
    events = first.events ++ next.events;
    outcomes = first.outcomes ++ next.outcomes;
    run = joins u v w first.events next.events first.outcomes next.outcomes first.run next.run;
  }

module _ {D F : Type 0} (state : D → State) where
  pub steady_none : (u : Volume D F) → IsSteady state u u
  steady_none u = record { stopped = λ is. is; faults = omega arith }

  pub steady_then : (u v w : Volume D F) → IsSteady state u v → IsSteady state v w → IsSteady state u w
  steady_then u v w one two = record {
    stopped = λ is. one.stopped (two.stopped is);
    faults = let first = one.faults in let next = two.faults in omega (arith, first, next);
  }

  pub far_none : (u : Volume D F) → SoFar state u u
  far_none u = record { history = refl; steady = steady_none u }

  pub far_next : (u v w : Volume D F) → SoFar state u v → GoesQuietly state v w → SoFar state u w
  far_next u v w was on = record {
    history = on.history ∙ was.history;
    steady = record {
      stopped = λ is. absurd (clash w.parts.stopped on.running is);
      faults = let one = was.steady.faults in let two = on.faults in omega (arith, one, two);
    };
  }
    where
      clash : (x : Bool) → x ≡ false → x ≡ true → ⊥
      clash x low high = cc

  pub stopped_since : (u v w : Volume D F) → IsSteady state u v → WasStopped state v w → WasStopped state u w
  stopped_since u v w was (inl is) = inl (was.stopped is)
  stopped_since u v w was (inr rose) = inr (rose_since (state u.device).faults (state v.device).faults (state w.device).faults was.faults rose)

  pub adds_since : (who : ℕ) (op : Op) (u v w : Volume D F) → v.parts.history.items ≡ u.parts.history.items
      → AddsEntry who op v.parts.history.items w.parts.history.items → AddsEntry who op u.parts.history.items w.parts.history.items
  adds_since who op u v w same more = subst (λ (h : List Entry). AddsEntry who op h w.parts.history.items) same more

  -- an operation that is in flight is finished
  pub runs_since : (who : ℕ) (op : Op) (u v w : Volume D F) → v.parts.history.items ≡ u.parts.history.items → IsSteady state u v
      → (result : Result (Unit {0}) RunFault) → RunsOp state who op v w result → RunsOp state who op u w result
  runs_since who op u v w same steady (Ok done) is = (is.0, adds_since who op u v w same is.1, steady_then u v w steady is.2)
  runs_since who op u v w same steady (Err fault.NoMemory) is = (is.0, is.1 ∙ same)
  runs_since who op u v w same steady (Err fault.Stopped) is = (stopped_since u v w steady is.0, is.1 ∙ same)

-- scripts, an operation more
pub all_none : (who : ℕ) (old : List Entry) → RunsAll who [] old old
all_none who old = record { entries = []; are = record { ops_are = refl; who_are = refl }; history = sym (append-nil old) }

pub all_next : (who : ℕ) (ops : List Op) (op : Op) (old mid new : List Entry) → RunsAll who ops old mid → AddsEntry who op mid new
    → RunsAll who (ops ++ op ∷ []) old new
all_next who ops op old mid new was more =
    let last : Entry = record { who = who; op = op; reply = more.reply } in
    record {
      entries = was.entries ++ last ∷ [];
      are = record {
        ops_are = map-append (λ (e : Entry). e.op) was.entries (last ∷ []) ∙ ap (λ (os : List Op). os ++ op ∷ []) was.are.ops_are;
        who_are = map-append (λ (e : Entry). e.who) was.entries (last ∷ []) ∙ ap (λ (ws : List ℕ). ws ++ who ∷ []) was.are.who_are
            ∙ sym (map-append (λ (o : Op). who) ops (op ∷ []));
      };
      history = more.history ∙ ap (λ (h : List Entry). h ++ last ∷ []) was.history ∙ append_assoc old was.entries (last ∷ []);
    }

pub front_of : (who : ℕ) (ops first rest : List Op) (old mid new : List Entry) → ops ≡ first ++ rest → RunsAll who first old mid → new ≡ mid
    → RunsFront who ops old new
front_of who ops first rest old mid new split was same = record {
  first = first;
  rest = rest;
  split = split;
  entries = was.entries;
  are = was.are;
  history = same ∙ was.history;
}

-- a script ends in the midst of an operation
pub ends_since : {D F : Type 0} (state : D → State) (who : ℕ) (ops first rest : List Op) (op : Op) (u v w : Volume D F) → ops ≡ first ++ rest
    → RunsAll who first u.parts.history.items v.parts.history.items → IsSteady state u v → (f : RunFault) → RunsOp state who op v w (Err f)
    → RunsScript state who ops u w (Err f)
ends_since state who ops first rest op u v w split all steady fault.NoMemory is =
    (is.0, front_of who ops first rest u.parts.history.items v.parts.history.items w.parts.history.items split all is.1)
ends_since state who ops first rest op u v w split all steady fault.Stopped is = (
  stopped_since state u v w steady is.0,
  front_of who ops first rest u.parts.history.items v.parts.history.items w.parts.history.items split all is.1,
)
