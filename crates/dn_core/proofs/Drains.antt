-- Work event by event until none is left.
use Rattle.std.proofs.Common.{◌≡◌, inl, inr, ⊎_elim, ◌<◌, Bool, ◌&&◌, true, false, List, [], ◌∷◌, ◌++◌, refl, ◌∙◌, ap, arith}
use Rattle.std.specs.Prelude.{Ok, Err, Option, Some, None, IsSome}
use Rattle.dn_volume.specs.declared.background.Cleaning.{Cleaning}
use Rattle.pm_device.specs.State.{State}
use Rattle.dn_model.specs.Own.{Print}
use Rattle.dn_volume.specs.declared.volume.Parts.{Parts}
use Rattle.dn_volume.specs.declared.volume.Volume.{Volume}
use Rattle.dn_volume.specs.Works.{work_left}
use Rattle.dn_volume.proofs.SoundStays.{rose_since}
use Rattle.dn_core.specs.declared.event.Event.{Event}
use Rattle.dn_core.specs.declared.event.Event.TheVariants.{Begin, Advance, Daemon, Reclaim}
use Rattle.dn_core.specs.declared.event.DrainFault.{DrainFault}
use Rattle.dn_core.specs.declared.event.DrainFault.TheVariants as fault
use Rattle.dn_core.specs.Run.{Run, at_first, then_next}
use Rattle.dn_volume.specs.Resting.{AllLanded}
use Rattle.dn_core.specs.Rest.{AllRest, IsWork, Rests, Drained, DrainFails}
use Rattle.dn_core.specs.Working.{SameTasks, WorksOnce, Draining}
use Rattle.dn_core.proofs.Rested.{drained}

clash : (x : Bool) → x ≡ false → x ≡ true → ⊥
clash x low high = cc

rests_of : (event : Event) (b : Parts) → IsWork event → AllRest b → Rests event b
rests_of (Begin who op) b work rests = absurd work
rests_of (Advance who) b work rests = absurd work
rests_of Daemon b work rests = rests.daemon
rests_of Reclaim b work rests = rests.reclaim

still_rests : (b b' : Parts) → SameTasks b b' → AllRest b → AllRest b'
still_rests b b' same rests = record {
  daemon = record {
    none_begun = same.sharing ∙ rests.daemon.none_begun;
    none_waits = same.queue ∙ rests.daemon.none_waits;
  };
  reclaim = record {
    none_waits = same.waiting ∙ rests.reclaim.none_waits;
    none_begun = same.cleaning ∙ rests.reclaim.none_begun;
    none_may = same.may ∙ rests.reclaim.none_may;
  };
}

pub draining_none : {D F : Type 0} (state : D → State) (print : Print) (u : Volume D F) → AllLanded u.parts → Draining state print u u []
draining_none state print u landed = record {
  outcomes = [];
  run = at_first;
  landed = landed;
  history = refl;
  quiet = λ rests. (rests, refl);
  keeps = λ rests. (rests, refl);
  faults = omega arith;
  stopped = λ is. is;
}

module _ {D F : Type 0} (state : D → State) (print : Print) (u v v' : Volume D F) (events : List Event) (event : Event) (work : IsWork event)
    (was : Draining state print u v events) where
  pub draining_on : (idle : Bool) → WorksOnce state print event v v' (Ok idle) → Draining state print u v' (events ++ event ∷ [])
  draining_on idle once = record {
    outcomes = was.outcomes ++ once.outcome ∷ [];
    run = then_next event once.outcome was.run once.steps;
    landed = once.landed;
    history = once.history ∙ was.history;
    quiet = λ rests. let kept = was.quiet rests in by idle once kept.0 kept.1;
    keeps = λ rests. let kept = was.keeps rests in let then = once.ends.2 kept.0 in (then.0, then.1 ∙ kept.1);
    faults = let one = was.faults in let two = once.faults in omega (arith, one, two);
    stopped = λ is. absurd (runs idle once is);
  }
    where
      by : (i : Bool) → WorksOnce state print event v v' (Ok i) → AllRest v.parts → v.parts.trace.items ≡ u.parts.trace.items
          → AllRest v'.parts × (v'.parts.trace.items ≡ u.parts.trace.items)
      by true is rests trace = (still_rests v.parts v'.parts is.ends.0.1 rests, is.ends.0.1.trace ∙ trace)
      by false is rests trace = absurd (is.ends.0.0 (rests_of event v.parts work rests))

      runs : (i : Bool) → WorksOnce state print event v v' (Ok i) → v'.parts.stopped ≡ true → ⊥
      runs true is high = clash v'.parts.stopped is.ends.1.1.running high
      runs false is high = clash v'.parts.stopped is.ends.1.1.running high

  pub ended_run : (f : DrainFault) (once : WorksOnce state print event v v' (Err f))
      → Run state print u (events ++ event ∷ []) (was.outcomes ++ once.outcome ∷ []) v'
  ended_run f once = then_next event once.outcome was.run once.steps

  pub ended_history : (f : DrainFault) → WorksOnce state print event v v' (Err f) → v'.parts.history.items ≡ u.parts.history.items
  ended_history f once = once.history ∙ was.history

  pub ended_quiet : (f : DrainFault) → WorksOnce state print event v v' (Err f) → AllRest u.parts → v'.parts.trace.items ≡ u.parts.trace.items
  ended_quiet fault.NoMemory once rests = once.ends.trace ∙ (was.quiet rests).1
  ended_quiet fault.Stopped once rests = ⊎_elim
      (λ already. ap (λ (w : Volume D F). w.parts.trace.items) already.1 ∙ (was.quiet rests).1)
      (λ broke. absurd (broke.0 (rests_of event v.parts work (was.quiet rests).0))) once.ends

  pub ended_fails : (f : DrainFault) → WorksOnce state print event v v' (Err f) → DrainFails state u v' f
  ended_fails fault.NoMemory once = tt
  ended_fails fault.Stopped once = ⊎_elim (λ already. inl (was.stopped already.0))
      (λ broke. inr (rose_since (state u.device).faults (state v.device).faults (state v'.device).faults was.faults broke.1)) once.ends

-- both rest: the volume is drained
pub both_rest : {D F : Type 0} (state : D → State) (print : Print) (v v1 v2 : Volume D F)
    → WorksOnce state print Reclaim v v1 (Ok true) → WorksOnce state print Daemon v1 v2 (Ok true) → Drained state print v2
both_rest state print v v1 v2 first second =
    let d = second.ends.1 in
    let kept : SameTasks v1.parts v2.parts = second.ends.0.1 in
    let was : SameTasks v.parts v1.parts = first.ends.0.1 in
    let rests : AllRest v1.parts = record {
      daemon = second.ends.0.0;
      reclaim = record {
        none_waits = was.waiting ∙ first.ends.0.0.none_waits;
        none_begun = was.cleaning ∙ first.ends.0.0.none_begun;
        none_may = was.may ∙ first.ends.0.0.none_may;
      };
    } in
    drained state print v2 d.0 d.1 second.landed (still_rests v1.parts v2.parts kept rests)

no_some : (x : Option Cleaning) → x ≡ None → IsSome x → ⊥
no_some None is some = cc
no_some (Some c) is some = cc

-- what is left is less after a round in which not both rest
pub round_lowers : {D F : Type 0} (state : D → State) (print : Print) (v v1 v2 : Volume D F) (i j : Bool)
    → WorksOnce state print Reclaim v v1 (Ok i) → WorksOnce state print Daemon v1 v2 (Ok j) → ((i ≡ true) → (j ≡ true) → ⊥)
    → work_left v2.parts < work_left v.parts
round_lowers state print v v1 v2 true true first second not = absurd (not refl refl)
round_lowers state print v v1 v2 true false first second not =
    let same = first.ends.0.1.left in ⊎_elim
    (λ less. omega (arith, less, same))
    (λ waits. absurd (no_some v1.parts.reclaiming.cleaning (first.ends.0.1.cleaning ∙ first.ends.0.0.none_begun) waits.begun))
    second.ends.0.1
round_lowers state print v v1 v2 false true first second not =
    let less = first.ends.0.1 in let same = second.ends.0.1.left in omega (arith, less, same)
round_lowers state print v v1 v2 false false first second not =
    let one = first.ends.0.1 in ⊎_elim
    (λ two. omega (arith, one, two))
    (λ waits. let same = waits.same.left in omega (arith, one, same))
    second.ends.0.1

-- both of two, or not both
pub first_of : (i j : Bool) → (i && j) ≡ true → i ≡ true
first_of true j is = refl
first_of false true is = cc
first_of false false is = cc

pub second_of : (i j : Bool) → (i && j) ≡ true → j ≡ true
second_of i true is = refl
second_of true false is = cc
second_of false false is = cc

pub not_both : (i j : Bool) → (i && j) ≡ false → (i ≡ true) → (j ≡ true) → ⊥
not_both true true is first second = cc
not_both true false is first second = cc
not_both false j is first second = cc
