use Rattle.std.proofs.Common.{◌++◌, ◌∷◌, [], List, sym, subst, arith}
use Rattle.dn_volume.specs.declared.outcome.Outcome.{Outcome}
use Rattle.dn_core.specs.Run.{Run, Records, at_first, then_next}
use Rattle.dn_core.proofs.Adding.{steps_add, records_none, records_next, runs_stay_sound}
use Rattle.dn_core.proofs.running.run_events.Goals as goal

pub loop-event-init : goal.loop-event-init
loop-event-init g c =
    let none = c.in_ok-outcomes.ensures.items in
    record {
      agrees = c.requires.agrees;
      run = subst (λ (os : List Outcome). Run g.D.Pm.state g.F.Fingerprint.print c.args.v.now [] os c.args.v.now) (sym none) at_first;
      records = subst (λ (os : List Outcome). Records c.args.v.now c.args.v.now [] os) (sym none) (records_none c.args.v.now);
      room =
          let rest = c.into_iter-event-iterator.ensures.into_iter_gives.1 in
          let room = c.in_ok-outcomes.ensures.capacity in
          let len = c.in_ok-outcomes.ensures.len in
          let all = c.len.ensures in
          omega (arith, rest, room, len, all);
    }

pub push_reserved-requires : goal.push_reserved-requires
push_reserved-requires g c =
    let room = c.loop-event.invariant.room in
    let rest = c.in-Some.ensures.steps.1 in
    omega (arith, room, rest)

pub loop-event-preserved : goal.loop-event-preserved
loop-event-preserved g c =
    let pushed = c.push_reserved.ensures.items in
    record {
      agrees = c.step-outcome.ensures.agrees;
      run = subst (λ (os : List Outcome). Run g.D.Pm.state g.F.Fingerprint.print c.args.v.now (c.loop-event.yielded ++ c.in-Some.event ∷ []) os
          c.step-outcome.new.v) (sym pushed)
          (then_next c.in-Some.event c.step-outcome.result c.loop-event.invariant.run c.step-outcome.ensures.event);
      records = subst (λ (os : List Outcome). Records c.args.v.now c.step-outcome.new.v (c.loop-event.yielded ++ c.in-Some.event ∷ []) os) (sym pushed)
          (records_next c.args.v.now c.loop-event.v c.step-outcome.new.v c.loop-event.yielded c.loop-event.outcomes.items c.in-Some.event
          c.step-outcome.result c.loop-event.invariant.records
          (steps_add g.D.Pm.state g.F.Fingerprint.print c.in-Some.event c.loop-event.v c.step-outcome.new.v c.step-outcome.result
          c.loop-event.invariant.agrees c.step-outcome.ensures.event));
      room =
          let room = c.loop-event.invariant.room in
          let rest = c.in-Some.ensures.steps.1 in
          let len = c.push_reserved.ensures.len in
          let capacity = c.push_reserved.ensures.capacity in
          omega (arith, room, rest, len, capacity);
    }

pub returns-clause-sound : goal.returns-clause-sound
returns-clause-sound g c base sound =
    runs_stay_sound g.D.Pm.state g.met.D.Pm.agree g.F.Fingerprint.print base c.args.v.now c.loop-event.v c.loop-event.yielded
    c.loop-event.outcomes.items c.loop-event.invariant.run sound
