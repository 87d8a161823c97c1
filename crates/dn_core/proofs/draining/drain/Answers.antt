use Rattle.std.proofs.Common.{◌++◌, ◌∷◌, [], Bool, subst}
use Rattle.std.specs.Prelude.{Ok}
use Rattle.std.proofs.lemmas.Result.{err_from_is_err_and}
use Rattle.dn_core.specs.declared.event.Event.TheVariants.{Daemon, Reclaim}
use Rattle.dn_core.specs.Rest.{no_round, one_more, full, half}
use Rattle.dn_core.specs.Working.{WorksOnce}
use Rattle.dn_core.proofs.Adding.{runs_stay_sound}
use Rattle.dn_core.proofs.Drains.{draining_none, draining_on, ended_run, ended_quiet, ended_fails, both_rest, round_lowers, first_of, second_of, not_both}
use Rattle.dn_core.proofs.draining.drain.Goals as goal

pub loop-reclaim_rests-init : goal.loop-reclaim_rests-init
loop-reclaim_rests-init g c = record {
  agrees = c.requires.agrees;
  so_far = ([], no_round, draining_none g.D.Pm.state g.F.Fingerprint.print c.args.v.now c.requires.landed);
}

pub returns-in_err-reclaim_rests-clause-rounds : goal.returns-in_err-reclaim_rests-clause-rounds
returns-in_err-reclaim_rests-clause-rounds g c =
    let so = c.loop-reclaim_rests.invariant.so_far in
    record {
      events = so.0 ++ Reclaim ∷ [];
      outcomes = _;
      rounds = half so.1;
      run = ended_run g.D.Pm.state g.F.Fingerprint.print c.args.v.now c.loop-reclaim_rests.v c.work_once.new.v so.0 Reclaim tt so.2
          c.in_err-reclaim_rests.field-0.0 c.in_err-reclaim_rests.ensures.once;
    }

pub returns-in_err-reclaim_rests-clause-fails : goal.returns-in_err-reclaim_rests-clause-fails
returns-in_err-reclaim_rests-clause-fails g c =
    let so = c.loop-reclaim_rests.invariant.so_far in
    let p = err_from_is_err_and c.from_residual.result c.from_residual.ensures.1 in
    rw (p.1, p.2) (ended_fails g.D.Pm.state g.F.Fingerprint.print c.args.v.now c.loop-reclaim_rests.v c.work_once.new.v so.0 Reclaim tt so.2
    c.in_err-reclaim_rests.field-0.0 c.in_err-reclaim_rests.ensures.once)

pub returns-in_err-reclaim_rests-clause-nothing : goal.returns-in_err-reclaim_rests-clause-nothing
returns-in_err-reclaim_rests-clause-nothing g c =
    let so = c.loop-reclaim_rests.invariant.so_far in
    ended_quiet g.D.Pm.state g.F.Fingerprint.print c.args.v.now c.loop-reclaim_rests.v c.work_once.new.v so.0 Reclaim tt so.2
    c.in_err-reclaim_rests.field-0.0 c.in_err-reclaim_rests.ensures.once

pub returns-in_err-reclaim_rests-clause-sound : goal.returns-in_err-reclaim_rests-clause-sound
returns-in_err-reclaim_rests-clause-sound g c base sound =
    let so = c.loop-reclaim_rests.invariant.so_far in
    runs_stay_sound g.D.Pm.state g.met.D.Pm.agree g.F.Fingerprint.print base c.args.v.now c.work_once.new.v _ _
    (ended_run g.D.Pm.state g.F.Fingerprint.print c.args.v.now c.loop-reclaim_rests.v c.work_once.new.v so.0 Reclaim tt so.2
    c.in_err-reclaim_rests.field-0.0 c.in_err-reclaim_rests.ensures.once) sound

pub returns-in_err-daemon_rests-clause-rounds : goal.returns-in_err-daemon_rests-clause-rounds
returns-in_err-daemon_rests-clause-rounds g c =
    let so = c.loop-reclaim_rests.invariant.so_far in
    let mid = draining_on g.D.Pm.state g.F.Fingerprint.print c.args.v.now c.loop-reclaim_rests.v c.work_once.new.v so.0 Reclaim tt so.2
    c.in_ok-reclaim_rests.reclaim_rests c.in_ok-reclaim_rests.ensures.once in
    record {
      events = (so.0 ++ Reclaim ∷ []) ++ Daemon ∷ [];
      outcomes = _;
      rounds = full (one_more so.1);
      run = ended_run g.D.Pm.state g.F.Fingerprint.print c.args.v.now c.work_once.new.v c.work_once-in-loop-reclaim_rests.new.v
          (so.0 ++ Reclaim ∷ []) Daemon tt mid c.in_err-daemon_rests.field-0.0 c.in_err-daemon_rests.ensures.once;
    }

pub returns-in_err-daemon_rests-clause-fails : goal.returns-in_err-daemon_rests-clause-fails
returns-in_err-daemon_rests-clause-fails g c =
    let so = c.loop-reclaim_rests.invariant.so_far in
    let mid = draining_on g.D.Pm.state g.F.Fingerprint.print c.args.v.now c.loop-reclaim_rests.v c.work_once.new.v so.0 Reclaim tt so.2
    c.in_ok-reclaim_rests.reclaim_rests c.in_ok-reclaim_rests.ensures.once in
    let p = err_from_is_err_and c.from_residual-in_err-daemon_rests.result c.from_residual-in_err-daemon_rests.ensures.1 in
    rw (p.1, p.2) (ended_fails g.D.Pm.state g.F.Fingerprint.print c.args.v.now c.work_once.new.v c.work_once-in-loop-reclaim_rests.new.v
    (so.0 ++ Reclaim ∷ []) Daemon tt mid c.in_err-daemon_rests.field-0.0 c.in_err-daemon_rests.ensures.once)

pub returns-in_err-daemon_rests-clause-nothing : goal.returns-in_err-daemon_rests-clause-nothing
returns-in_err-daemon_rests-clause-nothing g c =
    let so = c.loop-reclaim_rests.invariant.so_far in
    let mid = draining_on g.D.Pm.state g.F.Fingerprint.print c.args.v.now c.loop-reclaim_rests.v c.work_once.new.v so.0 Reclaim tt so.2
    c.in_ok-reclaim_rests.reclaim_rests c.in_ok-reclaim_rests.ensures.once in
    ended_quiet g.D.Pm.state g.F.Fingerprint.print c.args.v.now c.work_once.new.v c.work_once-in-loop-reclaim_rests.new.v
    (so.0 ++ Reclaim ∷ []) Daemon tt mid c.in_err-daemon_rests.field-0.0 c.in_err-daemon_rests.ensures.once

pub returns-in_err-daemon_rests-clause-sound : goal.returns-in_err-daemon_rests-clause-sound
returns-in_err-daemon_rests-clause-sound g c base sound =
    let so = c.loop-reclaim_rests.invariant.so_far in
    let mid = draining_on g.D.Pm.state g.F.Fingerprint.print c.args.v.now c.loop-reclaim_rests.v c.work_once.new.v so.0 Reclaim tt so.2
    c.in_ok-reclaim_rests.reclaim_rests c.in_ok-reclaim_rests.ensures.once in
    runs_stay_sound g.D.Pm.state g.met.D.Pm.agree g.F.Fingerprint.print base c.args.v.now c.work_once-in-loop-reclaim_rests.new.v _ _
    (ended_run g.D.Pm.state g.F.Fingerprint.print c.args.v.now c.work_once.new.v c.work_once-in-loop-reclaim_rests.new.v
    (so.0 ++ Reclaim ∷ []) Daemon tt mid c.in_err-daemon_rests.field-0.0 c.in_err-daemon_rests.ensures.once) sound

pub returns-then-reclaim_rests-daemon_rests-clause-rounds : goal.returns-then-reclaim_rests-daemon_rests-clause-rounds
returns-then-reclaim_rests-daemon_rests-clause-rounds g c =
    let so = c.loop-reclaim_rests.invariant.so_far in
    let mid = draining_on g.D.Pm.state g.F.Fingerprint.print c.args.v.now c.loop-reclaim_rests.v c.work_once.new.v so.0 Reclaim tt so.2
    c.in_ok-reclaim_rests.reclaim_rests c.in_ok-reclaim_rests.ensures.once in
    let last = draining_on g.D.Pm.state g.F.Fingerprint.print c.args.v.now c.work_once.new.v c.work_once-in-loop-reclaim_rests.new.v
    (so.0 ++ Reclaim ∷ []) Daemon tt mid c.in_ok-daemon_rests.daemon_rests c.in_ok-daemon_rests.ensures.once in
    record {
      events = (so.0 ++ Reclaim ∷ []) ++ Daemon ∷ [];
      outcomes = last.outcomes;
      rounds = full (one_more so.1);
      run = last.run;
    }

pub returns-then-reclaim_rests-daemon_rests-clause-drained : goal.returns-then-reclaim_rests-daemon_rests-clause-drained
returns-then-reclaim_rests-daemon_rests-clause-drained g c =
    let both = c.if-reclaim_rests-daemon_rests.true in
    let i = c.in_ok-reclaim_rests.reclaim_rests in
    let j = c.in_ok-daemon_rests.daemon_rests in
    both_rest g.D.Pm.state g.F.Fingerprint.print c.loop-reclaim_rests.v c.work_once.new.v c.work_once-in-loop-reclaim_rests.new.v
    (subst (λ (b : Bool). WorksOnce g.D.Pm.state g.F.Fingerprint.print Reclaim c.loop-reclaim_rests.v c.work_once.new.v (Ok b)) (first_of i j both)
    c.in_ok-reclaim_rests.ensures.once)
    (subst (λ (b : Bool). WorksOnce g.D.Pm.state g.F.Fingerprint.print Daemon c.work_once.new.v c.work_once-in-loop-reclaim_rests.new.v (Ok b))
    (second_of i j both) c.in_ok-daemon_rests.ensures.once)

pub returns-then-reclaim_rests-daemon_rests-clause-nothing : goal.returns-then-reclaim_rests-daemon_rests-clause-nothing
returns-then-reclaim_rests-daemon_rests-clause-nothing g c rests =
    let so = c.loop-reclaim_rests.invariant.so_far in
    let mid = draining_on g.D.Pm.state g.F.Fingerprint.print c.args.v.now c.loop-reclaim_rests.v c.work_once.new.v so.0 Reclaim tt so.2
    c.in_ok-reclaim_rests.reclaim_rests c.in_ok-reclaim_rests.ensures.once in
    let last = draining_on g.D.Pm.state g.F.Fingerprint.print c.args.v.now c.work_once.new.v c.work_once-in-loop-reclaim_rests.new.v
    (so.0 ++ Reclaim ∷ []) Daemon tt mid c.in_ok-daemon_rests.daemon_rests c.in_ok-daemon_rests.ensures.once in
    (last.quiet rests).1

pub returns-then-reclaim_rests-daemon_rests-clause-keeps : goal.returns-then-reclaim_rests-daemon_rests-clause-keeps
returns-then-reclaim_rests-daemon_rests-clause-keeps g c =
    let so = c.loop-reclaim_rests.invariant.so_far in
    let mid = draining_on g.D.Pm.state g.F.Fingerprint.print c.args.v.now c.loop-reclaim_rests.v c.work_once.new.v so.0 Reclaim tt so.2
    c.in_ok-reclaim_rests.reclaim_rests c.in_ok-reclaim_rests.ensures.once in
    let last = draining_on g.D.Pm.state g.F.Fingerprint.print c.args.v.now c.work_once.new.v c.work_once-in-loop-reclaim_rests.new.v
    (so.0 ++ Reclaim ∷ []) Daemon tt mid c.in_ok-daemon_rests.daemon_rests c.in_ok-daemon_rests.ensures.once in
    last.keeps

pub returns-then-reclaim_rests-daemon_rests-clause-sound : goal.returns-then-reclaim_rests-daemon_rests-clause-sound
returns-then-reclaim_rests-daemon_rests-clause-sound g c base sound =
    let so = c.loop-reclaim_rests.invariant.so_far in
    let mid = draining_on g.D.Pm.state g.F.Fingerprint.print c.args.v.now c.loop-reclaim_rests.v c.work_once.new.v so.0 Reclaim tt so.2
    c.in_ok-reclaim_rests.reclaim_rests c.in_ok-reclaim_rests.ensures.once in
    let last = draining_on g.D.Pm.state g.F.Fingerprint.print c.args.v.now c.work_once.new.v c.work_once-in-loop-reclaim_rests.new.v
    (so.0 ++ Reclaim ∷ []) Daemon tt mid c.in_ok-daemon_rests.daemon_rests c.in_ok-daemon_rests.ensures.once in
    runs_stay_sound g.D.Pm.state g.met.D.Pm.agree g.F.Fingerprint.print base c.args.v.now c.work_once-in-loop-reclaim_rests.new.v _ _ last.run sound

pub loop-reclaim_rests-smaller : goal.loop-reclaim_rests-smaller
loop-reclaim_rests-smaller g c =
    round_lowers g.D.Pm.state g.F.Fingerprint.print c.loop-reclaim_rests.v c.work_once.new.v c.work_once-in-loop-reclaim_rests.new.v
    c.in_ok-reclaim_rests.reclaim_rests c.in_ok-daemon_rests.daemon_rests c.in_ok-reclaim_rests.ensures.once c.in_ok-daemon_rests.ensures.once
    (not_both c.in_ok-reclaim_rests.reclaim_rests c.in_ok-daemon_rests.daemon_rests c.if-reclaim_rests-daemon_rests.false)

pub loop-reclaim_rests-preserved : goal.loop-reclaim_rests-preserved
loop-reclaim_rests-preserved g c =
    let so = c.loop-reclaim_rests.invariant.so_far in
    let mid = draining_on g.D.Pm.state g.F.Fingerprint.print c.args.v.now c.loop-reclaim_rests.v c.work_once.new.v so.0 Reclaim tt so.2
    c.in_ok-reclaim_rests.reclaim_rests c.in_ok-reclaim_rests.ensures.once in
    let last = draining_on g.D.Pm.state g.F.Fingerprint.print c.args.v.now c.work_once.new.v c.work_once-in-loop-reclaim_rests.new.v
    (so.0 ++ Reclaim ∷ []) Daemon tt mid c.in_ok-daemon_rests.daemon_rests c.in_ok-daemon_rests.ensures.once in
    record {
      agrees = c.in_ok-daemon_rests.ensures.agrees;
      so_far = ((so.0 ++ Reclaim ∷ []) ++ Daemon ∷ [], one_more so.1, last);
    }
