use Rattle.std.proofs.Common.{arith}
use Rattle.std.proofs.lemmas.Result.{err_from_is_err_and}
use Rattle.job_runs.proofs.Onward.{reach_none, reach_next}
use Rattle.job_runs.proofs.Going.{
  stands_first,
  none_so,
  stands_so,
  all_landed,
  plays_whole,
  none_next,
  makes,
  never_others,
  memory_so,
  memory_faults,
  stopped_so,
  stopped_faults,
  was_stopped,
  turn_place,
  then_so,
  then_faults,
  then_stands,
}
use Rattle.job_runs.proofs.running.play.Goals as goal

pub returns-in_err-player-clause-reaches : goal.returns-in_err-player-clause-reaches
returns-in_err-player-clause-reaches g c = reach_none g.D.Pm.state g.F.Fingerprint.print c.args.v.now

pub returns-in_err-player-clause-runs : goal.returns-in_err-player-clause-runs
returns-in_err-player-clause-runs g c base sound =
    let p = err_from_is_err_and c.from_residual.result c.from_residual.ensures.1 in
    rw (p.1, p.2) (none_so g.D.Pm.state g.F.Fingerprint.print c.args.order c.args.scripts.now c.args.turns.now c.args.v.now c.requires.new base)

pub loop-made-init : goal.loop-made-init
loop-made-init g c =
    record {
      agrees = c.requires.agrees;
      reaches = reach_none g.D.Pm.state g.F.Fingerprint.print c.args.v.now;
      sound = λ base sound. sound;
      stands = stands_first g.D.Pm.state g.F.Fingerprint.print c.args.order c.args.scripts.now c.args.turns.now c.args.v.now c.requires.new
          c.in_ok-player.player c.in_ok-player.ensures;
    }

pub returns-in_err-event-clause-agrees : goal.returns-in_err-event-clause-agrees
returns-in_err-event-clause-agrees g c = c.loop-made.invariant.agrees

pub returns-in_err-event-clause-reaches : goal.returns-in_err-event-clause-reaches
returns-in_err-event-clause-reaches g c = c.loop-made.invariant.reaches

pub returns-in_err-event-clause-sound : goal.returns-in_err-event-clause-sound
returns-in_err-event-clause-sound g c = c.loop-made.invariant.sound

pub returns-in_err-event-clause-faults : goal.returns-in_err-event-clause-faults
returns-in_err-event-clause-faults g c = c.loop-made.invariant.stands.played.faults

pub returns-in_default-clause-agrees : goal.returns-in_default-clause-agrees
returns-in_default-clause-agrees g c = c.loop-made.invariant.agrees

pub returns-in_default-clause-reaches : goal.returns-in_default-clause-reaches
returns-in_default-clause-reaches g c = c.loop-made.invariant.reaches

pub returns-in_default-clause-sound : goal.returns-in_default-clause-sound
returns-in_default-clause-sound g c = c.loop-made.invariant.sound

pub returns-in_default-clause-faults : goal.returns-in_default-clause-faults
returns-in_default-clause-faults g c = c.loop-made.invariant.stands.played.faults

pub returns-clause-agrees : goal.returns-clause-agrees
returns-clause-agrees g c = c.loop-made.invariant.agrees

pub returns-clause-reaches : goal.returns-clause-reaches
returns-clause-reaches g c = c.loop-made.invariant.reaches

pub returns-clause-sound : goal.returns-clause-sound
returns-clause-sound g c = c.loop-made.invariant.sound

pub returns-clause-faults : goal.returns-clause-faults
returns-clause-faults g c = c.loop-made.invariant.stands.played.faults

pub returns-in_err-event-clause-runs : goal.returns-in_err-event-clause-runs
returns-in_err-event-clause-runs g c base sound =
    let p = err_from_is_err_and c.from_residual-in_err-event.result c.from_residual-in_err-event.ensures.1 in
    rw (p.1, p.2) (stands_so c.loop-made.invariant.stands base sound)

pub returns-in_default-clause-runs : goal.returns-in_default-clause-runs
returns-in_default-clause-runs g c base sound =
    let stands = c.loop-made.invariant.stands in
    let over = none_next c.args.order c.args.scripts.now stands.so_far c.next.new.self c.in_ok-event.field-0
    (c.in_ok-event.ensures stands.so_far stands.player) c.in_default.not-Some in
    plays_whole stands c.requires.suits over base sound

pub returns-in_default-clause-ends : goal.returns-in_default-clause-ends
returns-in_default-clause-ends g c =
    let stands = c.loop-made.invariant.stands in
    let over = none_next c.args.order c.args.scripts.now stands.so_far c.next.new.self c.in_ok-event.field-0
    (c.in_ok-event.ensures stands.so_far stands.player) c.in_default.not-Some in
    (all_landed stands c.requires.suits over, stands.played.running)

pub step-requires : goal.step-requires
step-requires g c = record { agrees = c.loop-made.invariant.agrees }

pub returns-in-NoMemory-clause-reaches : goal.returns-in-NoMemory-clause-reaches
returns-in-NoMemory-clause-reaches g c =
    let was = c.loop-made.invariant in
    reach_next g.D.Pm.state g.F.Fingerprint.print c.args.v.now c.loop-made.v c.step.new.v c.in-Some.event c.step.result was.reaches
    c.step.ensures.event

pub returns-in-NoMemory-clause-sound : goal.returns-in-NoMemory-clause-sound
returns-in-NoMemory-clause-sound g c base sound = c.step.ensures.sound base (c.loop-made.invariant.sound base sound)

pub returns-in-NoMemory-clause-runs : goal.returns-in-NoMemory-clause-runs
returns-in-NoMemory-clause-runs g c base sound =
    let was = c.loop-made.invariant in
    let made = makes c.next.new.self c.in_ok-event.field-0 was.agrees was.sound was.stands c.in_ok-event.ensures c.in-Some.is c.requires.clients
    c.step.ensures.event in
    memory_so made c.in-NoMemory.is base sound

pub returns-in-NoMemory-clause-faults : goal.returns-in-NoMemory-clause-faults
returns-in-NoMemory-clause-faults g c =
    let was = c.loop-made.invariant in
    let made = makes c.next.new.self c.in_ok-event.field-0 was.agrees was.sound was.stands c.in_ok-event.ensures c.in-Some.is c.requires.clients
    c.step.ensures.event in
    memory_faults made c.in-NoMemory.is

pub returns-in-Stopped-clause-reaches : goal.returns-in-Stopped-clause-reaches
returns-in-Stopped-clause-reaches g c =
    let was = c.loop-made.invariant in
    reach_next g.D.Pm.state g.F.Fingerprint.print c.args.v.now c.loop-made.v c.step.new.v c.in-Some.event c.step.result was.reaches
    c.step.ensures.event

pub returns-in-Stopped-clause-sound : goal.returns-in-Stopped-clause-sound
returns-in-Stopped-clause-sound g c base sound = c.step.ensures.sound base (c.loop-made.invariant.sound base sound)

pub returns-in-Stopped-clause-runs : goal.returns-in-Stopped-clause-runs
returns-in-Stopped-clause-runs g c base sound =
    let was = c.loop-made.invariant in
    let made = makes c.next.new.self c.in_ok-event.field-0 was.agrees was.sound was.stands c.in_ok-event.ensures c.in-Some.is c.requires.clients
    c.step.ensures.event in
    (stopped_so made c.in-Stopped.is base sound, was_stopped made c.in-Stopped.is)

pub returns-in-Stopped-clause-faults : goal.returns-in-Stopped-clause-faults
returns-in-Stopped-clause-faults g c =
    let was = c.loop-made.invariant in
    let made = makes c.next.new.self c.in_ok-event.field-0 was.agrees was.sound was.stands c.in_ok-event.ensures c.in-Some.is c.requires.clients
    c.step.ensures.event in
    stopped_faults made c.in-Stopped.is

pub returns-in-Stopped-clause-ends : goal.returns-in-Stopped-clause-ends
returns-in-Stopped-clause-ends g c =
    let was = c.loop-made.invariant in
    let made = makes c.next.new.self c.in_ok-event.field-0 was.agrees was.sound was.stands c.in_ok-event.ensures c.in-Some.is c.requires.clients
    c.step.ensures.event in
    was_stopped made c.in-Stopped.is

pub unreachable-requires : goal.unreachable-requires
unreachable-requires g c =
    let was = c.loop-made.invariant in
    let made = makes c.next.new.self c.in_ok-event.field-0 was.agrees was.sound was.stands c.in_ok-event.ensures c.in-Some.is c.requires.clients
    c.step.ensures.event in
    never_others made c.in-NotYours.is

pub note-requires : goal.note-requires
note-requires g c =
    let was = c.loop-made.invariant in
    let made = makes c.next.new.self c.in_ok-event.field-0 was.agrees was.sound was.stands c.in_ok-event.ensures c.in-Some.is c.requires.clients
    c.step.ensures.event in
    turn_place made c.turn_of-turn.result c.turn_of-turn.ensures (let less = c.loop-made-test.true in omega (arith, less))

pub returns-in_err-note-in_default-step : goal.returns-in_err-note-in_default-step
returns-in_err-note-in_default-step g c =
    let was = c.loop-made.invariant in
    let made = makes c.next.new.self c.in_ok-event.field-0 was.agrees was.sound was.stands c.in_ok-event.ensures c.in-Some.is c.requires.clients
    c.step.ensures.event in
    let p = err_from_is_err_and c.from_residual-in_err-note-in_default-step.result c.from_residual-in_err-note-in_default-step.ensures.1 in
    record {
      agrees = c.step.ensures.agrees;
      reaches = reach_next g.D.Pm.state g.F.Fingerprint.print c.args.v.now c.loop-made.v c.step.new.v c.in-Some.event c.step.result
          was.reaches c.step.ensures.event;
      sound = λ base sound. c.step.ensures.sound base (was.sound base sound);
      runs = λ base sound. rw (p.1, p.2) (then_so made c.in_default-step.not-NoMemory c.in_default-step.not-Stopped base sound);
      ends = rw (p.1, p.2) tt;
      faults = then_faults made c.in_default-step.not-NoMemory c.in_default-step.not-Stopped;
    }

pub loop-made-preserved : goal.loop-made-preserved
loop-made-preserved g c =
    let was = c.loop-made.invariant in
    let made = makes c.next.new.self c.in_ok-event.field-0 was.agrees was.sound was.stands c.in_ok-event.ensures c.in-Some.is c.requires.clients
    c.step.ensures.event in
    record {
      agrees = c.step.ensures.agrees;
      reaches = reach_next g.D.Pm.state g.F.Fingerprint.print c.args.v.now c.loop-made.v c.step.new.v c.in-Some.event c.step.result
          was.reaches c.step.ensures.event;
      sound = λ base sound. c.step.ensures.sound base (was.sound base sound);
      stands = then_stands made c.in_default-step.not-NoMemory c.in_default-step.not-Stopped c.turn_of-turn.result c.turn_of-turn.ensures
          c.note.new.self c.in_ok-note-in_default-step.ensures;
    }

pub returns-clause-runs : goal.returns-clause-runs
returns-clause-runs g c base sound = stands_so c.loop-made.invariant.stands base sound
