use Rattle.std.proofs.Common.{refl}
use Rattle.count_board.specs.Passes.{account}
use Rattle.dn_core.specs.declared.event.Event.TheVariants.{Reclaim}
use Rattle.dn_shared.specs.Turns.{IsOver}
use Rattle.dn_shared.proofs.Calling.{keeps_on, works_keep, again_on, loops_over, loops_lacking, loops_stopped}
use Rattle.dn_shared.proofs.shared.Shared.reclaim_loop.Goals as goal

pub loop-init : goal.loop-init
loop-init g c = record {
  again = (c.requires.own, c.requires.away, refl, refl, refl);
  keeps = (refl, refl);
}

pub turn-made-requires : goal.turn-made-requires
turn-made-requires g c = record { own = c.loop.invariant.again.0; away = c.loop.invariant.again.1; may = tt }

pub loop-preserved : goal.loop-preserved
loop-preserved g c = record {
  again = again_on c.args.self.now.board c.args.pass.now c.loop.pass c.turn-made.new.pass c.loop.invariant.again c.turn-made.ensures.again;
  keeps = keeps_on (account c.args.pass.now) (account c.loop.pass) (account c.turn-made.new.pass) c.loop.invariant.keeps
      (works_keep (account c.loop.pass) (account c.turn-made.new.pass) c.turn-made.result.outcome c.turn-made.ensures.tells.tells);
}

pub returns-in-NoMemory-clause-loops : goal.returns-in-NoMemory-clause-loops
returns-in-NoMemory-clause-loops g c = loops_lacking (IsOver Reclaim) (account c.args.pass.now) (account c.loop.pass) (account c.turn-made.new.pass) c.loop.invariant.keeps c.turn-made.result.outcome
    c.turn-made.ensures.tells.tells c.turn-made.ensures.tells.says c.in-NoMemory.is

pub returns-in-Stopped-clause-loops : goal.returns-in-Stopped-clause-loops
returns-in-Stopped-clause-loops g c = loops_stopped (IsOver Reclaim) (account c.args.pass.now) (account c.loop.pass) (account c.turn-made.new.pass) c.loop.invariant.keeps c.turn-made.result.outcome
    c.turn-made.ensures.tells.tells c.turn-made.ensures.tells.says c.in-Stopped.is

pub returns-in-Idle-clause-loops : goal.returns-in-Idle-clause-loops
returns-in-Idle-clause-loops g c = loops_over (IsOver Reclaim) (account c.args.pass.now) (account c.loop.pass) (account c.turn-made.new.pass) c.loop.invariant.keeps c.turn-made.result.outcome
    c.turn-made.ensures.tells.tells c.turn-made.ensures.tells.says c.in-Idle.is
    (c.turn-made.ensures.tells.over c.in-Idle.is c.if-made.true)
