use Rattle.std.proofs.Common.{refl}
use Rattle.count_board.specs.Passes.{account}
use Rattle.dn_shared.proofs.Calling.{again_on, client_on, starts_running, starts_done, starts_lacking, starts_stopped, starts_again}
use Rattle.dn_shared.proofs.shared.Shared.begin.Goals as goal

pub loop-init : goal.loop-init
loop-init g c = record {
  again = (c.requires.own, c.requires.away, refl, refl, refl);
  keeps = (refl, refl);
  may = c.requires.may;
}

pub begin_once-requires : goal.begin_once-requires
begin_once-requires g c = record {
  own = c.loop.invariant.again.0;
  away = c.loop.invariant.again.1;
  client = client_on _ (account c.args.pass.now) (account c.loop.pass) c.loop.invariant.again.3 c.requires.client;
  may = c.loop.invariant.may;
}

pub loop-preserved : goal.loop-preserved
loop-preserved g c =
    let on = starts_again c.args.op.now (account c.args.pass.now) (account c.loop.pass) (account c.begin_once.new.pass) c.loop.invariant.again.3 c.loop.invariant.keeps c.begin_once.result
    c.begin_once.ensures.begun c.in_default.not-Running c.in_default.not-Done c.in_default.not-NoMemory c.in_default.not-Stopped in record {
      again = again_on c.args.self.now.board c.args.pass.now c.loop.pass c.begin_once.new.pass c.loop.invariant.again c.begin_once.ensures.again;
      keeps = on.0;
      may = on.1;
    }

pub returns-in-Running-clause-starts : goal.returns-in-Running-clause-starts
returns-in-Running-clause-starts g c = starts_running c.args.op.now (account c.args.pass.now) (account c.loop.pass) (account c.begin_once.new.pass) c.loop.invariant.again.3 c.loop.invariant.keeps _
    c.begin_once.result c.in-Running.is c.begin_once.ensures.begun c.begin_once.ensures.says

pub returns-in-Done-clause-starts : goal.returns-in-Done-clause-starts
returns-in-Done-clause-starts g c = starts_done c.args.op.now (account c.args.pass.now) (account c.loop.pass) (account c.begin_once.new.pass) c.loop.invariant.again.3 c.loop.invariant.keeps _
    c.begin_once.result c.in-Done.is c.begin_once.ensures.begun c.begin_once.ensures.says

pub returns-in-NoMemory-clause-starts : goal.returns-in-NoMemory-clause-starts
returns-in-NoMemory-clause-starts g c = starts_lacking c.args.op.now (account c.args.pass.now) (account c.loop.pass) (account c.begin_once.new.pass) c.loop.invariant.again.3 c.loop.invariant.keeps
    c.begin_once.result c.in-NoMemory.is c.begin_once.ensures.begun c.begin_once.ensures.says

pub returns-in-Stopped-clause-starts : goal.returns-in-Stopped-clause-starts
returns-in-Stopped-clause-starts g c = starts_stopped c.args.op.now (account c.args.pass.now) (account c.loop.pass) (account c.begin_once.new.pass) c.loop.invariant.again.3 c.loop.invariant.keeps
    c.begin_once.result c.in-Stopped.is c.begin_once.ensures.begun c.begin_once.ensures.says
