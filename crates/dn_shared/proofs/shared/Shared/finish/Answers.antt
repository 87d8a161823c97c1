use Rattle.std.proofs.Common.{refl, ◌∙◌}
use Rattle.count_board.specs.Passes.{account}
use Rattle.dn_shared.proofs.Calling.{again_on, client_on, keeps_on, advances_again, finishes_done, finishes_stopped}
use Rattle.dn_shared.proofs.shared.Shared.finish.Goals as goal

pub loop-init : goal.loop-init
loop-init g c = record {
  again = (c.requires.own, c.requires.away, refl, refl, refl);
  keeps = (refl, refl);
}

pub advance_once-requires : goal.advance_once-requires
advance_once-requires g c = record {
  own = c.loop.invariant.again.0;
  away = c.loop.invariant.again.1;
  client = client_on _ (account c.args.pass.now) (account c.loop.pass) c.loop.invariant.again.3 c.requires.client;
  flies = (c.requires.flies.0, c.loop.invariant.keeps.1 ∙ c.requires.flies.1);
}

pub loop-preserved : goal.loop-preserved
loop-preserved g c = record {
  again = again_on c.args.self.now.board c.args.pass.now c.loop.pass c.advance_once.new.pass c.loop.invariant.again c.advance_once.ensures.again;
  keeps = keeps_on (account c.args.pass.now) (account c.loop.pass) (account c.advance_once.new.pass) c.loop.invariant.keeps
      (advances_again (account c.loop.pass) (account c.advance_once.new.pass) c.advance_once.result c.advance_once.ensures.tells
      c.in_default.not-Done c.in_default.not-Stopped);
}

pub returns-in-Done-clause-finishes : goal.returns-in-Done-clause-finishes
returns-in-Done-clause-finishes g c op flies = finishes_done op (account c.args.pass.now) (account c.loop.pass) (account c.advance_once.new.pass)
    c.loop.invariant.again.3 c.loop.invariant.keeps _ c.advance_once.result c.in-Done.is c.advance_once.ensures.tells c.advance_once.ensures.says
    flies

pub returns-in-Stopped-clause-finishes : goal.returns-in-Stopped-clause-finishes
returns-in-Stopped-clause-finishes g c op flies = finishes_stopped op (account c.args.pass.now) (account c.loop.pass)
    (account c.advance_once.new.pass) c.loop.invariant.again.3 c.loop.invariant.keeps c.advance_once.result c.in-Stopped.is
    c.advance_once.ensures.tells c.advance_once.ensures.says
