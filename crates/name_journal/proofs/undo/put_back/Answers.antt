use Rattle.pm_device.proofs.AllFlushed.{flushes-settle}
use Rattle.name_journal.proofs.Told.{on_ok_map}
use Rattle.name_journal.proofs.RolledBack.{rolls_at_any_moment, gates_at_any_moment, rolls_now, rolls_still, rolls_only, rolls_others}
use Rattle.name_journal.proofs.undo.put_back.Goals as goal

pub returns-clause-rolled : goal.returns-clause-rolled
returns-clause-rolled g c =
    let S = g.D.Pm.state in let agree = g.met.D.Pm.agree in
    on_ok_map c.commit.result _ _
    (rolls_now c.args.who c.args.pairs.now (S c.args.device.now) (S c.store_values.new.device) (S c.commit.new.device) (agree c.args.device.now)
    (agree c.store_values.new.device) c.requires.page c.requires.pairs
    c.store_values.ensures.only c.store_values.ensures.ready) c.commit.ensures.done

pub returns-clause-any_moment : goal.returns-clause-any_moment
returns-clause-any_moment g c =
    let S = g.D.Pm.state in let agree = g.met.D.Pm.agree in
    rolls_at_any_moment c.args.who c.args.pairs.now (S c.args.device.now) (S c.store_values.new.device) (S c.commit.new.device)
    (agree c.args.device.now) (agree c.store_values.new.device) c.requires.page c.requires.pairs
    c.store_values.ensures.only c.store_values.ensures.ready c.commit.ensures.any_moment

pub returns-clause-still : goal.returns-clause-still
returns-clause-still g c =
    let S = g.D.Pm.state in let agree = g.met.D.Pm.agree in
    on_ok_map c.commit.result _ _
    (rolls_still c.args.who c.args.pairs.now (S c.args.device.now) (S c.store_values.new.device) (S c.commit.new.device) (agree c.args.device.now)
    (agree c.store_values.new.device) c.requires.page c.requires.pairs
    c.store_values.ensures.only c.store_values.ensures.ready) c.commit.ensures.done

pub returns-clause-only : goal.returns-clause-only
returns-clause-only g c =
    let S = g.D.Pm.state in let agree = g.met.D.Pm.agree in
    rolls_only c.args.who c.args.pairs.now (S c.args.device.now) (S c.store_values.new.device) (S c.commit.new.device) (agree c.args.device.now)
    (agree c.store_values.new.device) c.requires.page c.requires.pairs
    c.store_values.ensures.only c.store_values.ensures.ready c.commit.ensures.only

pub returns-clause-others : goal.returns-clause-others
returns-clause-others g c =
    let S = g.D.Pm.state in let agree = g.met.D.Pm.agree in
    rolls_others c.args.who c.args.pairs.now (S c.args.device.now) (S c.store_values.new.device) (S c.commit.new.device) (agree c.args.device.now)
    (agree c.store_values.new.device) c.requires.page c.requires.pairs
    c.store_values.ensures.only c.store_values.ensures.ready c.store_values.ensures.keeps c.commit.ensures.others

pub returns-clause-gates : goal.returns-clause-gates
returns-clause-gates g c =
    let S = g.D.Pm.state in let agree = g.met.D.Pm.agree in
    gates_at_any_moment c.args.who c.args.pairs.now (S c.args.device.now) (S c.store_values.new.device) (S c.commit.new.device)
    (agree c.args.device.now) (agree c.store_values.new.device) c.requires.page c.requires.pairs
    c.store_values.ensures.only c.store_values.ensures.ready c.commit.ensures.any_moment

pub returns-clause-settles : goal.returns-clause-settles
returns-clause-settles g c =
    let S = g.D.Pm.state in
    on_ok_map c.commit.result _ _
    (flushes-settle c.args.who (S c.args.device.now) (S c.store_values.new.device) (S c.commit.new.device) c.store_values.ensures.flushes)
    c.commit.ensures.settles
