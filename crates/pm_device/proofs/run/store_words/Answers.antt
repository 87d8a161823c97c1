use Rattle.std.proofs.Common.{arith, ap, ◌∙◌, length, ◌/◌}
use Rattle.pm_device.specs.Lines.{StoresRun}
use Rattle.pm_device.specs.Pages.{lines_of}
use Rattle.pm_device.specs.Runs.{length-put_run}
use Rattle.pm_device.proofs.AllFlushed.{flushes_run}
use Rattle.pm_device.proofs.StoredRun.{stored_run}
use Rattle.pm_device.proofs.run.store_words.Goals as goal

pub flush-requires-clause-inside : goal.flush-requires-clause-inside
flush-requires-clause-inside g c =
    let S = g.D.Pm.state in
    let long = ap length c.store_run.ensures.stores.now ∙ length-put_run (S c.args.device.now).now c.args.at c.args.values.now in
    omega (arith, c.requires.inside, long)

-- the two calls
run : (g : _) (c : goal.After-flush g)
    → StoresRun c.args.who c.args.at c.args.values.now (g.D.Pm.state c.args.device.now) (g.D.Pm.state c.flush.new.self)
run g c =
    let S = g.D.Pm.state in let agree = g.met.D.Pm.agree in
    stored_run c.args.who c.args.at (c.args.at / 8) (lines_of c.args.at (length c.args.values.now)) c.args.values.now
    (S c.args.device.now) (S c.store_run.new.self) (S c.flush.new.self)
    (omega (arith, c.requires.inside)) (omega arith) (omega arith) (agree _) (agree _) (agree _) c.store_run.ensures.stores c.flush.ensures.flushes

pub returns-clause-only : goal.returns-clause-only
returns-clause-only g c = (run g c).only

pub returns-clause-holds : goal.returns-clause-holds
returns-clause-holds g c = record { reads = (run g c).reads; flushed = (run g c).flushed }

pub returns-clause-keeps : goal.returns-clause-keeps
returns-clause-keeps g c = (run g c).keeps

pub returns-clause-leaves : goal.returns-clause-leaves
returns-clause-leaves g c = (run g c).leaves

pub returns-clause-flushes : goal.returns-clause-flushes
returns-clause-flushes g c = flushes_run _ _ _ _ _ (run g c)
