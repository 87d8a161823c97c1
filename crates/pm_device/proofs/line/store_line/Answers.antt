use Rattle.std.proofs.Common.{ap, ◌∙◌, length, ◌*◌, arith}
use Rattle.pm_device.specs.Lines.{StoresRun}
use Rattle.pm_device.specs.Runs.{length-put_run}
use Rattle.pm_device.proofs.AllFlushed.{flushes_run}
use Rattle.pm_device.proofs.StoredRun.{stored_run}
use Rattle.pm_device.proofs.line.store_line.Goals as goal

pub flush-requires-clause-inside : goal.flush-requires-clause-inside
flush-requires-clause-inside g c =
    let S = g.D.Pm.state in
    let now = (S c.args.device.now).now in
    let long = ap length c.store_run.ensures.stores.now ∙ length-put_run now (8 * c.args.line) c.args.words.now in omega (arith, c.requires.inside)

-- the two calls
run : (g : _) (c : goal.After-flush g)
    → StoresRun c.args.who (8 * c.args.line) c.args.words.now (g.D.Pm.state c.args.device.now) (g.D.Pm.state c.flush.new.self)
run g c =
    let S = g.D.Pm.state in let agree = g.met.D.Pm.agree in
    stored_run c.args.who (8 * c.args.line) c.args.line 1 c.args.words.now (S c.args.device.now) (S c.store_run.new.self) (S c.flush.new.self)
    (omega (arith, c.requires.inside, c.requires.whole)) (omega arith) (omega (arith, c.requires.whole))
    (agree c.args.device.now) (agree c.store_run.new.self) (agree c.flush.new.self) c.store_run.ensures.stores c.flush.ensures.flushes

pub returns-clause-stores : goal.returns-clause-stores
returns-clause-stores g c = run g c

pub returns-clause-flushes : goal.returns-clause-flushes
returns-clause-flushes g c = flushes_run _ _ _ _ _ (run g c)
