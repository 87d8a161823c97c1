use Rattle.std.proofs.Common.{◌/◌, [], ◌∷◌, arith}
use Rattle.pm_device.specs.Lines.{StoresRun}
use Rattle.pm_device.proofs.AllFlushed.{flushes_run}
use Rattle.pm_device.proofs.StoredRun.{stored_run}
use Rattle.pm_device.proofs.line.store_word.Goals as goal

-- the two calls
run : (g : _) (c : goal.After-flush g)
    → StoresRun c.args.who c.args.at (c.args.value ∷ []) (g.D.Pm.state c.args.device.now) (g.D.Pm.state c.flush.new.self)
run g c =
    let S = g.D.Pm.state in let agree = g.met.D.Pm.agree in
    stored_run c.args.who c.args.at (c.args.at / 8) 1 (c.args.value ∷ []) (S c.args.device.now) (S c.store.new.self) (S c.flush.new.self)
    (omega (arith, c.requires.inside)) (omega arith) (omega arith)
    (agree c.args.device.now) (agree c.store.new.self) (agree c.flush.new.self) c.store.ensures.stores c.flush.ensures.flushes

pub returns-clause-stores : goal.returns-clause-stores
returns-clause-stores g c = run g c

pub returns-clause-flushes : goal.returns-clause-flushes
returns-clause-flushes g c = flushes_run _ _ _ _ _ (run g c)
