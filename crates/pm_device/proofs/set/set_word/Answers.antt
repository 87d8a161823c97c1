use Rattle.std.proofs.Common.{ℕ, List, length, ◌∙◌, ap, arith, length-set}
use Rattle.std.specs.Prelude.{is_ok}
use Rattle.pm_device.proofs.Committed.{on_ok}
use Rattle.pm_device.proofs.SetWord.{Sets, leaves, done, settles_all, only, others}
use Rattle.pm_device.proofs.set.set_word.Goals as goal

pub store-requires-clause-inside : goal.store-requires-clause-inside
store-requires-clause-inside g c = omega (arith, c.requires.inside)

pub flush-requires-clause-inside : goal.flush-requires-clause-inside
flush-requires-clause-inside g c =
    let long = ap (λ (xs : List ℕ). length xs) c.store.ensures.stores.now ∙ length-set (g.D.Pm.state c.args.device.now).now c.args.at c.args.value in
    omega (arith, c.requires.inside, long)

-- the three calls
sets : (g : _) (c : goal.After-fence g)
    → Sets c.args.who c.args.at c.args.value (g.D.Pm.state c.args.device.now)
    (g.D.Pm.state c.store.new.self) (g.D.Pm.state c.flush.new.self) (g.D.Pm.state c.fence.new.self) (is_ok c.fence.result)
sets g c = let agree = g.met.D.Pm.agree in record {
  inside = omega (arith, c.requires.inside);
  stores = c.store.ensures.stores;
  flushes = c.flush.ensures.flushes;
  last = c.fence.ensures.fences;
  agree_s = agree c.args.device.now;
  agree_u = agree c.store.new.self;
  agree_v = agree c.flush.new.self;
  agree_x = agree c.fence.new.self;
}

pub returns-clause-any_moment : goal.returns-clause-any_moment
returns-clause-any_moment g c settled = leaves _ _ _ _ _ _ _ _ (sets g c) settled

pub returns-clause-done : goal.returns-clause-done
returns-clause-done g c = on_ok c.fence.result _ (done _ _ _ _ _ _ _ _ (sets g c))

pub returns-clause-settles : goal.returns-clause-settles
returns-clause-settles g c = on_ok c.fence.result _ (settles_all _ _ _ _ _ _ _ _ (sets g c))

pub returns-clause-only : goal.returns-clause-only
returns-clause-only g c = only _ _ _ _ _ _ _ _ (sets g c)

pub returns-clause-others : goal.returns-clause-others
returns-clause-others g c = others _ _ _ _ _ _ _ _ (sets g c)
