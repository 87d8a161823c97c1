use Rattle.pm_device.specs.Settled.{Nowhere}
use Rattle.pm_device.proofs.AllFlushed.{settles_words}
use Rattle.pm_device.proofs.Calls.{flushed-fence}
use Rattle.pm_device.proofs.Committed.{on_ok}
use Rattle.pm_device.proofs.Flushed.{keeps-fence}
use Rattle.pm_device.proofs.Only.{stores_only-fence}
use Rattle.pm_device.proofs.settle.settle.Goals as goal

pub returns-clause-settled : goal.returns-clause-settled
returns-clause-settled g c =
    let S = g.D.Pm.state in
    on_ok c.fence.result _ (λ went. record {
      flushed = λ a. flushed-fence (S c.args.device.now) (S c.fence.new.self) a c.args.who _ went c.fence.ensures.fences;
    })

pub returns-clause-settles : goal.returns-clause-settles
returns-clause-settles g c =
    let S = g.D.Pm.state in let s = S c.args.device.now in let t = S c.fence.new.self in
    on_ok c.fence.result _ (λ went. settles_words Nowhere c.args.who s t (keeps-fence Nowhere s t c.args.who _ c.fence.ensures.fences)
    (λ a lt no. absurd no) (λ a lt out. flushed-fence s t a c.args.who _ went c.fence.ensures.fences))

pub returns-clause-only : goal.returns-clause-only
returns-clause-only g c = let agree = g.met.D.Pm.agree in
    stores_only-fence _ _ _ c.args.who _ (agree c.args.device.now) (agree c.fence.new.self) c.fence.ensures.fences

pub returns-clause-others : goal.returns-clause-others
returns-clause-others g c = keeps-fence _ _ _ c.args.who _ c.fence.ensures.fences
