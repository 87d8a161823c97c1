use Rattle.std.proofs.Common.{inl, sym, ◌∙◌}
use Rattle.std.proofs.lemmas.Bool.{false≢true}
use Rattle.std.proofs.lemmas.Result.{on_ok_weaker}
use Rattle.pm_device.proofs.Only.{stores_only-none}
use Rattle.pm_device.proofs.Flushed.{keeps-none}
use Rattle.pm_device.proofs.AllFlushed.{flushes-none, settles_flushes}
use Rattle.pm_device.proofs.Moments.{leaves_only-weaken}
use Rattle.fact_changes.specs.Stale.{stays}
use Rattle.fact_changes.proofs.Staled.{still_images, stale_images, stale_cleared, stale_only, stale_keeps}
use Rattle.fact_changes.proofs.stale.clear_page.Goals as goal

pub returns-then-is_stale-clause-images : goal.returns-then-is_stale-clause-images
returns-then-is_stale-clause-images g c =
    let S = g.D.Pm.state in
    λ d is. stale_images d (S c.args.device.now) c.args.fact.now is c.args.page ((c.is_stale.ensures.stale d is).0 c.if-is_stale.true)
    c.geometry.result c.geometry.ensures (S c.store_pointer.new.device) c.store_pointer.ensures.any_moment

pub returns-then-is_stale-clause-done : goal.returns-then-is_stale-clause-done
returns-then-is_stale-clause-done g c =
    let S = g.D.Pm.state in
    on_ok_weaker c.store_pointer.result (λ done d is. stale_cleared d (S c.args.device.now) c.args.fact.now is c.args.page
    ((c.is_stale.ensures.stale d is).0 c.if-is_stale.true) c.geometry.result c.geometry.ensures c.args.who (S c.store_pointer.new.device)
    c.store_pointer.ensures.only done) c.store_pointer.ensures.done

pub returns-then-is_stale-clause-only : goal.returns-then-is_stale-clause-only
returns-then-is_stale-clause-only g c =
    let S = g.D.Pm.state in
    λ d is. stale_only d (S c.args.device.now) c.args.fact.now is c.args.page ((c.is_stale.ensures.stale d is).0 c.if-is_stale.true) c.geometry.result
    c.geometry.ensures (S c.store_pointer.new.device) c.store_pointer.ensures.only

pub returns-then-is_stale-clause-others : goal.returns-then-is_stale-clause-others
returns-then-is_stale-clause-others g c =
    let S = g.D.Pm.state in
    λ d is. stale_keeps d (S c.args.device.now) c.args.fact.now is c.args.page ((c.is_stale.ensures.stale d is).0 c.if-is_stale.true)
    c.geometry.result c.geometry.ensures c.args.who (S c.store_pointer.new.device) c.store_pointer.ensures.others

pub returns-clause-images : goal.returns-clause-images
returns-clause-images g c =
    let S = g.D.Pm.state in
    λ d is stands. leaves_only-weaken _ _ _ _ (λ x old. inl old) (still_images d (S c.args.device.now) (g.met.D.Pm.agree c.args.device.now) stands)

pub returns-clause-done : goal.returns-clause-done
returns-clause-done g c = λ d is. stays (λ stale. false≢true (sym c.if-is_stale.false ∙ (c.is_stale.ensures.stale d is).1 stale)) is
    (λ stands. stands)

pub returns-clause-only : goal.returns-clause-only
returns-clause-only g c =
    let S = g.D.Pm.state in
    λ d is. stores_only-none _ (S c.args.device.now) (g.met.D.Pm.agree c.args.device.now)

pub returns-clause-others : goal.returns-clause-others
returns-clause-others g c =
    let S = g.D.Pm.state in
    λ d is. keeps-none _ _ (S c.args.device.now)

pub returns-then-is_stale-clause-flushes : goal.returns-then-is_stale-clause-flushes
returns-then-is_stale-clause-flushes g c =
    let S = g.D.Pm.state in
    on_ok_weaker c.store_pointer.result (settles_flushes c.args.who (S c.args.device.now) (S c.store_pointer.new.device))
    c.store_pointer.ensures.settles

pub returns-clause-flushes : goal.returns-clause-flushes
returns-clause-flushes g c = flushes-none c.args.who (g.D.Pm.state c.args.device.now)
