use Rattle.std.proofs.Common.{ℕ, ◌≤◌, length, refl, sym, ◌∙◌, ap, subst, arith}
use Rattle.page_alloc.specs.Free.{FreePages}
use Rattle.file_write.specs.Take.{TakesFirst}
use Rattle.law_clean.specs.Cleaned.{pages_for}
use Rattle.log_clean.proofs.PlanMade.{pages_small, there, few, in_order, all_few, plan_made}
use Rattle.log_clean.proofs.begin.plan.Goals as goal

pub take_pages-requires : goal.take_pages-requires
take_pages-requires g c =
    let lt = there g.D.Pm.state c.args.v.now c.args.ino c.requires.inside c.requires.may c.in_ok-remains.remains c.in_ok-remains.ensures.remains
    c.requires.agrees c.requires.running in
    let told = c.pages_for-count.ensures ∙ ap pages_for c.len.ensures in
    subst (λ (k : ℕ). k ≤ length c.args.v.now.parts.free.free) (sym told) (omega (arith, lt))

pub plan_on-requires-clause-small : goal.plan_on-requires-clause-small
plan_on-requires-clause-small g c = pages_small c.args.v.now.parts.free c.take_pages.new.free c.in_ok-pages.pages.items c.in_ok-pages.ensures.taken
    (in_order g.D.Pm.state c.args.v.now c.args.ino c.requires.inside c.requires.may c.in_ok-remains.remains c.in_ok-remains.ensures.remains
    c.requires.agrees c.requires.running)
    (all_few g.D.Pm.state c.args.v.now c.args.ino c.requires.inside c.requires.may c.in_ok-remains.remains c.in_ok-remains.ensures.remains
    c.requires.agrees c.requires.running)

pub plan_on-requires-clause-few : goal.plan_on-requires-clause-few
plan_on-requires-clause-few g c =
    let most = few g.D.Pm.state c.args.v.now c.args.ino c.requires.inside c.requires.may c.in_ok-remains.remains c.in_ok-remains.ensures.remains
    c.requires.agrees c.requires.running in
    let same = c.in_ok-pages.ensures.count ∙ c.pages_for-count.ensures ∙ ap pages_for (c.len.ensures ∙ c.in_ok-remains.remains.slots.ok.0) in
    subst (λ (k : ℕ). k ≤ 65536) (sym same) most

pub returns-in-Ok-clause-plans : goal.returns-in-Ok-clause-plans
returns-in-Ok-clause-plans g c =
    plan_made g.D.Pm.state c.args.v.now c.args.ino c.requires.inside c.requires.may c.in_ok-remains.remains c.in_ok-remains.ensures.remains
    c.requires.agrees c.requires.running _ c.in_ok-pages.pages.items c.in-Ok.cleaning refl refl c.in_ok-pages.ensures.taken
    (c.in_ok-pages.ensures.count ∙ c.pages_for-count.ensures ∙ ap pages_for (c.len.ensures ∙ c.in_ok-remains.remains.slots.ok.0)) c.in-Ok.ensures.plan

pub returns-in-Err-clause-none : goal.returns-in-Err-clause-none
returns-in-Err-clause-none g c = λ is.
    let order = in_order g.D.Pm.state c.args.v.now c.args.ino c.requires.inside c.requires.may c.in_ok-remains.remains c.in_ok-remains.ensures.remains
    c.requires.agrees c.requires.running in
    ap (λ (free : FreePages). record c.args.v.now { parts = record c.args.v.now.parts { free = free } })
    (c.untake_pages.ensures c.args.v.now.parts.free order
    (subst (TakesFirst c.args.v.now.parts.free c.take_pages.new.free) (sym c.in-Err.ensures.back) c.in_ok-pages.ensures.taken))
