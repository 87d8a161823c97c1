use Rattle.std.proofs.Common.{◌≤◌, subst, arith}
use Rattle.pm_layout.specs.declared.Geometry.{Geometry}
use Rattle.pm_device.proofs.AllFlushed.{flushes-then}
use Rattle.fact_changes.proofs.Staled.{clearing_begins, front_images, front_only, front_others, front_on, front_ends}
use Rattle.fact_changes.proofs.stale.clear_stale.Goals as goal

pub loop-page-init : goal.loop-page-init
loop-page-init g c =
    let S = g.D.Pm.state in
    clearing_begins c.args.fact.now c.args.who (S c.args.device.now) (g.met.D.Pm.agree c.args.device.now)

pub clear_page-requires-clause-table : goal.clear_page-requires-clause-table
clear_page-requires-clause-table g c =
    let has = c.requires.table in
    let front = c.loop-page.invariant.front has.disk has.is in
    record { disk = front.disk; is = front.table }

pub returns-in_err-clear_page-clause-images : goal.returns-in_err-clear_page-clause-images
returns-in_err-clear_page-clause-images g c =
    let S = g.D.Pm.state in
    λ d is. front_images d c.args.who c.loop-page.page c.args.fact.now (S c.args.device.now) (S c.loop-page.device) (c.loop-page.invariant.front d is)
    (S c.clear_page.new.device) (c.clear_page.ensures.images (c.loop-page.invariant.front d is).disk (c.loop-page.invariant.front d is).table)

pub returns-in_err-clear_page-clause-only : goal.returns-in_err-clear_page-clause-only
returns-in_err-clear_page-clause-only g c =
    let S = g.D.Pm.state in
    λ d is. front_only d c.args.who c.loop-page.page c.args.fact.now (S c.args.device.now) (S c.loop-page.device) (c.loop-page.invariant.front d is)
    (S c.clear_page.new.device) (c.clear_page.ensures.only (c.loop-page.invariant.front d is).disk (c.loop-page.invariant.front d is).table)

pub returns-in_err-clear_page-clause-others : goal.returns-in_err-clear_page-clause-others
returns-in_err-clear_page-clause-others g c =
    let S = g.D.Pm.state in
    λ d is. front_others d c.args.who c.loop-page.page c.args.fact.now (S c.args.device.now) (S c.loop-page.device) (c.loop-page.invariant.front d is)
    (S c.clear_page.new.device) (c.clear_page.ensures.others (c.loop-page.invariant.front d is).disk (c.loop-page.invariant.front d is).table)

pub loop-page-preserved : goal.loop-page-preserved
loop-page-preserved g c =
    let S = g.D.Pm.state in
    record {
      spare = omega (arith, c.loop-page.invariant.spare, c.clear_page.ensures.spare);
      faults = omega (arith, c.loop-page.invariant.faults, c.clear_page.ensures.faults);
      flushes = flushes-then c.args.who (S c.args.device.now) (S c.loop-page.device) (S c.clear_page.new.device) c.loop-page.invariant.flushes
          c.in_ok-clear_page.ensures.flushes;
      front = λ d is. front_on d c.args.who c.loop-page.page c.args.fact.now (S c.args.device.now) (S c.loop-page.device)
          (c.loop-page.invariant.front d is) (S c.clear_page.new.device) (c.clear_page.ensures.images (c.loop-page.invariant.front d is).disk
          (c.loop-page.invariant.front d is).table) (c.clear_page.ensures.only (c.loop-page.invariant.front d is).disk
          (c.loop-page.invariant.front d is).table) (c.clear_page.ensures.others (c.loop-page.invariant.front d is).disk
          (c.loop-page.invariant.front d is).table) (c.in_ok-clear_page.ensures.done (c.loop-page.invariant.front d is).disk
          (c.loop-page.invariant.front d is).table);
    }

pub returns-clause-done : goal.returns-clause-done
returns-clause-done g c =
    let S = g.D.Pm.state in
    λ d is. front_ends d c.args.who c.loop-page.page c.args.fact.now (S c.args.device.now) (S c.loop-page.device) (c.loop-page.invariant.front d is)
    (subst (λ (k : Geometry). k.pages ≤ c.loop-page.page) c.geometry-page-end.ensures (omega arith))

pub returns-clause-flushes : goal.returns-clause-flushes
returns-clause-flushes g c = c.loop-page.invariant.flushes
