use Rattle.std.proofs.Common.{◌≡◌, ℕ, ◌+◌, ◌*◌, ◌≤◌, length, subst, sym, arith}
use Rattle.pm_layout.specs.declared.Geometry.{Geometry}
use Rattle.fact_scan.proofs.Listed.{get_at}
use Rattle.pm_device.proofs.AllFlushed.{flushes-then}
use Rattle.fact_calls.proofs.Course.{
  units-one,
  made_none,
  next_may,
  next_only,
  next_others,
  next_images,
  next_moment,
  next_made,
  next_geometry,
}
use Rattle.fact_calls.specs.Made.{LeavesAfter}
use Rattle.fact_calls.proofs.calls.make_all.Goals as goal

pub loop-i-init : goal.loop-i-init
loop-i-init g c =
    let S = g.D.Pm.state in
    made_none c.args.who c.args.calls.now c.args.fact.now (S c.args.device.now) (g.met.D.Pm.agree c.args.device.now)

pub make-requires-clause-can : goal.make-requires-clause-can
make-requires-clause-can g c =
    let S = g.D.Pm.state in
    let can = c.requires.can in
    record {
      disk = (c.loop-i.invariant.made can.disk can.may).disk;
      may = next_may c.args.who c.args.calls.now c.loop-i.i c.args.fact.now c.loop-i.fact
          (S c.args.device.now) (S c.loop-i.device) c.loop-i.invariant _ (get_at c.args.calls.now c.loop-i.i _ (omega arith)) can.disk can.may;
    }

pub make-requires-clause-room : goal.make-requires-clause-room
make-requires-clause-room g c =
    let S = g.D.Pm.state in
    let one = units-one (3 * c.args.fact.now.geometry.pages) c.loop-i.i (length c.args.calls.now) (omega arith) in
    subst (λ (k : Geometry). 3 * k.pages ≤ (S c.loop-i.device).spare) (sym c.loop-i.invariant.pages)
    (omega (arith, one, c.loop-i.invariant.spare, c.requires.room))

pub returns-in_err-make-clause-images : goal.returns-in_err-make-clause-images
returns-in_err-make-clause-images g c =
    let S = g.D.Pm.state in
    λ d may stands. record {
      made = c.loop-i.i;
      few = omega arith;
      leaves = next_images c.args.who c.args.calls.now c.loop-i.i c.args.fact.now c.loop-i.fact (S c.args.device.now) (S c.loop-i.device)
          c.loop-i.invariant _ (get_at c.args.calls.now c.loop-i.i _ (omega arith)) d may (S c.make.new.device) c.make.ensures.images stands;
    }

pub returns-in_err-make-clause-spare : goal.returns-in_err-make-clause-spare
returns-in_err-make-clause-spare g c =
    let S = g.D.Pm.state in
    let one = units-one (3 * c.args.fact.now.geometry.pages) c.loop-i.i (length c.args.calls.now) (omega arith) in
    let used = subst (λ (k : Geometry). (S c.loop-i.device).spare ≤ (S c.make.new.device).spare + 3 * k.pages) c.loop-i.invariant.pages
    c.make.ensures.spare in
    omega (arith, one, used, c.loop-i.invariant.spare)

pub loop-i-preserved : goal.loop-i-preserved
loop-i-preserved g c =
    let S = g.D.Pm.state in
    let can = c.requires.can in
    let used = subst (λ (k : Geometry). (S c.loop-i.device).spare ≤ (S c.make.new.device).spare + 3 * k.pages) c.loop-i.invariant.pages
    c.make.ensures.spare in
    record {
      spare = omega (arith, used, c.loop-i.invariant.spare);
      faults = omega (arith, c.make.ensures.faults, c.loop-i.invariant.faults);
      pages = next_geometry c.args.who c.args.calls.now c.loop-i.i c.args.fact.now c.loop-i.fact (S c.args.device.now) (S c.loop-i.device)
          c.loop-i.invariant _ (get_at c.args.calls.now c.loop-i.i _ (omega arith)) can.disk can.may (S c.make.new.device) c.make.new.fact
          c.in_ok-make.ensures.done;
      only = next_only c.args.who c.args.calls.now c.loop-i.i c.args.fact.now c.loop-i.fact (S c.args.device.now) (S c.loop-i.device)
          c.loop-i.invariant
          (S c.make.new.device) c.make.ensures.only;
      others = next_others c.args.who c.args.calls.now c.loop-i.i c.args.fact.now c.loop-i.fact (S c.args.device.now) (S c.loop-i.device)
          c.loop-i.invariant (S c.make.new.device) c.make.ensures.others;
      flushes = flushes-then c.args.who (S c.args.device.now) (S c.loop-i.device) (S c.make.new.device) c.loop-i.invariant.flushes
          c.in_ok-make.ensures.flushes;
      images = λ d may stands. next_moment c.args.who c.args.calls.now c.loop-i.i c.args.fact.now c.loop-i.fact (S c.args.device.now)
          (S c.loop-i.device) c.loop-i.invariant _ (get_at c.args.calls.now c.loop-i.i _ (omega arith)) d may (S c.make.new.device)
          c.make.ensures.images stands c.make.new.fact c.in_ok-make.ensures.done (g.met.D.Pm.agree c.make.new.device);
      made = λ d may. next_made c.args.who c.args.calls.now c.loop-i.i c.args.fact.now c.loop-i.fact (S c.args.device.now) (S c.loop-i.device)
          c.loop-i.invariant _ (get_at c.args.calls.now c.loop-i.i _ (omega arith)) d may (S c.make.new.device) c.make.new.fact
          c.in_ok-make.ensures.done;
    }

pub returns-clause-each : goal.returns-clause-each
returns-clause-each g c =
    let S = g.D.Pm.state in
    let all : c.loop-i.i ≡ length c.args.calls.now = omega arith in
    λ d may stands. subst (λ (n : ℕ). LeavesAfter d c.args.calls.now n (S c.args.device.now) (S c.loop-i.device)) all
    (c.loop-i.invariant.images d may stands)

pub returns-clause-images : goal.returns-clause-images
returns-clause-images g c = λ d may stands. record {
  made = length c.args.calls.now;
  few = omega arith;
  leaves = returns-clause-each g c d may stands;
}

pub returns-in_err-make-clause-only : goal.returns-in_err-make-clause-only
returns-in_err-make-clause-only g c =
    let S = g.D.Pm.state in
    next_only c.args.who c.args.calls.now c.loop-i.i c.args.fact.now c.loop-i.fact (S c.args.device.now) (S c.loop-i.device) c.loop-i.invariant
    (S c.make.new.device) c.make.ensures.only

pub returns-in_err-make-clause-others : goal.returns-in_err-make-clause-others
returns-in_err-make-clause-others g c =
    let S = g.D.Pm.state in
    next_others c.args.who c.args.calls.now c.loop-i.i c.args.fact.now c.loop-i.fact (S c.args.device.now) (S c.loop-i.device) c.loop-i.invariant
    (S c.make.new.device) c.make.ensures.others
